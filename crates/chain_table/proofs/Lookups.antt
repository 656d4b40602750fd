-- What a look-up finds in a chain after a change of it.
use Rattle.std.proofs.Common.{◌≡◌, Bool, true, false, List, [], ◌∷◌, Option, None, Some, IfNone, option_map, Box, Global, cond, refl, ap, sym, ◌∙◌}
use Rattle.std.specs.List.{IsDistinct}
use Rattle.std.specs.Map.{keys_of}
use Rattle.std.proofs.lemmas.Map.{lookup-remove_entry}
use Rattle.lock_model.specs.declared.plan.QueueName.{QueueName}
use Rattle.chain_table.specs.Chains.{head_of, without}
use Rattle.lock_model.specs.Queues.{is_queue}
use Rattle.chain_table.proofs.Names.{is_queue_equiv}

cond_twice : {A : Type 0} (b : Bool) (x y z : A) → cond b x (cond b y z) ≡ cond b x z
cond_twice true x y z = refl
cond_twice false x y z = refl

module _ {H : Type 0} where
  -- ---- without one of the heads
  pub head_of-without : (p q : QueueName) (es : List (QueueName × H)) → IsDistinct is_queue (keys_of es)
      → head_of p (without q es) ≡ cond (is_queue q p) None (head_of p es)
  head_of-without p q es d = lookup-remove_entry is_queue_equiv (is_queue q) (is_queue_equiv.congr q) p es d

  pub head_of-without_itself : (q : QueueName) (es : List (QueueName × H)) → IsDistinct is_queue (keys_of es)
      → head_of q (without q es) ≡ None
  head_of-without_itself q es d = rw (head_of-without q q es d, is_queue_equiv.refl q) refl

  -- ---- with another head in its place, as after it was taken out, changed and put back
  pub head_of-again : (p q : QueueName) (h : H) (es : List (QueueName × H)) → IsDistinct is_queue (keys_of es)
      → head_of p ((q, h) ∷ without q es) ≡ cond (is_queue q p) (Some h) (head_of p es)
  head_of-again p q h es d =
      rw (head_of-without p q es d, is_queue_equiv.symm p q) (cond_twice (is_queue q p) (Some h) None (head_of p es))

  -- ---- where the name is absent
  without_cons : (b : Bool) (e : QueueName × H) (es rest : List (QueueName × H)) (found : Option H)
      → cond b (Some e.1) found ≡ None → (found ≡ None → rest ≡ es) → cond b es (e ∷ rest) ≡ e ∷ es
  without_cons true e es rest found h same = cc
  without_cons false e es rest found h same = ap (λ (xs : List (QueueName × H)). e ∷ xs) (same h)

  pub without_absent : (q : QueueName) (es : List (QueueName × H)) → head_of q es ≡ None → without q es ≡ es
  without_absent q [] h = refl
  without_absent q (e ∷ es) h = without_cons (is_queue q e.0) e es (without q es) (head_of q es) h (without_absent q es)

  pub unchanged_at_none : (q : QueueName) (es new : List (QueueName × H)) (r : Option (Box H Global))
      → option_map (λ b. b.value) r ≡ head_of q es → new ≡ without q es → IfNone r (new ≡ es)
  unchanged_at_none q es new None h e = e ∙ without_absent q es (sym h)
  unchanged_at_none q es new (Some b) h e = tt
