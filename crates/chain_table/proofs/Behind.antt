-- The objects that a link leads to, as heads behind their names: who is taken out by a name, and who stays.
use Rattle.std.proofs.Common.{◌≡◌, true, false, cond, List, [], ◌∷◌, map, Option, Some, None, IfSome, option_map, unwrap_or, Box, Global, refl, ap}
use Rattle.std.proofs.lemmas.List.Elements.{All-head, All-tail}
use Rattle.lock_model.specs.declared.plan.QueueName.{QueueName}
use Rattle.lock_model.specs.declared.plan.QueueName.TheVariants.{Lock}
use Rattle.lock_model.specs.Queues.{is_queue}
use Rattle.wait_objects.specs.Seen.{Contents, Object}
use Rattle.wait_objects.specs.Named.{is_named, head_for, without_head, bare}
use Rattle.chain_table.specs.Chains.{entry_of, entries_of, head_of, without, IsNamed}
use Rattle.chain_table.specs.Objects.{behind}

module _ {E : Type 0} (name_of : E → Option QueueName) where
  -- the name of an object, and an object behind its name
  abbrev pub name : Object E → Option QueueName
  name t = name_of t.contents.own

  abbrev entry : Contents E → QueueName × Object E
  entry c = entry_of name (bare c)

  abbrev pub entries : List (Contents E) → List (QueueName × Object E)
  entries cs = entries_of name (map bare cs)

  -- where there is a name, it is the one that is sought as its key is
  same_test : (q d : QueueName) (o : Option QueueName) → o ≡ Some (unwrap_or o d)
      → is_named q o ≡ is_queue q (unwrap_or o d)
  same_test q d None e = absurd cc
  same_test q d (Some p) e = refl

  test_first : (q : QueueName) (c : Contents E) (cs : List (Contents E)) → IsNamed name (entries (c ∷ cs))
      → is_named q (name_of c.own) ≡ is_queue q (entry c).0
  test_first q c cs n = same_test q (Lock (record { 0 = 0 })) (name_of c.own)
      (All-head (λ e. name e.1 ≡ Some e.0) (entry c) (entries cs) n)

  named_behind : (c : Contents E) (cs : List (Contents E)) → IsNamed name (entries (c ∷ cs)) → IsNamed name (entries cs)
  named_behind c cs n = All-tail (λ e. name e.1 ≡ Some e.0) (entry c) (entries cs) n

  pub taken_behind : (q : QueueName) (cs : List (Contents E)) → IsNamed name (entries cs)
      → option_map bare (head_for name_of q cs) ≡ head_of q (entries cs)
  taken_behind q [] n = refl
  taken_behind q (c ∷ cs) n =
      let rest = taken_behind q cs (named_behind c cs n) in
      rw (test_first q c cs n) (elim (is_queue q (entry c).0) as (λ b. option_map bare
      (cond b (Some c) (head_for name_of q cs)) ≡ cond b (Some (bare c)) (head_of q (entries cs)))
      [ true ↦ refl | false ↦ rest ])

  pub others_behind : (q : QueueName) (cs : List (Contents E)) → IsNamed name (entries cs)
      → entries (without_head name_of q cs) ≡ without q (entries cs)
  others_behind q [] n = refl
  others_behind q (c ∷ cs) n =
      let rest = others_behind q cs (named_behind c cs n) in
      rw (test_first q c cs n) (elim (is_queue q (entry c).0) as (λ b. entries
      (cond b cs (c ∷ without_head name_of q cs)) ≡ cond b (entries cs) (entry c ∷ without q (entries cs)))
      [ true ↦ refl | false ↦ ap (λ es. entry c ∷ es) rest ])

-- what was taken has nothing behind it
pub bare_taken : {E : Type 0} (r : Option (Box (Object E) Global)) (o : Option (Contents E))
    → option_map (λ b. b.value) r ≡ option_map bare o → IfSome r (λ b. behind b.value ≡ [])
bare_taken None o e = tt
bare_taken (Some b) None e = absurd cc
bare_taken (Some b) (Some c) e = let same : b.value ≡ bare c = cc in rw same refl
