-- The first head of a chain and those behind it, as entries: what a look-up and a removal make of them.
use Rattle.std.proofs.Common.{◌≡◌, Bool, true, false, List, [], ◌∷◌, Option, Some, None, IfSome, option_map, Box, Global, Bor, MatchOption, unwrap_or, ap, sym, ◌∙◌, inl, inr, refl}
use Rattle.std.proofs.lemmas.Bool.{cases_Bool}
use Rattle.std.proofs.lemmas.List.Elements.{All-head, All-tail}
use Rattle.std.proofs.lemmas.Map.Entries.{lookup_head, lookup_tail}
use Rattle.lock_model.specs.declared.plan.QueueName.{QueueName}
use Rattle.chain_table.specs.Chains.{entry_of, entries_of, head_of, without, IsNamed}
use Rattle.lock_model.specs.Queues.{is_queue}
use Rattle.chain_table.proofs.Names.{Decides-is_queue}

not_true : (b : Bool) → (b ≡ true → ⊥) → b ≡ false
not_true true h = absurd (h refl)
not_true false h = refl

-- the heads from a reference on, each without its link
abbrev pub heads_at : {H : Type 0} → (H → H) → (H → List H) → Option (Bor H) → List H
heads_at unlinked behind None = []
heads_at unlinked behind (Some r) = unlinked r.now ∷ behind r.now

-- what `next` lends, as the heads behind
pub heads_at-next : {H : Type 0} (unlinked : H → H) (behind : H → List H) (r : Option (Bor H)) (hs : List H)
    → MatchOption r (hs ≡ []) (λ h. hs ≡ unlinked h.now ∷ behind h.now) → heads_at unlinked behind r ≡ hs
heads_at-next unlinked behind None hs e = sym e
heads_at-next unlinked behind (Some h) hs e = sym e

module _ {H : Type 0} (name_of : H → Option QueueName) where
  -- the first head's name in the chain is its own
  pub named_first : (h : H) (hs : List H) → IsNamed name_of (entries_of name_of (h ∷ hs))
      → name_of h ≡ Some (entry_of name_of h).0
  named_first h hs n = All-head (λ e. name_of e.1 ≡ Some e.0) (entry_of name_of h) (entries_of name_of hs) n

  pub named_rest : (h : H) (hs : List H) → IsNamed name_of (entries_of name_of (h ∷ hs))
      → IsNamed name_of (entries_of name_of hs)
  named_rest h hs n = All-tail (λ e. name_of e.1 ≡ Some e.0) (entry_of name_of h) (entries_of name_of hs) n

  -- ---- it has another
  is_queue_passed : (q : QueueName) (h : H) → name_of h ≡ Some (entry_of name_of h).0 → (name_of h ≡ Some q → ⊥)
      → is_queue q (entry_of name_of h).0 ≡ false
  is_queue_passed q h named other =
      not_true _ (λ t. other (named ∙ ap Some (sym ((Decides-is_queue q (entry_of name_of h).0).0 t))))

  pub head_of_passed : (q : QueueName) (h : H) (hs behind rest : List H) → hs ≡ h ∷ behind → rest ≡ behind
      → IsNamed name_of (entries_of name_of hs) → (name_of h ≡ Some q → ⊥)
      → head_of q (entries_of name_of rest) ≡ head_of q (entries_of name_of hs)
  head_of_passed q h hs behind rest e f n other =
      let here = is_queue_passed q h (named_first h behind (rw e at n)) other in
      rw (e, f) (sym (lookup_tail (is_queue q) (entry_of name_of h) (entries_of name_of behind) here))

  pub without_passed : (q : QueueName) (h : H) (hs behind rest : List H) → hs ≡ h ∷ behind → rest ≡ behind
      → IsNamed name_of (entries_of name_of hs) → (name_of h ≡ Some q → ⊥)
      → entry_of name_of h ∷ without q (entries_of name_of rest) ≡ without q (entries_of name_of hs)
  without_passed q h hs behind rest e f n other =
      let here = is_queue_passed q h (named_first h behind (rw e at n)) other in
      rw (e, f, here) refl

  -- a head and another that differs from it in the link have one name
  pub same_name : (unlinked : H → H) → ((h : H) → name_of (unlinked h) ≡ name_of h) → (h k : H)
      → unlinked h ≡ unlinked k → name_of h ≡ name_of (unlinked k)
  same_name unlinked keeps h k e = sym (keeps h) ∙ ap name_of e

  -- what is found has the name
  named_found : (q : QueueName) (v : H) (es : List (QueueName × H)) → IsNamed name_of es → Some v ≡ head_of q es
      → name_of v ≡ Some q
  named_found q v [] n e = absurd cc
  named_found q v (x ∷ xs) n e = elim (cases_Bool (is_queue q x.0)) [
    | inl y ↦
        let here : Some v ≡ Some x.1 = e ∙ lookup_head (is_queue q) x xs y in
        let same : v ≡ x.1 = cc in
        ap name_of same ∙ All-head (λ e. name_of e.1 ≡ Some e.0) x xs n ∙ ap Some (sym ((Decides-is_queue q x.0).0 y))
    | inr o ↦ named_found q v xs (All-tail (λ e. name_of e.1 ≡ Some e.0) x xs n) (e ∙ lookup_tail (is_queue q) x xs o)
  ]

  pub taken_named : (q : QueueName) (es : List (QueueName × H)) → IsNamed name_of es → (r : Option (Box H Global))
      → option_map (λ b. b.value) r ≡ head_of q es → IfSome r (λ b. name_of b.value ≡ Some q)
  taken_named q es n None e = tt
  taken_named q es n (Some b) e = named_found q b.value es n e
