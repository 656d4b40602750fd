-- What a chain's look-ups find, where names of queues are the same or differ.
use Rattle.lock_objects.proofs.Names.{Bool, true, false, List, [], Option, None, Some, cond, refl, ap, sym, subst, inl}
use Rattle.lock_objects.proofs.Names.{inr, false_from_ne_true, QueueName, is_queue, head_of, without, Decides-is_queue}
use Rattle.std.proofs.Common.{◌≡◌, ◌≢◌, ◌⊎◌, ◌∷◌, ◌∙◌}

-- 1. Names

pub is_queue-same : (r q : QueueName) → r ≡ q → is_queue r q ≡ true
is_queue-same r q e = (Decides-is_queue r q).1 e

pub is_queue-other : (r q : QueueName) → r ≢ q → is_queue r q ≡ false
is_queue-other r q ne = false_from_ne_true (is_queue r q) (λ e. ne ((Decides-is_queue r q).0 e))

pub cases_queue : (r q : QueueName) → (r ≡ q) ⊎ (r ≢ q)
cases_queue r q = go (is_queue r q) refl
  where
    go : (b : Bool) → is_queue r q ≡ b → (r ≡ q) ⊎ (r ≢ q)
    go true e = inl ((Decides-is_queue r q).0 e)
    go false e = inr (λ same. let z = sym e ∙ is_queue-same r q same in cc)

-- 2. Look-ups

module _ {H : Type 0} where
  -- the first head is found by its name
  pub head_of-first : (r q : QueueName) (h : H) (chain : List (QueueName × H)) → r ≡ q
      → head_of r ((q, h) ∷ chain) ≡ Some h
  head_of-first r q h chain e = ap (λ b. cond b (Some h) (head_of r chain)) (is_queue-same r q e)

  -- by any other name, what is found stands behind it
  pub head_of-behind : (r q : QueueName) (h : H) (chain : List (QueueName × H)) → r ≢ q
      → head_of r ((q, h) ∷ chain) ≡ head_of r chain
  head_of-behind r q h chain ne = ap (λ b. cond b (Some h) (head_of r chain)) (is_queue-other r q ne)

  -- where a head is taken out the others are found
  pub head_of-others : (r q : QueueName) (chain : List (QueueName × H)) → r ≢ q
      → head_of r (without q chain) ≡ head_of r chain
  head_of-others r q [] ne = refl
  head_of-others r q (e ∷ chain) ne = by (is_queue q e.0) refl (head_of-others r q chain ne)
    where
      by : (b : Bool) → is_queue q e.0 ≡ b → head_of r (without q chain) ≡ head_of r chain
          → head_of r (cond b chain (e ∷ without q chain)) ≡ head_of r (e ∷ chain)
      by true i same = ap (λ (t : Bool). cond t (Some e.1) (head_of r chain))
          (sym (is_queue-other r e.0 (λ j. ne (j ∙ sym ((Decides-is_queue q e.0).0 i)))))
      by false i same = ap (λ (o : Option H). cond (is_queue r e.0) (Some e.1) o) same

  -- What is said of each queue by its head, and of a queue without one by none, where the head of one queue changes
  module _ (P : QueueName → Option H → Type 0) (q : QueueName) (chain : List (QueueName × H))
      (others : (r : QueueName) → r ≢ q → P r (head_of r chain)) where
    -- another head is put in the place of the one at the queue, or where none was
    pub all_placed : (h : H) → P q (Some h) → (r : QueueName) → P r (head_of r ((q, h) ∷ without q chain))
    all_placed h new r = elim (cases_queue r q) [
      | inl e ↦ subst (P r) (sym (head_of-first r q h (without q chain) e)) (subst (λ p. P p (Some h)) (sym e) new)
      | inr d ↦ subst (P r) (sym (head_of-behind r q h (without q chain) d ∙ head_of-others r q chain d)) (others r d)
    ]

    -- the head at the queue is gone
    pub all_gone : head_of q (without q chain) ≡ None → P q None → (r : QueueName) → P r (head_of r (without q chain))
    all_gone absent none r = elim (cases_queue r q) [
      | inl e ↦ subst (λ p. P p (head_of p (without q chain))) (sym e) (subst (P q) (sym absent) none)
      | inr d ↦ subst (P r) (sym (head_of-others r q chain d)) (others r d)
    ]
