-- The list of a thread's held locks has just those that it holds: behind a gain or a claim, and behind a release.
use Rattle.lock_laws.proofs.Names
use Names.{ℕ, Bool, true, false, not, cond, eqb, List, [], refl, sym, inl, inr, eq-eqb, cases_eq, ne_eqb, NotHeld}
use Names.{Holds, is_unheld, State, HeldLock, put, put_at, without_held, is_listed, HeldAreListed, Mode, arith}
use Rattle.std.proofs.Common.{◌≡◌, ◌||◌, ◌∷◌, ◌∙◌}
use Rattle.lock_laws.proofs.Kit.{put_same, put_other, put_at_same, put_at_other, put_at_beside}

listed_without : (l k : ℕ) (hs : List HeldLock)
    → is_listed k (without_held l hs) ≡ cond (eqb l k) false (is_listed k hs)
listed_without l k [] = elim (eqb l k) as (λ b. false ≡ cond b false false) [ true ↦ refl | false ↦ refl ]
listed_without l k (h ∷ hs) =
    elim (cases_eq l h.lock) [
      | inl x ↦ rw (eq-eqb l h.lock x) (listed_without l k hs ∙ here x)
      | inr x ↦ rw (ne_eqb l h.lock x) (beside x (listed_without l k hs))
    ]
  where
    here : l ≡ h.lock → cond (eqb l k) false (is_listed k hs) ≡ cond (eqb l k) false (eqb k h.lock || is_listed k hs)
    here x = grind arith

    beside : (l ≡ h.lock → ⊥) → is_listed k (without_held l hs) ≡ cond (eqb l k) false (is_listed k hs)
        → (eqb k h.lock || is_listed k (without_held l hs)) ≡ cond (eqb l k) false (eqb k h.lock || is_listed k hs)
    beside x rest = grind arith

module _ (s : State) (t l : ℕ) (h : HeldAreListed s.held s.held_locks) where
  pub gained : (mode : Mode) (by_try : Bool) → HeldAreListed (put_at s.held t l (Holds mode))
      (put s.held_locks t (record { lock = l; by_try = by_try } ∷ s.held_locks t))
  unfolding HeldAreListed
  gained mode by_try u k = elim (cases_eq t u) [
    | inl x ↦ rw (← x, put_same s.held_locks t (record { lock = l; by_try = by_try } ∷ s.held_locks t)) (mine k)
    | inr x ↦ rw (
      put_other s.held_locks t (record { lock = l; by_try = by_try } ∷ s.held_locks t) u x,
      put_at_other s.held t l (Holds mode) u k x,
    ) (h u k)
  ]
    where
      mine : (k : ℕ) → (eqb k l || is_listed k (s.held_locks t)) ≡ not (is_unheld (put_at s.held t l (Holds mode) t k))
      mine k = elim (cases_eq l k) [
        | inl y ↦ rw (← y, put_at_same s.held t l (Holds mode), eq-eqb l l refl) refl
        | inr y ↦ rw (put_at_beside s.held t l (Holds mode) t k y, ne_eqb k l (λ z. y (sym z))) (h t k)
      ]

  pub released : HeldAreListed (put_at s.held t l NotHeld) (put s.held_locks t (without_held l (s.held_locks t)))
  unfolding HeldAreListed
  released u k = elim (cases_eq t u) [
    | inl x ↦ rw (← x, put_same s.held_locks t (without_held l (s.held_locks t)), listed_without l k (s.held_locks t))
        (mine k)
    | inr x ↦ rw (put_other s.held_locks t (without_held l (s.held_locks t)) u x, put_at_other s.held t l NotHeld u k x)
        (h u k)
  ]
    where
      mine : (k : ℕ)
          → cond (eqb l k) false (is_listed k (s.held_locks t)) ≡ not (is_unheld (put_at s.held t l NotHeld t k))
      mine k = elim (cases_eq l k) [
        | inl y ↦ rw (← y, put_at_same s.held t l NotHeld, eq-eqb l l refl) refl
        | inr y ↦ rw (put_at_beside s.held t l NotHeld t k y, ne_eqb l k y) (h t k)
      ]
