-- Lists read at a place, and what a write makes of them.
use Rattle.std.proofs.Common.{◌≡◌, ℕ, zero, suc, ◌<◌, ◌≤◌, List, [], ◌∷◌, ◌++◌, length, get_or, set, refl, sym, ap, ◌∙◌, inl, inr, arith, get_or-set_same, get_or-set_other}
use Rattle.std.proofs.lemmas.Bool.{cases_eq}
use mathlib.Core.Option.{some, some-injective, some-ne-none}
use lib.ListN.{get_elem?}
use Rattle.lock_state.specs.State.{put}
use Rattle.lock_laws.proofs.Kit.{put_same, put_other}

module _ {A : Type 0} where
  -- what is there is inside, and is what is read
  pub inside : (xs : List A) (i : ℕ) (x : A) → get_elem? xs i ≡ some x → i < length xs
  inside [] i x e = absurd (some-ne-none x (sym e))
  inside (y ∷ ys) zero x e = omega arith
  inside (y ∷ ys) (suc i) x e = let h = inside ys i x e in omega arith

  pub at_or : (xs : List A) (i : ℕ) (x d : A) → get_elem? xs i ≡ some x → get_or xs i d ≡ x
  at_or [] i x d e = absurd (some-ne-none x (sym e))
  at_or (y ∷ ys) zero x d e = some-injective y x e
  at_or (y ∷ ys) (suc i) x d e = at_or ys i x d e

  pub or_at : (xs : List A) (i : ℕ) (d : A) → i < length xs → get_elem? xs i ≡ some (get_or xs i d)
  or_at [] i d h = absurd (omega arith)
  or_at (y ∷ ys) zero d h = refl
  or_at (y ∷ ys) (suc i) d h = or_at ys i d (omega arith)

  -- past the end is the default
  pub or_past : (xs : List A) (i : ℕ) (d : A) → length xs ≤ i → get_or xs i d ≡ d
  or_past [] i d h = refl
  or_past (x ∷ xs) zero d h = absurd (omega arith)
  or_past (x ∷ xs) (suc i) d h = or_past xs i d (omega arith)

  -- with one item more
  pub snoc_before : (xs : List A) (x d : A) (i : ℕ) → i < length xs → get_or (xs ++ x ∷ []) i d ≡ get_or xs i d
  snoc_before [] x d i h = absurd (omega arith)
  snoc_before (y ∷ ys) x d zero h = refl
  snoc_before (y ∷ ys) x d (suc i) h = snoc_before ys x d i (omega arith)

  pub snoc_there : (xs : List A) (x d : A) → get_or (xs ++ x ∷ []) (length xs) d ≡ x
  snoc_there [] x d = refl
  snoc_there (y ∷ ys) x d = snoc_there ys x d

-- the field of an item, read at each place, after a write
pub field_set : {A B : Type 0} (f : A → B) (xs : List A) (i : ℕ) (x d : A) → i < length xs
    → (λ j. f (get_or (set xs i x) j d)) ≡ put (λ j. f (get_or xs j d)) i (f x)
field_set f xs i x d fits = λ k j. at j k
  where
    at : (j : ℕ) → f (get_or (set xs i x) j d) ≡ put (λ j. f (get_or xs j d)) i (f x) j
    at j = elim (cases_eq i j) [
      | inl e ↦ ap (λ m. f (get_or (set xs i x) m d)) (sym e) ∙ ap f (get_or-set_same xs i x d fits)
          ∙ sym (put_same (λ j. f (get_or xs j d)) i (f x)) ∙ ap (put (λ j. f (get_or xs j d)) i (f x)) e
      | inr ne ↦ ap f (get_or-set_other xs i j x d (λ e. ne (sym e)))
          ∙ sym (put_other (λ j. f (get_or xs j d)) i (f x) j ne)
    ]
