-- What is read of the first and the second place of a list tells how the list begins.
use Rattle.lock_floor.proofs.Names.{true, false, List, [], slice_get, Some, None, refl, is_empty, arith}
use Rattle.std.proofs.Common.{◌≡◌, ◌∷◌, ◌∙◌}

-- nothing is at the first place of an empty list alone
pub none_first : {A : Type 0} (xs : List A) → None ≡ slice_get xs 0 → xs ≡ []
none_first [] e = refl
none_first (x ∷ xs) e = absurd cc

pub some_first : {A : Type 0} (xs : List A) (x : A) → Some x ≡ slice_get xs 0 → (ys : List A) × (xs ≡ x ∷ ys)
some_first [] x e = absurd cc
some_first (y ∷ ys) x e = (ys, let z : Some x ≡ Some y = e in cc)

-- and nothing at the second where nothing is behind the first
pub none_second : {A : Type 0} (xs ys : List A) (x : A) → xs ≡ x ∷ ys → None ≡ slice_get xs 1 → true ≡ is_empty ys
none_second xs [] x is e = refl
none_second xs (y ∷ ys) x is e =
    absurd (let z : None ≡ Some y = e ∙ (λ i. slice_get (is i) 1) in cc)

pub some_second : {A : Type 0} (xs ys : List A) (x z : A) → xs ≡ x ∷ ys → Some z ≡ slice_get xs 1
    → false ≡ is_empty ys
some_second xs f x z is e = grind arith
