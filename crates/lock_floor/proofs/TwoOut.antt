-- Two values that are out while one is worked on beside the other: the one that was taken last moves out of its place,
-- and then the other is first.
use Rattle.lock_floor.proofs.Names.{ℕ, List, [], sym, ap, Me, rest, turned, Slot, Knowledge}
use Rattle.std.proofs.Common.{◌≡◌, ◌++◌, ◌∷◌, ◌∙◌}

pub first_of : (xs : List (ℕ × Slot)) (a : ℕ × Slot) (ys : List (ℕ × Slot)) → xs ≡ a ∷ ys → xs ≡ a ∷ rest xs
first_of xs a ys e = e ∙ ap (λ zs. a ∷ zs) (sym (ap rest e))

-- with nothing in place of the first, and then the second first
pub turned_once : (x y z : ℕ × Slot) (me put turn : Me Slot Knowledge) → me.1 ≡ x ∷ y ∷ [] → put ≡ (me.0, z ∷ rest me.1)
    → turn ≡ (put.0, turned put.1) → turn.1 ≡ y ∷ z ∷ []
turned_once x y z me put turn e f g =
    let first : put.1 ≡ z ∷ y ∷ [] = ap (λ (m : Me Slot Knowledge). m.1) f ∙ ap (λ xs. z ∷ rest xs) e in
    ap (λ (m : Me Slot Knowledge). m.1) g ∙ ap turned first

-- and then first again
pub turned_back : (w y z : ℕ × Slot) (xs ts : List (ℕ × Slot)) → xs ≡ y ∷ z ∷ [] → ts ≡ rest xs ++ w ∷ []
    → ts ≡ z ∷ rest ts
turned_back w y z xs ts e f = first_of ts z (w ∷ []) (f ∙ ap (λ ks. rest ks ++ w ∷ []) e)
