-- No two cells have the same key, so that a cell's place is its number.
use Rattle.lock_floor.proofs.Names
use Names.{ℕ, zero, suc, ltb, Bool, true, false, cond, List, [], length, get_or, is_lt, Some, None, refl, sym, ap}
use Names.{arith, lt-ltb, le-ltb, eq-eqb, option_map, tied_itself, position_or_len_is, Less-from_sorted, list_any}
use Names.{position_or_len, IsStrictlySortedBy, place_total, place_cmp, CellOf, IsSized, Description, is_cell, slot_of}
use Names.{its_cell}
use Rattle.std.proofs.Common.{◌≡◌, ◌≢◌, ◌+◌, ◌<◌, ◌&&◌, ◌||◌, ◌∷◌, ◌∙◌}

-- 1. Keys that rise differ

keys_differ : (ks : List (ℕ × ℕ)) → IsStrictlySortedBy place_cmp ks → (k i : ℕ) (d : ℕ × ℕ) → k < i → i < length ks
    → get_or ks k d ≢ get_or ks i d
keys_differ ks rise k i d up low same =
    let less = Less-from_sorted place_cmp ks k i d rise up low in
    absurd (let z : false ≡ true = ap is_lt
    (sym (tied_itself place_total (get_or ks k d)) ∙ ap (place_cmp (get_or ks k d)) same ∙ less) in cc)

-- 2. Places

place_of : (floor : Description) (l key n : ℕ) → position_or_len (is_cell l key) floor.keys ≡ n
    → slot_of floor (CellOf l key) ≡ option_map (λ i. length floor.threads + i)
    (cond (ltb n (length floor.keys)) (Some n) None)
place_of floor l key n e =
    ap (λ i. option_map (λ i. length floor.threads + i) (cond (ltb i (length floor.keys)) (Some i) None)) e

-- of the cell of a number
pub cell_at : (floor : Description) → IsSized floor → (i : ℕ) (d : ℕ × ℕ) → i < length floor.keys
    → slot_of floor (CellOf (get_or floor.keys i d).0 (get_or floor.keys i d).1) ≡ Some (length floor.threads + i)
cell_at floor sized i d low =
    let x : ℕ × ℕ = get_or floor.keys i d in
    let here : is_cell x.0 x.1 x ≡ true = λ j. eq-eqb x.0 x.0 refl j && eq-eqb x.1 x.1 refl j in
    place_of floor x.0 x.1 i
    (position_or_len_is (is_cell x.0 x.1) floor.keys i d (omega (arith, low))
    (λ k up. fails k up (is_cell x.0 x.1 (get_or floor.keys k d)) refl) (λ _. here))
    ∙ ap (λ b. option_map (λ i. length floor.threads + i) (cond b (Some i) None)) (lt-ltb i (length floor.keys) low)
  where
    fails : (k : ℕ) → k < i → (b : Bool)
        → is_cell (get_or floor.keys i d).0 (get_or floor.keys i d).1 (get_or floor.keys k d) ≡ b → b ≡ false
    fails k up false e = refl
    fails k up true e = absurd
        (keys_differ floor.keys sized.rising k i d up low
        (its_cell (get_or floor.keys i d).0 (get_or floor.keys i d).1 (get_or floor.keys k d) e))

none_passes : {X : Type 0} (p : X → Bool) (xs : List X) (k : ℕ) (d : X) → list_any p xs ≡ false → k < length xs
    → p (get_or xs k d) ≡ false
none_passes p [] k d h low = absurd (omega arith)
none_passes p (x ∷ xs) k d h low = go (p x) refl k low (λ j e l. none_passes p xs j d e l)
  where
    go : (b : Bool) → p x ≡ b → (k : ℕ) → k < length (x ∷ xs)
        → ((j : ℕ) → list_any p xs ≡ false → j < length xs → p (get_or xs j d) ≡ false)
        → p (get_or (x ∷ xs) k d) ≡ false
    go true e k low rest = absurd (let z : true ≡ false = ap (λ b. b || list_any p xs) (sym e) ∙ h in cc)
    go false e zero low rest = e
    go false e (suc k) low rest = rest k (ap (λ b. b || list_any p xs) (sym e) ∙ h) (omega arith)

-- and of a key that no cell has
pub no_cell : (floor : Description) (l key : ℕ) → list_any (is_cell l key) floor.keys ≡ false
    → slot_of floor (CellOf l key) ≡ None
no_cell floor l key h =
    let n : ℕ = length floor.keys in
    place_of floor l key n
    (position_or_len_is (is_cell l key) floor.keys n (0, 0) (omega arith)
    (λ k low. none_passes (is_cell l key) floor.keys k (0, 0) h low) (λ low. absurd (omega arith)))
    ∙ ap (λ b. option_map (λ i. length floor.threads + i) (cond b (Some n) None)) (le-ltb n n (omega arith))
