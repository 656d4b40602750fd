-- Lists of changes: the value in a row, by the changes up to there.
use Rattle.std.proofs.Common.{◌≡◌, ℕ, zero, suc, ◌+◌, ◌-◌, ◌<◌, ◌≤◌, Bool, cond, leb, List, [], ◌∷◌, length, get_or, take, drop, Option, Some, None, refl, sym, ap, inl, inr, arith, ◌∙◌}
use Rattle.std.specs.Prelude.{fold}
use Rattle.std.specs.List.{All}
use Rattle.std.specs.List.Sorted.{IsNonDecreasingBy}
use Rattle.std.proofs.lemmas.Bool.{cases_eq, le-leb, lt-leb}
use Rattle.std.proofs.lemmas.List.{get_or-drop, get_or-take, get_or_default, length-drop, length-take, take-append-drop}
use Rattle.std.proofs.lemmas.List.Elements.{All-tail}
use Rattle.std.proofs.lemmas.List.Sums.{fold-append, fold_more}
use Rattle.std.proofs.lemmas.Option.{same_Some}
use Rattle.run_tracks.specs.Tracks.{value_in, Ascend, IsTrack, LieUpTo}

module _ {T : Type 0} where
  -- what a change makes of the value before it, in a row
  abbrev pub replaced : ℕ → Option T → ℕ × T → Option T
  replaced row before change = cond (leb change.0 row) (Some change.1) before

  -- changes behind the row leave the value,
  pub unchanged : (row : ℕ) (before : Option T) (xs : List (ℕ × T))
      → ((k : ℕ) (d : ℕ × T) → k < length xs → row < (get_or xs k d).0) → fold (replaced row) before xs ≡ before
  unchanged row before [] later = refl
  unchanged row before (x ∷ xs) later =
      unchanged row (replaced row before x) xs (λ k d l. later (suc k) d (omega arith))
      ∙ ap (λ (b : Bool). cond b (Some x.1) before) (lt-leb x.0 row (later 0 x (omega arith)))

  -- so it is told by those that aren't,
  pub first_tell : (row : ℕ) (xs : List (ℕ × T)) (i : ℕ)
      → ((k : ℕ) (d : ℕ × T) → i ≤ k → k < length xs → row < (get_or xs k d).0)
      → value_in row (take i xs) ≡ value_in row xs
  first_tell row xs i later = sym (sym (ap (value_in row) (take-append-drop i xs))
      ∙ fold-append (replaced row) None (take i xs) (drop i xs)
      ∙ unchanged row (value_in row (take i xs)) (drop i xs)
      (λ k d l. rw get_or-drop (later (i + k) d (omega arith) (omega (arith, l, length-drop i xs)))))

  -- and one change more holds from its row on
  pub one_more : (row : ℕ) (xs : List (ℕ × T)) (i : ℕ) (d e : ℕ × T) → i < length xs → value_in row (take (i + 1) xs)
      ≡ cond (leb (get_or xs i d).0 row) (Some (get_or xs i e).1) (value_in row (take i xs))
  one_more row xs i d e l = fold_more (replaced row) None xs i d l
      ∙ ap (λ (x : ℕ × T). replaced row (value_in row (take i xs)) ((get_or xs i d).0, x.1)) (get_or_default xs i d e l)

  -- changes up to a row tell the same of those behind it
  pub same_behind : (row n : ℕ) (before : Option T) (xs : List (ℕ × T)) → row ≤ n → All (λ x. x.0 ≤ row) xs
      → fold (replaced n) before xs ≡ fold (replaced row) before xs
  same_behind row n before [] l up = refl
  same_behind row n before (x ∷ xs) l up =
      let low : x.0 ≤ row = up 0 x (omega arith) in
      ap (λ (b : Bool). fold (replaced n) (cond b (Some x.1) before) xs)
      (le-leb x.0 n (omega arith) ∙ sym (le-leb x.0 row low))
      ∙ same_behind row n (replaced row before x) xs l (All-tail (λ y. y.0 ≤ row) x xs up)

  pub still_told : (row n : ℕ) (xs : List (ℕ × T)) (i : ℕ) → LieUpTo row xs i → row ≤ n
      → value_in n (take i xs) ≡ value_in row xs
  still_told row n xs i lies l =
      same_behind row n None (take i xs) l (λ k d m.
      let l : k < i = omega (arith, m, length-take i xs) in rw (get_or-take i xs k d l) (lies.0 k d (omega arith) l))
      ∙ first_tell row xs i lies.1

  -- some change lies up to each row,
  pub some_up_to : (row : ℕ) (xs : List (ℕ × T)) (i : ℕ) → IsTrack xs → LieUpTo row xs i → 1 ≤ i
  some_up_to row [] i h point = let z : None ≡ Some 0 = h.begins in absurd cc
  some_up_to row (x ∷ xs) zero h point =
      let first : x.0 ≡ 0 = same_Some x.0 0 h.begins in
      let behind : row < x.0 = point.1 0 x (omega arith) (omega arith) in absurd (omega (arith, first, behind))
  some_up_to row (x ∷ xs) (suc i) h point = omega arith

  -- and the one before the first behind the row is found
  pub found_in : (row : ℕ) (xs : List (ℕ × T)) (i : ℕ) (d : ℕ × T) → LieUpTo row xs i → 1 ≤ i → i ≤ length xs
      → value_in row xs ≡ Some (get_or xs (i - 1) d).1
  found_in row xs i d point some within =
      let last : i - 1 + 1 ≡ i = omega arith in
      sym (first_tell row xs i point.1) ∙ ap (λ k. value_in row (take k xs)) (sym last)
      ∙ one_more row xs (i - 1) d d (omega arith)
      ∙ ap (λ (b : Bool). cond b (Some (get_or xs (i - 1) d).1) (value_in row (take (i - 1) xs)))
      (le-leb (get_or xs (i - 1) d).0 row (point.0 (i - 1) d (omega arith) (omega arith)))

  -- rows rise
  pub rows_rise : (xs : List (ℕ × T)) → Ascend xs → IsNonDecreasingBy (λ x. x.0) xs
  rows_rise xs h i j d l n = elim (cases_eq i j) [
    | inl e ↦ let same : (get_or xs i d).0 ≡ (get_or xs j d).0 = ap (λ (k : ℕ). (get_or xs k d).0) e in
        omega (arith, same)
    | inr e ↦ let less = h i j d (omega (arith, e)) n in omega (arith, less)
  ]
