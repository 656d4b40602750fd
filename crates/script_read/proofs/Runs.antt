-- How the mask of one load tells of the bytes below it, and how runs of bytes that pass lead to the first that doesn't.
use Rattle.std.proofs.Common.{◌≡◌, ℕ, ◌+◌, ◌-◌, ◌%◌, ◌^◌, ◌<◌, ◌≤◌, Bool, true, false, not, List, map, length, get_or, drop, take, Some, None, position, Fits, w8, length-drop, get_or-drop, inl, inr, refl, sym, ap, ap₂, ◌∙◌, subst, arith}
use Rattle.std.proofs.lemmas.Bool.{agree_below, agree_below_at, not-true, not-false, cases_lt, lt-ltb, le-ltb}
use Rattle.std.proofs.lemmas.Bool.Decides.{nat_tests}
use Rattle.std.proofs.lemmas.Simd.{map-map, mask_l-mod, length-chunk, first_set_mask_l, run_in_chunk_le, run_in_chunk_fails, run_in_chunk_stops, zip2-map}
use Rattle.std.proofs.lemmas.List.{length-map, take_all}
use Rattle.std.proofs.lemmas.List.Sums.{position_or_len_is, fails_before_first}
use Rattle.std.proofs.lemmas.List.Quantifiers.{position-Some}
use Rattle.std.specs.List.{prefix_len, position_or_len}
use lib.Lanes.{chunk, zip2, mask_l, top}
use Rattle.script_read.specs.Reading.{IsRunIn, lowest_or}

-- an operation on two vectors that were made of one, lane by lane
pub joined : (h : ℕ → ℕ → ℕ) (f g : ℕ → ℕ) (v : List ℕ) {a b : List ℕ} → a ≡ map f v → b ≡ map g v
    → zip2 h a b ≡ map (λ x. h (f x) (g x)) v
joined h f g v p q = ap₂ (zip2 h) p q ∙ zip2-map h f g v

-- z is the mask of a load of n bytes from i on, and a lane of it is set just where a byte fails the test
module _ (test : ℕ → Bool) (bytes : List ℕ) (i n r : ℕ) (z : List ℕ) (room : i + n ≤ length bytes) (few : n ≤ 64)
    (fits : (k : ℕ) → Fits w8 (get_or bytes k 0)) (found : r ≡ lowest_or (mask_l (map (top 7) z) % 2 ^ 64) n)
    (f : ℕ → ℕ) (lanes : z ≡ map f (chunk i n bytes)) where
  abbrev stops : ℕ → Bool
  stops x = top 7 (f x)

  counted : r ≡ prefix_len (λ x. not (stops x)) (chunk i n bytes)
  counted =
      let v = chunk i n bytes in
      let long = length-chunk i n bytes room in
      let mask = ap (λ l. mask_l l % 2 ^ 64) (ap (map (top 7)) lanes ∙ map-map (top 7) f v)
      ∙ mask_l-mod (map stops v) 64 (omega (arith, length-map v stops, long)) in
      found ∙ ap (λ m. lowest_or m n) mask ∙ first_set_mask_l stops v n long few

  pub run_in : agree_below stops (λ x. not (test x)) 256 ≡ true → IsRunIn test bytes i n r
  run_in all = record {
    few = run_in_chunk_le stops bytes i n r 0 room counted;
    pass = λ k from to. not-false _
        (sym (agree_below_at stops (λ x. not (test x)) 256 (get_or bytes k 0) all (fits k).fits)
        ∙ run_in_chunk_fails stops bytes i n r 0 room counted k from to);
    stops = λ short. not-true _
        (sym (agree_below_at stops (λ x. not (test x)) 256 (get_or bytes (i + r) 0) all (fits (i + r)).fits)
        ∙ run_in_chunk_stops stops bytes i n r 0 room counted short);
  }

-- the first place of a byte that passes,
pub first_at : (p : ℕ → Bool) (bytes : List ℕ) (i : ℕ) → i < length bytes → p (get_or bytes i 0) ≡ true
    → ((k : ℕ) → k < i → p (get_or bytes k 0) ≡ false) → Some i ≡ position p bytes
first_at p bytes i lt passes before =
    let at = position_or_len_is p bytes i 0 (omega arith) before (λ h. passes) in
    rw (at, lt-ltb i (length bytes) lt) refl

none_at : (p : ℕ → Bool) (bytes : List ℕ) → ((k : ℕ) → k < length bytes → p (get_or bytes k 0) ≡ false)
    → None ≡ position p bytes
none_at p bytes before =
    let at = position_or_len_is p bytes (length bytes) 0 (omega arith) before (λ h. absurd (omega arith)) in
    rw (at, le-ltb (length bytes) (length bytes) (omega arith)) refl

-- and the same behind bytes that don't
module _ (p : ℕ → Bool) (bytes : List ℕ) (n : ℕ) (le : n ≤ length bytes)
    (before : (k : ℕ) → k < n → p (get_or bytes k 0) ≡ false) where
  behind : (j : ℕ) → ((k : ℕ) → k < j → p (get_or (drop n bytes) k 0) ≡ false) → (k : ℕ) → k < n + j
      → p (get_or bytes k 0) ≡ false
  behind j rest k lt = elim (cases_lt k n) [
    | inl l ↦ before k l
    | inr l ↦
        let back : n + (k - n) ≡ k = omega arith in
        subst (λ (x : ℕ). p x ≡ false) (get_or-drop n bytes (k - n) 0 ∙ ap (λ (m : ℕ). get_or bytes m 0) back)
        (rest (k - n) (omega arith))
  ]

  rest_is : take (length bytes - n) (drop n bytes) ≡ drop n bytes
  rest_is = take_all (length bytes - n) (drop n bytes) (omega (arith, length-drop n bytes))

  pub first_behind : (i : ℕ) → position p (take (length bytes - n) (drop n bytes)) ≡ Some i
      → Some (n + i) ≡ position p bytes
  first_behind i e =
      let s = position-Some p (drop n bytes) i 0 (ap (position p) (sym rest_is) ∙ e) in
      first_at p bytes (n + i) (omega (arith, s.0, length-drop n bytes))
      (subst (λ (x : ℕ). p x ≡ true) (get_or-drop n bytes i 0) s.1) (behind i s.2)

  pub none_behind : position p (take (length bytes - n) (drop n bytes)) ≡ None → None ≡ position p bytes
  none_behind e =
      let rest = drop n bytes in
      let none : position p rest ≡ None = ap (position p) (sym rest_is) ∙ e in
      let past : length rest ≤ position_or_len p rest = grind (arith, nat_tests) in
      none_at p bytes (λ k lt. behind (length rest) (λ j l. fails_before_first p rest j 0 (omega arith)) k
      (omega (arith, length-drop n bytes)))
