-- How a number grows with its digits, and which words spell one.
use Rattle.std.proofs.Common.{◌≡◌, if◌then◌else◌, ℕ, ◌+◌, ◌-◌, ◌*◌, ◌^◌, ◌<◌, ◌≤◌, nat_le, Bool, true, false, ◌&&◌, ◌==◌, List, [], ◌∷◌, ◌++◌, length, take, drop, get_or, fold, Some, None, refl, subst, arith, true≢false}
use Rattle.std.specs.List.{list_all}
use Rattle.std.proofs.lemmas.Bool.Decides.{nat_tests}
use Rattle.std.proofs.lemmas.List.{take-append-drop}
use Rattle.std.proofs.lemmas.List.Sums.{fold_more}
use Rattle.lock_model.specs.Names.{is_digit}
use Rattle.lock_model.specs.Script.Lines.{digits_value, is_numeral, number_of}

-- a number with these digits behind it
abbrev digits_from : ℕ → List ℕ → ℕ
digits_from n digits = fold (λ n b. 10 * n + (b - 48)) n digits

grows : (n : ℕ) (digits : List ℕ) → n ≤ digits_from n digits
grows n [] = omega arith
grows n (b ∷ bs) = omega (arith, grows (10 * n + (b - 48)) bs)

grows_behind : (n : ℕ) (front back : List ℕ) → digits_from n front ≤ digits_from n (front ++ back)
grows_behind n [] back = grows n back
grows_behind n (b ∷ front) back = grows_behind (10 * n + (b - 48)) front back

-- the first digits spell no more than all of them
pub value-take : (word : List ℕ) (i : ℕ) → digits_value (take i word) ≤ digits_value word
value-take word i = subst (λ (w : List ℕ). digits_value (take i word) ≤ digits_value w) (take-append-drop i word)
    (grows_behind 0 (take i word) (drop i word))

-- and one digit more
pub value-next : (word : List ℕ) (i : ℕ) → i < length word
    → digits_value (take (i + 1) word) ≡ 10 * digits_value (take i word) + (get_or word i 0 - 48)
value-next word i h = fold_more _ 0 word i 0 h

-- a word that spells too large a number has none
pub too_large : (word : List ℕ) → 2 ^ 64 ≤ digits_value word → number_of word ≡ None
too_large word h =
    let past : nat_le (digits_value word) (2 ^ 64 - 1) ≡ false = grind (arith, nat_tests) in
    rw past (by (is_numeral word))
  where
    by : (t : Bool) → (if t && false then Some (digits_value word) else None) ≡ None
    by true = refl
    by false = refl

-- one digit is a numeral
pub short_numeral : (word : List ℕ) → (length word == 0) ≡ false → length word ≤ 1 → list_all is_digit word ≡ true
    → is_numeral word ≡ true
short_numeral [] n s h = absurd (true≢false n)
short_numeral (b ∷ []) n s h = grind arith
short_numeral (b ∷ c ∷ bs) n s h = absurd (omega arith)

-- more digits are one where the first isn't 0
pub long_numeral : (word : List ℕ) → 1 < length word → (get_or word 0 0 == 48) ≡ false → list_all is_digit word ≡ true
    → is_numeral word ≡ true
long_numeral [] l f h = absurd (omega arith)
long_numeral (b ∷ []) l f h = absurd (omega arith)
long_numeral (b ∷ c ∷ bs) l f h = rw (f, h) refl

-- a numeral below 2 ^ 64 spells its number
pub spells : (word : List ℕ) (n : ℕ) → is_numeral word ≡ true → n ≡ digits_value word → n < 2 ^ 64
    → Some n ≡ number_of word
spells word n k e small =
    let within : nat_le (digits_value word) (2 ^ 64 - 1) ≡ true = grind (arith, nat_tests) in
    rw (k, within, e) refl
