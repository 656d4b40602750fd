-- How numbers are written in JSON: as `decimal` has those of 64 bits, and so that a reader takes them for numbers.
use Rattle.std.proofs.Common.{ℕ, zero, suc, ◌+◌, ◌^◌, ◌<◌, ◌≡◌, refl, List, [], ◌∷◌, map, get_or, length, decimal, arith}
use Rattle.std.specs.Char.{is_ascii_digit}
use Rattle.std.specs.Int.Digits.{digits_of, AllBelowBase}
use Rattle.std.specs.List.{prefix_len}
use Rattle.std.proofs.lemmas.Fmt.{decimal-digits_of, decimal_digit}
use Rattle.std.proofs.lemmas.Int.Digits.{all_below_base_digits_of, first_digits_of}
use Rattle.std.proofs.lemmas.List.{drop_all}
use Rattle.json.specs.Print.{IsNumber}
use Rattle.json.specs.Word.{after_number}
use Rattle.chart_escape.specs.Json.{HasNoTag}
use Rattle.chart_escape.specs.Values.{number_bytes}

pub number_is_decimal : (n : ℕ) → n < 2 ^ 64 → decimal n ≡ number_bytes n
unfolding number_bytes
number_is_decimal zero h = decimal_digit 0 (omega arith)
number_is_decimal (suc n) h = decimal-digits_of (suc n) (omega arith) h

-- digits are read to their end, and none is `<`
record AreDigits (bytes : List ℕ) : Type 0 where
  whole : prefix_len is_ascii_digit bytes ≡ length bytes
  no_tag : HasNoTag bytes

are_digits : (ds : List ℕ) → AllBelowBase 10 ds → AreDigits (map (λ d. 48 + d) ds)
are_digits [] h = record { whole = refl; no_tag = refl }
are_digits (d ∷ ds) h =
    let more = are_digits ds h.1 in
    record { whole = grind (arith, h.0, more.whole); no_tag = grind (arith, h.0, more.no_tag) }

digits_of_are : (n : ℕ) → AreDigits (map (λ d. 48 + d) (digits_of 10 n))
digits_of_are n = are_digits (digits_of 10 n) (all_below_base_digits_of 10 n (omega arith))

pub number_has_no_tag : (n : ℕ) → HasNoTag (number_bytes n)
unfolding number_bytes
number_has_no_tag zero = refl
number_has_no_tag (suc n) = (digits_of_are (suc n)).no_tag

-- digits, the first of them not 0
digits_are_number : (ds : List ℕ) → 0 < get_or ds 0 0 → AreDigits (map (λ d. 48 + d) ds)
    → IsNumber (map (λ d. 48 + d) ds)
unfolding after_number
digits_are_number [] first are = absurd (omega arith)
digits_are_number (d ∷ ds) first are =
    let bytes = map (λ d. 48 + d) ds in
    grind (arith, first, are.whole, drop_all (length bytes) bytes (omega arith))

pub is_number : (n : ℕ) → IsNumber (number_bytes n)
unfolding after_number number_bytes
is_number zero = refl
is_number (suc n) =
    let first = first_digits_of 10 (suc n) (omega arith) (omega arith) in
    digits_are_number (digits_of 10 (suc n)) first (digits_of_are (suc n))
