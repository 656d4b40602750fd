-- How a source is cut into lines and a line into words, and how numbers are spelled.
use Rattle.std.specs.Prelude.{ℕ, ◌+◌, ◌-◌, ◌*◌, Bool, false, not, ◌&&◌, ◌==◌, nat_le, nat_eq, if◌then◌else◌, List, [], ◌∷◌, fold, Option, Some, None}
use Rattle.std.specs.List.{list_all}
use Rattle.std.specs.Cmp.Lexicographic.{pointwise}
use Rattle.lock_model.specs.Names.{is_digit}
use Rattle.lock_model.specs.Limits.{greatest_number, greatest_priority}

-- 1. Lines and words

-- with a byte more at the front of the first part
abbrev pub onto_first : ℕ → List (List ℕ) → List (List ℕ)
onto_first b [] = (b ∷ []) ∷ []
onto_first b (part ∷ parts) = (b ∷ part) ∷ parts

-- A source is cut at each byte 10. Bytes behind the last one are a last line.
abbrev pub lines_of : List ℕ → List (List ℕ)
lines_of [] = []
lines_of (b ∷ bs) = if b == 10 then [] ∷ lines_of bs else onto_first b (lines_of bs)

-- A line is cut at each space, so two spaces in a row have an empty word between them.
abbrev pub words_of : List ℕ → List (List ℕ)
words_of [] = [] ∷ []
words_of (b ∷ bs) = if b == 32 then [] ∷ words_of bs else onto_first b (words_of bs)

abbrev pub is_same : List ℕ → List ℕ → Bool
is_same = pointwise nat_eq

-- from a space to ~
abbrev pub is_printable : ℕ → Bool
is_printable b = nat_le 32 b && nat_le b 126

-- an empty line and one that begins with # have no meaning
abbrev pub has_meaning : List ℕ → Bool
has_meaning [] = false
has_meaning (b ∷ bs) = not (b == 35)

-- 2. Numbers: decimal digits without a sign and without leading zeros

abbrev pub digits_value : List ℕ → ℕ
digits_value digits = fold (λ n b. 10 * n + (b - 48)) 0 digits

abbrev pub is_numeral : List ℕ → Bool
is_numeral [] = false
is_numeral (b ∷ []) = is_digit b
is_numeral (b ∷ c ∷ bs) = not (b == 48) && list_all is_digit (b ∷ c ∷ bs)

-- the number that a word spells, up to a bound
abbrev pub number_up_to : ℕ → List ℕ → Option ℕ
number_up_to bound word =
    if is_numeral word && nat_le (digits_value word) bound then Some (digits_value word) else None

abbrev pub number_of : List ℕ → Option ℕ
number_of = number_up_to greatest_number

abbrev pub priority_of : List ℕ → Option ℕ
priority_of = number_up_to greatest_priority
