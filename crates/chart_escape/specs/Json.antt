-- How text is written as a JSON string.
use Rattle.std.specs.Prelude.{◌≡◌, ℕ, ◌/◌, ◌%◌, ◌++◌, not, ◌||◌, ◌==◌, nat_lt, if◌then◌else◌, IsTrue, List, [], ◌∷◌, codes, flat_map, Some}
use Rattle.std.specs.Char.{digit_char}
use Rattle.std.specs.List.{list_all}
use Rattle.json.specs.Json.{document, string}

-- a byte by its number
abbrev pub by_number : ℕ → List ℕ
by_number b = codes "\\u00" ++ digit_char (b / 16) ∷ digit_char (b % 16) ∷ []

-- a byte by itself: the quote and the backslash behind a backslash, control bytes and `<` by their numbers
abbrev pub json_byte : ℕ → List ℕ
json_byte b =
    if b == 34 then codes "\\\"" else
    if b == 92 then codes "\\\\" else
    if nat_lt b 32 || b == 60 then by_number b else b ∷ []

-- the string, with its quotes
abbrev pub json_string : List ℕ → List ℕ
json_string text = 34 ∷ flat_map json_byte text ++ 34 ∷ []

-- a reader takes it for just the text
abbrev pub IsReadBack : List ℕ → Type 0
IsReadBack text = document (json_string text) ≡ Some (string text)

-- `<` stands nowhere in it, so no tag of the page round it does
abbrev pub HasNoTag : List ℕ → Type 0
HasNoTag bytes = IsTrue (list_all (λ b. not (b == 60)) bytes)
