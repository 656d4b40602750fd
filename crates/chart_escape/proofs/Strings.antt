-- How strings are written in JSON.
use Rattle.std.proofs.Common.{ℕ, ◌+◌, ◌*◌, ◌/◌, ◌%◌, ◌<◌, ◌≡◌, ◌∙◌, ◌++◌, ap, ap₂, refl, false, ◌==◌, nat_lt, List, [], ◌∷◌, codes, flat_map, Some, append_assoc, arith}
use Rattle.std.specs.Char.{digit_char}
use Rattle.std.proofs.lemmas.Str.{digit_value-digit_char, encode_ascii}
use Rattle.json.specs.Lex.{between, in_string, lex, string_token, token}
use Rattle.json.specs.Text.{code_unit, content, plain, prepend, short_escape}
use Rattle.json.specs.Token.{string}
use Rattle.chart_escape.specs.Json.{by_number, json_byte, json_string}

-- 1. What a reader makes of a byte's text, before any other

short_read : (r : List ℕ)
    → (content plain (codes "\\\"" ++ r) ≡ prepend (34 ∷ []) (content plain r))
    × (content plain (codes "\\\\" ++ r) ≡ prepend (92 ∷ []) (content plain r))
unfolding content short_escape
short_read r = (refl, refl)

unit_is : (b : ℕ) → b < 128 → code_unit 48 48 (digit_char (b / 16)) (digit_char (b % 16)) ≡ Some b
unfolding code_unit
unit_is b h =
    let back : b / 16 * 16 + b % 16 ≡ b = grind arith in
    grind (arith, back, digit_value-digit_char (b / 16) (omega arith), digit_value-digit_char (b % 16) (omega arith))

number_read : (b : ℕ) (r : List ℕ) → b < 128 → content plain (by_number b ++ r) ≡ prepend (b ∷ []) (content plain r)
unfolding content
number_read b r h = grind (arith, unit_is b h, encode_ascii b h)

plain_read : (b : ℕ) (r : List ℕ) → (b == 34) ≡ false → (b == 92) ≡ false → nat_lt b 32 ≡ false
    → content plain (b ∷ r) ≡ prepend (b ∷ []) (content plain r)
unfolding content
plain_read b r quote backslash control = rw (quote, backslash, control) refl

byte_read : (b : ℕ) (r : List ℕ) → content plain (json_byte b ++ r) ≡ prepend (b ∷ []) (content plain r)
byte_read b r = grind (arith, short_read r, number_read b r, plain_read b r)

-- 2. A string goes on behind it

digit_lexed : (d : ℕ) (r : List ℕ) → d < 16 → lex in_string (digit_char d ∷ r) ≡ lex in_string r
unfolding lex
digit_lexed d r h = grind (arith, h)

byte_lexed : (b : ℕ) (r : List ℕ) → lex in_string (json_byte b ++ r) ≡ lex in_string r
unfolding lex
byte_lexed b r = grind (arith, digit_lexed (b / 16) (digit_char (b % 16) ∷ r), digit_lexed (b % 16) r)

-- 3. The whole string

string_read : (text r : List ℕ)
    → (content plain (flat_map json_byte text ++ 34 ∷ r) ≡ Some text)
    × (lex in_string (flat_map json_byte text ++ 34 ∷ r) ≡ lex between r)
unfolding content lex
string_read [] r = (refl, refl)
string_read (b ∷ bs) r =
    let rest = flat_map json_byte bs ++ 34 ∷ r in
    let more = string_read bs r in
    rw (append_assoc (json_byte b) (flat_map json_byte bs) (34 ∷ r))
    (byte_read b rest ∙ ap (prepend (b ∷ [])) more.0, byte_lexed b rest ∙ more.1)

pub string_lexed : (text r : List ℕ) → lex between (json_string text ++ r) ≡ token (string text) ∷ lex between r
unfolding lex
string_lexed text r =
    let whole = string_read text r in
    ap (λ l. lex between (34 ∷ l)) (append_assoc (flat_map json_byte text) (34 ∷ []) r)
    ∙ ap₂ (λ o l. token (string_token o) ∷ l) whole.0 whole.1
