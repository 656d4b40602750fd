-- How text is written where markup stands: in XML and HTML, between tags or in an attribute's quotes.
use Rattle.std.specs.Prelude.{ℕ, Bool, not, ◌||◌, ◌==◌, nat_lt, if◌then◌else◌, IsTrue, List, [], ◌∷◌, codes, flat_map}
use Rattle.std.specs.List.{list_all}

-- a byte by itself: the five that markup is made of as references, control bytes but the
-- line end as a blank
abbrev pub markup_byte : ℕ → List ℕ
markup_byte b =
    if b == 60 then codes "&lt;" else
    if b == 62 then codes "&gt;" else
    if b == 38 then codes "&amp;" else
    if b == 34 then codes "&#34;" else
    if b == 39 then codes "&#39;" else
    if b == 10 then b ∷ [] else
    if nat_lt b 32 || b == 127 then 32 ∷ [] else b ∷ []

abbrev pub escaped : List ℕ → List ℕ
escaped text = flat_map markup_byte text

-- `<`, `>` or a quote: what ends text, begins a tag, or ends an attribute
abbrev pub is_mark : ℕ → Bool
is_mark b = (b == 60 || b == 62) || (b == 34 || b == 39)

-- no such byte stands there, so markup that goes on with it is still in the same text
abbrev pub StaysText : List ℕ → Type 0
StaysText bytes = IsTrue (list_all (λ b. not (is_mark b)) bytes)
