-- Values of JSON: what they are, how each is written, and which texts are JSON.
use Rattle.std.specs.Prelude.{◌≡◌, ℕ, zero, suc, ◌+◌, Bool, true, false, List, [], ◌∷◌, ◌++◌, map, codes, Some}
use Rattle.std.specs.Int.Digits.{digits_of}
use Rattle.json.specs.Json.{Json, document}
use Rattle.chart_escape.specs.Json.{json_string}

-- 1. Values

mutual
  -- a value
  pub data Value : Type 0 where
    Number : ℕ → Value
    String : List ℕ → Value
    Array : Items → Value
    Object : Members → Value

  -- the items of an array, each in the line of the one before it or on a line of its own
  pub data Items : Type 0 where
    NoItems : Items
    Item : (own_line : Bool) → Value → Items → Items

  -- the members of an object, each a name and a value, in lines as items are
  pub data Members : Type 0 where
    NoMembers : Members
    Member : (own_line : Bool) → List ℕ → Value → Members → Members

-- these values as items, all so
abbrev pub items : (own_line : Bool) → List Value → Items
items own_line [] = NoItems
items own_line (v ∷ vs) = Item own_line v (items own_line vs)

-- an array of them, in one line
abbrev pub tuple : List Value → Value
tuple vs = Array (items false vs)

-- an array that tells each element of a list by its number and itself, on lines of their own
abbrev pub told_from : {T : Type 0} → (ℕ → T → Value) → ℕ → List T → List Value
told_from told i [] = []
told_from told i (x ∷ xs) = told i x ∷ told_from told (i + 1) xs

abbrev pub numbered : {T : Type 0} → (ℕ → T → Value) → List T → Value
numbered told xs = Array (items true (told_from told 0 xs))

-- an array that tells each element by itself
abbrev pub list : {T : Type 0} → (T → Value) → List T → Value
list told xs = numbered (λ i. told) xs

-- an object of these members, in one line
abbrev pub members : List (List ℕ × Value) → Members
members [] = NoMembers
members (m ∷ ms) = Member false m.0 m.1 (members ms)

abbrev pub object : List (List ℕ × Value) → Value
object ms = Object (members ms)

-- 2. How they are written

-- a number in decimal
unfoldable pub number_bytes : ℕ → List ℕ
number_bytes zero = codes "0"
number_bytes (suc n) = map (λ d. 48 + d) (digits_of 10 (suc n))

-- what stands before an item or a member: a comma, but for the first, and before one on a line of
-- its own the end of the line before
abbrev pub separator : (first own_line : Bool) → List ℕ
separator true true = codes "\n"
separator true false = []
separator false true = codes ",\n"
separator false false = codes ","

abbrev mutual
  pub value_bytes : Value → List ℕ
  value_bytes (Number n) = number_bytes n
  value_bytes (String text) = json_string text
  value_bytes (Array is) = codes "[" ++ items_bytes true is
  value_bytes (Object ms) = codes "{" ++ members_bytes true ms

  -- items, from the first or another on, and the end of their array
  pub items_bytes : Bool → Items → List ℕ
  items_bytes first NoItems = codes "]"
  items_bytes first (Item own_line v is) =
      separator first own_line ++ value_bytes v ++ items_bytes false is

  -- members, from the first or another on, and the end of their object
  pub members_bytes : Bool → Members → List ℕ
  members_bytes first NoMembers = codes "}"
  members_bytes first (Member own_line name v ms) =
      separator first own_line ++ json_string name ++ codes ":" ++ value_bytes v
      ++ members_bytes false ms

-- a text that is a value, and ends its last line
abbrev pub text_bytes : Value → List ℕ
text_bytes v = value_bytes v ++ codes "\n"

-- 3. JSON

-- by the grammar of RFC 8259 a text is JSON
abbrev pub IsJson : List ℕ → Type 0
IsJson text = (j : Json) × (document text ≡ Some j)
