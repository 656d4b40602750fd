-- What is written of a value is JSON, in which no tag begins.
use Rattle.std.proofs.Common.{ℕ, ◌+◌, ◌≤◌, ◌≡◌, ◌∙◌, ◌++◌, ap, refl, sym, Bool, true, false, List, [], ◌∷◌, flat_map, Some, option_and_then, append_assoc, append-nil, codes, arith}
use Rattle.std.proofs.lemmas.Grind.{common_steps}
use Rattle.std.proofs.lemmas.List.Folds.{list_all-append}
use Rattle.json.proofs.Printed.Numbers.{lex-number}
use Rattle.json.proofs.Printed.Trees.{value-json_tokens}
use Rattle.json.specs.Json as tree
use Rattle.json.specs.Json.{Json, document, if_last, max_depth, value}
use Rattle.json.specs.Lex.{Place, after_comma, after_value, begins_colon, between, fresh, lex, punctuate}
use Rattle.json.specs.Token.{Token}
use Rattle.json.specs.Tree.{depth, items_depth, items_tokens, json_tokens, members_tokens}
use Rattle.json.specs.Word.{ends_word}
use Rattle.chart_escape.proofs.Numbers.{is_number, number_has_no_tag}
use Rattle.chart_escape.proofs.Strings.{string_lexed}
use Rattle.chart_escape.specs.Json.{json_byte, json_string, HasNoTag, IsReadBack}
use Rattle.chart_escape.specs.Values.{Value, Number, String, Array, Object, Items, NoItems, Item, Members, NoMembers, Member, items, items_bytes, members_bytes, number_bytes, separator, told_from, text_bytes, value_bytes, IsJson}

-- 1. What a reader takes a value for

abbrev mutual
  pub json_of : Value → Json
  json_of (Number n) = tree.number (number_bytes n)
  json_of (String text) = tree.string text
  json_of (Array is) = tree.array (json_items is)
  json_of (Object ms) = tree.object (json_members ms)

  pub json_items : Items → tree.Items
  json_items NoItems = tree.no_items
  json_items (Item own_line v is) = tree.item (json_of v) (json_items is)

  pub json_members : Members → tree.Members
  json_members NoMembers = tree.no_members
  json_members (Member own_line name v ms) = tree.member name (json_of v) (json_members ms)

-- at most so many arrays and objects lie in one another
abbrev pub IsShallow : ℕ → Value → Type 0
IsShallow k v = depth (json_of v) ≤ k

-- 2. Its tokens

-- what stands behind a value ends it, and makes no name of it
record Ends (r : List ℕ) : Type 0 where
  word : ends_word r ≡ true
  colon : begins_colon (lex between r) ≡ false

items_end : (is : Items) (r : List ℕ) → Ends (items_bytes false is ++ r)
unfolding lex
items_end NoItems r = record { word = refl; colon = refl }
items_end (Item own_line v is) r = record { word = grind arith; colon = grind arith }

members_end : (ms : Members) (r : List ℕ) → Ends (members_bytes false ms ++ r)
unfolding lex
members_end NoMembers r = record { word = refl; colon = refl }
members_end (Member own_line name v ms) r = record { word = grind arith; colon = grind arith }

-- where a reader is before the separator of an item, and behind it
abbrev before : Bool → Place
before true = fresh
before false = after_value

abbrev behind : Bool → Place
behind true = fresh
behind false = after_comma

separator_read : (first own_line : Bool) (r : List ℕ)
    → punctuate (before first) (lex between (separator first own_line ++ r)) ≡ punctuate (behind first) (lex between r)
unfolding lex punctuate
separator_read first own_line r = grind arith

name_read : (first : Bool) (name r : List ℕ)
    → punctuate (behind first) (lex between (json_string name ++ 58 ∷ r)) ≡ Token.key name
    ∷ punctuate fresh (lex between r)
unfolding lex punctuate
name_read first name r = grind (arith, string_lexed name (58 ∷ r))

mutual
  unfolding lex punctuate

  value_read : (first : Bool) (v : Value) (r : List ℕ) → Ends r
      → punctuate (behind first) (lex between (value_bytes v ++ r)) ≡ json_tokens (json_of v)
      ++ punctuate after_value (lex between r)
  value_read first (Number n) r e = grind (arith, lex-number (number_bytes n) r (is_number n) e.word)
  value_read first (String text) r e = grind (arith, string_lexed text r, e.colon)
  value_read first (Array is) r e = grind (arith, items_read true is r)
  value_read first (Object ms) r e = grind (arith, members_read true ms r)

  items_read : (first : Bool) (is : Items) (r : List ℕ)
      → punctuate (before first) (lex between (items_bytes first is ++ r)) ≡ items_tokens (json_items is)
      ++ punctuate after_value (lex between r)
  items_read first NoItems r = grind arith
  items_read first (Item own_line v is) r =
      let rest = items_bytes false is ++ r in
      simp append_assoc
      (separator_read first own_line (value_bytes v ++ rest) ∙ value_read first v rest (items_end is r)
      ∙ ap (λ ts. json_tokens (json_of v) ++ ts) (items_read false is r))

  members_read : (first : Bool) (ms : Members) (r : List ℕ)
      → punctuate (before first) (lex between (members_bytes first ms ++ r)) ≡ members_tokens (json_members ms)
      ++ punctuate after_value (lex between r)
  members_read first NoMembers r = grind arith
  members_read first (Member own_line name v ms) r =
      let rest = members_bytes false ms ++ r in
      rw (append_assoc, append_assoc, append_assoc, append_assoc)
      (separator_read first own_line (json_string name ++ 58 ∷ (value_bytes v ++ rest))
      ∙ name_read first name (value_bytes v ++ rest)
      ∙ ap (λ ts. Token.key name ∷ ts)
      (value_read true v rest (members_end ms r) ∙ ap (λ ts. json_tokens (json_of v) ++ ts) (members_read false ms r)
      ∙ sym (append_assoc (json_tokens (json_of v)) (members_tokens (json_members ms)) _)))

-- 3. JSON

-- a value, and what is nothing to a reader
read_whole : (v : Value) (r : List ℕ) → Ends r → punctuate after_value (lex between r) ≡ [] → IsShallow 128 v
    → document (value_bytes v ++ r) ≡ Some (json_of v)
read_whole v r ends none shallow =
    ap (λ ts. option_and_then (λ p. if_last p.0 p.1) (value max_depth ts))
    (value_read true v r ends ∙ ap (λ ts. json_tokens (json_of v) ++ ts) none)
    ∙ ap (option_and_then (λ p. if_last p.0 p.1)) (value-json_tokens (json_of v) max_depth [] shallow)

pub is_json : (v : Value) → IsShallow 128 v → IsJson (text_bytes v)
unfolding lex punctuate
is_json v shallow = (json_of v, read_whole v (codes "\n") (record { word = refl; colon = refl }) refl shallow)

pub is_read_back : (text : List ℕ) → IsReadBack text
unfolding lex punctuate
is_read_back text = ap document (sym (append-nil (json_string text)))
    ∙ read_whole (String text) [] (record { word = refl; colon = refl }) refl (omega arith)

-- how deep lines nest
pub numbered_is_shallow : {T : Type 0} (told : ℕ → T → Value) (k : ℕ) → ((i : ℕ) (x : T) → IsShallow k (told i x))
    → (i : ℕ) (xs : List T)
    → items_depth (json_items (items true (told_from told i xs))) ≤ k
numbered_is_shallow told k each i [] = omega arith
numbered_is_shallow told k each i (x ∷ xs) = omega (arith, each i x, numbered_is_shallow told k each (i + 1) xs)

-- 4. No tag

byte_has_none : (b : ℕ) → HasNoTag (json_byte b)
byte_has_none b = grind (arith, common_steps)

text_has_none : (text : List ℕ) → HasNoTag (flat_map json_byte text)
text_has_none [] = refl
text_has_none (b ∷ bs) = simp (list_all-append, byte_has_none b, text_has_none bs) refl

pub string_has_no_tag : (text : List ℕ) → HasNoTag (json_string text)
string_has_no_tag text = simp (list_all-append, text_has_none text) refl

separator_has_none : (first own_line : Bool) → HasNoTag (separator first own_line)
separator_has_none first own_line = grind arith

mutual
  value_has_none : (v : Value) → HasNoTag (value_bytes v)
  value_has_none (Number n) = number_has_no_tag n
  value_has_none (String text) = string_has_no_tag text
  value_has_none (Array is) = items_have_none true is
  value_has_none (Object ms) = members_have_none true ms

  items_have_none : (first : Bool) (is : Items) → HasNoTag (items_bytes first is)
  items_have_none first NoItems = refl
  items_have_none first (Item own_line v is) =
      simp (list_all-append, separator_has_none first own_line, value_has_none v, items_have_none false is) refl

  members_have_none : (first : Bool) (ms : Members) → HasNoTag (members_bytes first ms)
  members_have_none first NoMembers = refl
  members_have_none first (Member own_line name v ms) =
      simp (
        list_all-append,
        separator_has_none first own_line,
        text_has_none name,
        value_has_none v,
        members_have_none false ms,
      ) refl

pub text_has_no_tag : (v : Value) → HasNoTag (text_bytes v)
text_has_no_tag v = simp (list_all-append, value_has_none v) refl
