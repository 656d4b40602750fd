-- What a reader of markup makes of bytes: where it is behind them, and which elements are open there. So markup is well
-- formed where each tag, attribute and reference comes to its end, and each element is closed by its own name.
use Rattle.std.specs.Prelude.{◌≡◌, ℕ, Bool, ◌&&◌, ◌||◌, ◌==◌, nat_le, if◌then◌else◌, List, [], ◌∷◌, Some, None, decimal}
use Rattle.lock_model.specs.Counts.{is_empty}
use Rattle.lock_model.specs.Script.Lines.{is_same}
use Rattle.chart_escape.specs.Json.{json_string}
use Rattle.chart_escape.specs.Markup.{escaped}
use Rattle.chart_escape.specs.declared.piece.Piece.{Piece}
use Rattle.chart_escape.specs.declared.piece.Piece.TheVariants as piece

-- 1. Places

-- where a reference may stand: in text, or in the quotes of an attribute of the tag of that name
pub data Text : Type 0 where
  Between : Text
  Quoted : List ℕ → Text

-- a place in markup; names are kept with their last byte first
pub data Place : Type 0 where
  -- in text, and in a reference there
  InText : Text → Place
  InReference : Text → Place
  -- in the name of a tag, and behind it, among the attributes
  InName : List ℕ → Place
  InTag : List ℕ → Place
  -- behind the slash of a tag that has no content, and in the name of a closing tag
  AtSlash : Place
  InClosing : List ℕ → Place
  -- where no reader goes on
  Broken : Place

-- where a reader is, and the names of the elements that are open, the innermost first
pub record Reader : Type 0 where
  pub place : Place
  pub elements : List (List ℕ)

abbrev pub at : Place → List (List ℕ) → Reader
at place elements = record { place = place; elements = elements }

-- 2. A byte more

abbrev pub is_letter : ℕ → Bool
is_letter b = nat_le 97 b && nat_le b 122

-- a letter, a digit or `#`
abbrev pub is_of_reference : ℕ → Bool
is_of_reference b = is_letter b || ((nat_le 48 b && nat_le b 57) || b == 35)

-- an element begins
abbrev pub opened : List ℕ → List (List ℕ) → Reader
opened [] elements = at Broken elements
opened (b ∷ bs) elements = at (InText Between) ((b ∷ bs) ∷ elements)

-- an element ends, which is the one that began last
abbrev pub closed : List ℕ → List (List ℕ) → Reader
closed name [] = at Broken []
closed name (last ∷ elements) =
    if is_same name last then at (InText Between) elements else at Broken (last ∷ elements)

-- where it is behind a byte: a tag begins at `<` and a reference at `&`, and no `>` stands in text; an attribute ends
-- at its quote
abbrev pub behind_byte : Place → List (List ℕ) → ℕ → Reader
behind_byte (InText Between) elements b =
    if b == 60 then at (InName []) elements else
    if b == 38 then at (InReference Between) elements else
    if b == 62 then at Broken elements else at (InText Between) elements
behind_byte (InText (Quoted name)) elements b =
    if b == 39 then at (InTag name) elements else
    if b == 38 then at (InReference (Quoted name)) elements else
    if b == 60 || b == 62 then at Broken elements else at (InText (Quoted name)) elements
behind_byte (InReference text) elements b =
    if is_of_reference b then at (InReference text) elements else
    if b == 59 then at (InText text) elements else at Broken elements
behind_byte (InName name) elements b =
    if is_letter b then at (InName (b ∷ name)) elements else
    if b == 62 then opened name elements else
    if b == 47 then at (if is_empty name then InClosing [] else AtSlash) elements else
    if b == 32 then at (InTag name) elements else at Broken elements
behind_byte (InTag name) elements b =
    if b == 39 then at (InText (Quoted name)) elements else
    if b == 62 then opened name elements else
    if b == 47 then at AtSlash elements else
    if b == 60 || (b == 38 || b == 34) then at Broken elements else at (InTag name) elements
behind_byte AtSlash elements b = if b == 62 then at (InText Between) elements else at Broken elements
behind_byte (InClosing name) elements b =
    if is_letter b then at (InClosing (b ∷ name)) elements else
    if b == 62 then closed name elements else at Broken elements
behind_byte Broken elements b = at Broken elements

-- 3. Bytes

abbrev pub behind : Reader → List ℕ → Reader
behind r [] = r
behind r (b ∷ bs) = behind (behind_byte r.place r.elements b) bs

-- a reader that begins in text, with no element open
abbrev pub read : List ℕ → Reader
read bytes = behind (at (InText Between) []) bytes

-- it is in text there
abbrev pub IsBetweenTags : List ℕ → Type 0
IsBetweenTags bytes = (read bytes).place ≡ InText Between

-- behind the new bytes the reader is where it was: whole elements and text were added
abbrev pub AddsElements : List ℕ → List ℕ → Type 0
AddsElements old new = read new ≡ read old

-- it ends in text, with no element open
abbrev pub IsWellFormed : List ℕ → Type 0
IsWellFormed bytes = read bytes ≡ at (InText Between) []

-- 4. Pieces

-- a number, and text that is escaped, leave a reader of text in it; elsewhere their bytes are read as any
abbrev pub behind_words : Place → List (List ℕ) → List ℕ → Reader
behind_words (InText text) elements bytes = at (InText text) elements
behind_words place elements bytes = behind (at place elements) bytes

abbrev pub behind_piece : Reader → Piece → Reader
behind_piece r (piece.Own text) = behind r text.now
behind_piece r (piece.Number n) = behind_words r.place r.elements (decimal n)
behind_piece r (piece.Optional None) = r
behind_piece r (piece.Optional (Some n)) = behind_words r.place r.elements (decimal n)
behind_piece r (piece.Text text) = behind_words r.place r.elements (escaped text.now)
behind_piece r (piece.Json text) = behind r (json_string text.now)

abbrev pub behind_pieces : Reader → List Piece → Reader
behind_pieces r [] = r
behind_pieces r (p ∷ ps) = behind_pieces (behind_piece r p) ps

-- a reader of text is in the same text behind them
abbrev pub AreElements : List Piece → Type 0
AreElements pieces = (elements : List (List ℕ))
    → behind_pieces (at (InText Between) elements) pieces ≡ at (InText Between) elements
