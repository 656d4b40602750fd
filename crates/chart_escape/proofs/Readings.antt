-- Where a reader of markup is behind numbers, escaped text and pieces; and what no escaped text can hold.
use Rattle.std.proofs.Common.{ℕ, zero, suc, ◌/◌, ◌%◌, ◌≡◌, ◌∙◌, ◌++◌, ◌<◌, ap, refl, sym, not, false, List, [], ◌∷◌, Some, None, decimal, arith}
use Rattle.std.specs.Fmt.{digits, digits_onto, digit_glyph}
use Rattle.std.proofs.lemmas.Grind.{common_steps}
use Rattle.std.proofs.lemmas.List.Folds.{list_all-append}
use Rattle.chart_escape.specs.Markup.{escaped, is_mark, markup_byte, StaysText}
use Rattle.chart_escape.specs.Pieces.{pieces_bytes, written}
use Rattle.chart_escape.specs.Reader.{Text, Between, Place, InText, Reader, at, behind, behind_byte, behind_piece, behind_pieces, behind_words, read, IsBetweenTags, AddsElements, AreElements}
use Rattle.chart_escape.specs.declared.piece.Piece.{Piece}
use Rattle.chart_escape.specs.declared.piece.Piece.TheVariants as piece

pub behind-append : (r : Reader) (xs ys : List ℕ) → behind r (xs ++ ys) ≡ behind (behind r xs) ys
behind-append r [] ys = refl
behind-append r (b ∷ bs) ys = behind-append (behind_byte r.place r.elements b) bs ys

-- 1. What leaves a reader of text where it is

digit_stays : (t : Text) (elements : List (List ℕ)) (d : ℕ) → d < 10
    → behind_byte (InText t) elements (digit_glyph false d) ≡ at (InText t) elements
digit_stays t elements d h = grind (arith, h)

digits_stay : (t : Text) (elements : List (List ℕ)) (k n : ℕ) (bs : List ℕ)
    → behind (at (InText t) elements) (digits_onto k 10 false n bs) ≡ behind (at (InText t) elements) bs
digits_stay t elements zero n bs = refl
digits_stay t elements (suc k) n bs =
    let digit = ap (λ r. behind r bs) (digit_stays t elements (n % 10) (grind arith)) in
    grind (arith, digit, digits_stay t elements k (n / 10) (digit_glyph false (n % 10) ∷ bs))

decimal_stays : (t : Text) (elements : List (List ℕ)) (n : ℕ)
    → behind (at (InText t) elements) (decimal n) ≡ at (InText t) elements
unfolding digits
decimal_stays t elements n = digits_stay t elements 64 n []

reference_stays : (t : Text) (elements : List (List ℕ)) (b : ℕ)
    → behind (at (InText t) elements) (markup_byte b) ≡ at (InText t) elements
reference_stays t elements b = grind arith

escaped_stays : (t : Text) (elements : List (List ℕ)) (text : List ℕ)
    → behind (at (InText t) elements) (escaped text) ≡ at (InText t) elements
escaped_stays t elements [] = refl
escaped_stays t elements (b ∷ bs) =
    behind-append (at (InText t) elements) (markup_byte b) (escaped bs)
    ∙ ap (λ r. behind r (escaped bs)) (reference_stays t elements b) ∙ escaped_stays t elements bs

-- 2. Pieces

words_stay : (p : Place) (elements : List (List ℕ)) (bytes : List ℕ)
    → ((t : Text) → behind (at (InText t) elements) bytes ≡ at (InText t) elements)
    → behind (at p elements) bytes ≡ behind_words p elements bytes
words_stay p elements bytes h = grind (arith, h)

piece_read : (r : Reader) (p : Piece) → behind r (written decimal p) ≡ behind_piece r p
piece_read r (piece.Own text) = refl
piece_read r (piece.Number n) = words_stay r.place r.elements (decimal n) (λ t. decimal_stays t r.elements n)
piece_read r (piece.Optional None) = refl
piece_read r (piece.Optional (Some n)) = words_stay r.place r.elements (decimal n) (λ t. decimal_stays t r.elements n)
piece_read r (piece.Text text) =
    words_stay r.place r.elements (escaped text.now) (λ t. escaped_stays t r.elements text.now)
piece_read r (piece.Json text) = refl

pub pieces_read : (r : Reader) (ps : List Piece) → behind r (pieces_bytes ps) ≡ behind_pieces r ps
pieces_read r [] = refl
pieces_read r (p ∷ ps) =
    behind-append r (written decimal p) (pieces_bytes ps) ∙ ap (λ s. behind s (pieces_bytes ps)) (piece_read r p)
    ∙ pieces_read (behind_piece r p) ps

pub pieces_read_on : (old new : List ℕ) (ps : List Piece) → new ≡ old ++ pieces_bytes ps
    → read new ≡ behind_pieces (read old) ps
pieces_read_on old new ps e =
    ap read e ∙ behind-append (at (InText Between) []) old (pieces_bytes ps) ∙ pieces_read (read old) ps

-- 3. Whole elements

-- pieces that leave a reader of text where it was
pub adds : (old new : List ℕ) (ps : List Piece) → IsBetweenTags old → AreElements ps
    → read new ≡ behind_pieces (read old) ps
    → AddsElements old new
adds old new ps between same e =
    let is = ap (λ (p : Place). at p (read old).elements) between in
    e ∙ ap (λ r. behind_pieces r ps) is ∙ same (read old).elements ∙ sym is

-- 4. Escaped text alone

byte_stays : (b : ℕ) → StaysText (markup_byte b)
byte_stays b = grind (arith, common_steps)

pub stays_text : (text : List ℕ) → StaysText (escaped text)
stays_text [] = refl
stays_text (b ∷ bs) =
    grind (arith, list_all-append (λ c. not (is_mark c)) (markup_byte b) (escaped bs), byte_stays b, stays_text bs)
