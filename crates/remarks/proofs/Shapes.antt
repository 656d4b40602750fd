-- Whatever lines are given, what is made of them is short lines of plain ASCII.
use Rattle.std.proofs.Common.{◌≡◌, ◌&&◌, ◌++◌, ℕ, Bool, true, false, cond, refl, ap, ap₂, List, [], ◌∷◌, map, flat_map, take, arith, length-take}
use Rattle.std.proofs.lemmas.List.{length-map}
use Rattle.std.specs.List.{list_all}
use Rattle.std.proofs.lemmas.Bool.{le-leb}
use Rattle.lock_model.specs.Script.Lines.{is_printable}
use Rattle.remarks.specs.Remarks.{AreRemarks, Text, ended, is_plain, shown, shown_byte, shown_line}

printable : (b : ℕ) → is_printable (shown_byte b) ≡ true
printable b = go (is_printable b) refl
  where
    go : (p : Bool) → is_printable b ≡ p → is_printable (cond p b 63) ≡ true
    go true e = e
    go false e = refl

all_printable : (line : Text) → list_all is_printable (map shown_byte line) ≡ true
all_printable [] = refl
all_printable (b ∷ bs) = ap₂ (λ x y. x && y) (printable b) (all_printable bs)

plain : (line : Text) → is_plain (shown line) ≡ true
plain line = ap₂ (λ x y. x && y)
    (le-leb _ _ (omega (arith, length-map (take 240 line) shown_byte, length-take 240 line)))
    (all_printable (take 240 line))

pub all_plain : (lines : List Text) → list_all is_plain (map shown lines) ≡ true
all_plain [] = refl
all_plain (line ∷ lines) = ap₂ (λ x y. x && y) (plain line) (all_plain lines)

pub joined : (lines : List Text) → flat_map shown_line lines ≡ flat_map ended (map shown lines)
joined [] = refl
joined (line ∷ lines) = ap (λ rest. shown_line line ++ rest) (joined lines)

-- no text is no line
pub none : AreRemarks 8 []
none = record { lines = []; few = omega (arith); plain = refl; whole = refl }
