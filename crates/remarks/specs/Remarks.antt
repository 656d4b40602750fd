-- What may stand on standard error below the one sentence: a few lines, none of them long, in plain ASCII. What they
-- say isn't told here. It is this project's own.
use Rattle.std.specs.Prelude.{◌≡◌, ◌≤◌, ◌++◌, ◌∷◌, ◌&&◌, ℕ, Bool, true, List, [], length, map, flat_map, take, nat_le, if◌then◌else◌}
use Rattle.std.specs.List.{list_all}
use Rattle.lock_model.specs.Script.Lines.{is_printable}

abbrev pub Text : Type 0
Text = List ℕ

-- at most 240 bytes, each of them from 32 to 126
abbrev pub is_plain : Text → Bool
is_plain line = nat_le (length line) 240 && list_all is_printable line

-- a line with its end
abbrev pub ended : Text → Text
ended line = line ++ 10 ∷ []

-- the text is at most so many lines, each of them plain and with its end
pub record AreRemarks (most : ℕ) (text : Text) : Type 0 where
  pub lines : List Text
  pub few : length lines ≤ most
  pub plain : list_all is_plain lines ≡ true
  pub whole : text ≡ flat_map ended lines

-- how a line is shown, whatever it is: its first 240 bytes, and a `?` (63) for one that can't be printed
abbrev pub shown_byte : ℕ → ℕ
shown_byte b = if is_printable b then b else 63

abbrev pub shown : Text → Text
shown line = map shown_byte (take 240 line)

abbrev pub shown_line : Text → Text
shown_line line = ended (shown line)
