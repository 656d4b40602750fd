-- What pieces of a line are written as.
use Rattle.std.specs.Prelude.{ℕ, List, [], Some, None, decimal, flat_map}
use Rattle.chart_escape.specs.Json.{json_string}
use Rattle.chart_escape.specs.Markup.{escaped}
use Rattle.chart_escape.specs.Values.{number_bytes}
use Rattle.chart_escape.specs.declared.piece.Piece.{Piece}
use Rattle.chart_escape.specs.declared.piece.Piece.TheVariants.{Own, Number, Optional, Text, Json}

-- a piece, whose number is written so
abbrev pub written : (ℕ → List ℕ) → Piece → List ℕ
written number (Own text) = text.now
written number (Number n) = number n
written number (Optional None) = []
written number (Optional (Some n)) = number n
written number (Text text) = escaped text.now
written number (Json text) = json_string text.now

-- in markup
abbrev pub pieces_bytes : List Piece → List ℕ
pieces_bytes pieces = flat_map (written decimal) pieces

-- in JSON
abbrev pub tokens_bytes : List Piece → List ℕ
tokens_bytes pieces = flat_map (written number_bytes) pieces
