use Rattle.std.proofs.Common.{◌≡◌, ◌++◌, take}
use Rattle.chart_escape.specs.Pieces.{pieces_bytes, tokens_bytes}
use Rattle.chart_escape.proofs.piece.push_all.Given as goal

abbrev pub invariant-loop-piece : goal.invariant-loop-piece
invariant-loop-piece l =
    (l.out.items ≡ l.initial.out.items ++ pieces_bytes (take l.piece-index l.pieces))
    × (l.out.items ≡ l.initial.out.items ++ tokens_bytes (take l.piece-index l.pieces))
