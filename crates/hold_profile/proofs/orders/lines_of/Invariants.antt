use Rattle.std.proofs.Common.{◌≡◌, flat_map}
use Rattle.std.specs.List.{range_with_len}
use Rattle.hold_profile.specs.Counting.{row_lines}
use Rattle.hold_profile.proofs.orders.lines_of.Given as goal

abbrev pub invariant-loop-first : goal.invariant-loop-first
invariant-loop-first l = l.lines.items ≡ flat_map (row_lines l.rows l.classes) (range_with_len 0 l.first)
