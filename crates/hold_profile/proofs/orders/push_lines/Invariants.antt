use Rattle.std.proofs.Common.{◌≡◌, ◌++◌}
use Rattle.hold_profile.specs.Counting.{row_lines}
use Rattle.hold_profile.proofs.orders.push_lines.Given as goal

abbrev pub invariant-loop-second : goal.invariant-loop-second
invariant-loop-second l = l.lines.items ≡ l.initial.lines.items ++ row_lines l.rows l.second l.first
