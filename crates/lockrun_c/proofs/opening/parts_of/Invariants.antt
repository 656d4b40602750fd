use Rattle.std.proofs.Common.{◌≡◌, map, take}
use Rattle.lockrun_c.specs.Openings.{thread_part}
use Rattle.lockrun_c.proofs.opening.parts_of.Given as goal

abbrev pub invariant-loop-row : goal.invariant-loop-row
invariant-loop-row l = l.parts.items ≡ map thread_part (take l.row-index l.rows)
