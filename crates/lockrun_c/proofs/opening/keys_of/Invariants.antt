use Rattle.std.proofs.Common.{◌≡◌, map, take}
use Rattle.lockrun_c.specs.Openings.{key_of}
use Rattle.lockrun_c.proofs.opening.keys_of.Given as goal

abbrev pub invariant-loop-row : goal.invariant-loop-row
invariant-loop-row l = l.keys.items ≡ map key_of (take l.row-index l.rows)
