use Rattle.std.proofs.Common.{◌≡◌, map, take}
use Rattle.floor_table.specs.Descriptions.{lock_part}
use Rattle.floor_table.proofs.description.lock_parts.Given as goal

abbrev pub invariant-loop-lock : goal.invariant-loop-lock
invariant-loop-lock l = l.parts.items ≡ map lock_part (take l.lock-index l.locks)
