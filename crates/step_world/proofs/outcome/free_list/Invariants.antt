use Rattle.step_world.proofs.Names.{length, map, take}
use Rattle.std.proofs.Common.{◌≡◌, ◌-◌}
use Rattle.step_world.proofs.outcome.free_list.Given as goal

-- the first places have been read
abbrev pub invariant-loop-number : goal.invariant-loop-number
invariant-loop-number g l = map (λ t. t.0) l.free.items ≡ take (length l.free.items) l.head.contents.free

abbrev pub decreases-loop-number : goal.decreases-loop-number
decreases-loop-number g l = length l.head.contents.free - length l.free.items
