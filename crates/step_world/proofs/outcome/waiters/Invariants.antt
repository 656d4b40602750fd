use Rattle.step_world.proofs.Names.{length, map, take, waiter_seen, waiters}
use Rattle.std.proofs.Common.{◌≡◌, ◌-◌}
use Rattle.step_world.proofs.outcome.waiters.Given as goal

-- the first places have been read
abbrev pub invariant-loop-waiter : goal.invariant-loop-waiter
invariant-loop-waiter g l = map waiter_seen l.found.items ≡ take (length l.found.items) (waiters l.side l.head.contents)

abbrev pub decreases-loop-waiter : goal.decreases-loop-waiter
decreases-loop-waiter g l = length (waiters l.side l.head.contents) - length l.found.items
