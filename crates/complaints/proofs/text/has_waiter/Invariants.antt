use Rattle.std.proofs.Common.{◌≡◌, length}
use Rattle.complaints.specs.Complaints.{has_waiter}
use Rattle.complaints.proofs.text.has_waiter.Given as goal

abbrev pub invariant-loop-item : goal.invariant-loop-item
invariant-loop-item l = has_waiter l.thread l.list ≡ has_waiter l.thread l.rest

abbrev pub decreases-loop-item : goal.decreases-loop-item
decreases-loop-item l = length l.rest
