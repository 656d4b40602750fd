use Rattle.std.proofs.Common.{◌≡◌, length, take}
use Rattle.lock_history.specs.Tickets.{entries_in}
use Rattle.lock_history.proofs.merging.count.Given as goal

abbrev pub invariant-loop-log : goal.invariant-loop-log
invariant-loop-log l = l.n ≡ length (entries_in (take l.log-index l.logs))
