use Rattle.lock_floor.proofs.Names.{replicate, [], SleepQueues}
use Rattle.std.proofs.Common.{◌≡◌, ◌++◌}
use Rattle.lock_floor.proofs.keeper.push_sleep_queues.Given as goal

abbrev pub invariant-loop : goal.invariant-loop
invariant-loop l = l.slots.items ≡ l.initial.slots.items ++ replicate l.counter (SleepQueues [])
