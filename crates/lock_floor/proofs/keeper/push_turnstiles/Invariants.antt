use Rattle.lock_floor.proofs.Names.{replicate, [], Turnstiles}
use Rattle.std.proofs.Common.{◌≡◌, ◌++◌}
use Rattle.lock_floor.proofs.keeper.push_turnstiles.Given as goal

abbrev pub invariant-loop : goal.invariant-loop
invariant-loop l = l.slots.items ≡ l.initial.slots.items ++ replicate l.counter (Turnstiles [])
