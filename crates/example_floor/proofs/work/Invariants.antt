use Rattle.std.proofs.Common.{◌-◌, ◌*◌}
use Rattle.example_floor.specs.Counter.{IsReadyFor}
use Rattle.example_floor.proofs.work.Given as goal

abbrev pub invariant-loop : goal.invariant-loop
invariant-loop g l = IsReadyFor l.floor (3 * (1000 - l.counter)) l.pass
