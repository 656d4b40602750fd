use Rattle.std.proofs.Common.{◌≡◌, ◌++◌, drop}
use Rattle.tick_sleep.specs.Text.{sleeping_lines}
use Rattle.tick_sleep.proofs.run.push_sleepers.Given as goal

abbrev pub invariant-loop-t : goal.invariant-loop-t
invariant-loop-t l =
    l.out.items ++ sleeping_lines l.t (drop l.t l.sleepers) l.queue.ticks.sleepers
    ≡ l.initial.out.items ++ sleeping_lines 0 l.sleepers l.queue.ticks.sleepers
