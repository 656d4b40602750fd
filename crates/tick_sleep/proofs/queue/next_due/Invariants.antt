use Rattle.std.proofs.Common.{◌≡◌, ◌≤◌, ◌-◌, filter, []}
use Rattle.tick_sleep.specs.Ticks.{is_due}
use Rattle.tick_sleep.proofs.queue.next_due.Given as goal

abbrev pub invariant-loop-passed : goal.invariant-loop-passed
invariant-loop-passed l = record {
  within : l.passed ≤ l.now;
  none_due : filter (is_due l.passed) l.roll ≡ [];
}

abbrev pub decreases-loop-passed : goal.decreases-loop-passed
decreases-loop-passed l = l.now - l.passed
