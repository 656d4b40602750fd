use Rattle.std.proofs.Common.{◌≡◌, ◌≤◌, ◌*◌, ◌++◌, drop, map}
use Rattle.tick_sleep.specs.Ticks.{start, NoneIsDue}
use Rattle.tick_sleep.specs.Text.{text_from}
use Rattle.tick_sleep.proofs.run.run_ticks.Given as goal

abbrev pub invariant-loop-e : goal.invariant-loop-e
invariant-loop-e l = record {
  lines : l.text.items ++ text_from l.plan.sleepers l.e l.queue.ticks (drop l.e l.plan.events) ≡ text_from
      l.plan.sleepers 0 (start l.plan.sleepers) l.plan.events;
  prios : l.queue.ticks.prios ≡ map (λ d. d.prio) l.plan.sleepers;
  early : l.queue.ticks.tick ≤ 1000 * l.e;
  none_due : NoneIsDue l.queue.ticks;
}
