use Rattle.std.proofs.Common.{◌≡◌, ◌++◌, length, flat_map}
use Rattle.tick_sleep.specs.Ticks.{expired, unexpired}
use Rattle.tick_sleep.specs.Text.{timeout_line}
use Rattle.tick_sleep.proofs.run.push_timeouts.Given as goal

abbrev pub invariant-loop-t : goal.invariant-loop-t
invariant-loop-t l = record {
  lines : l.out.items ++ flat_map (timeout_line l.sleepers l.e) (expired l.queue.ticks.tick l.queue.ticks.sleepers)
      ≡ l.fn.out.items ++ flat_map (timeout_line l.sleepers l.e)
      (expired l.fn.queue.ticks.tick l.fn.queue.ticks.sleepers);
  state : (record l.queue.ticks { sleepers = unexpired l.queue.ticks.tick l.queue.ticks.sleepers })
      ≡ record l.fn.queue.ticks { sleepers = unexpired l.fn.queue.ticks.tick l.fn.queue.ticks.sleepers };
}

abbrev pub decreases-loop-t : goal.decreases-loop-t
decreases-loop-t l = length (expired l.queue.ticks.tick l.queue.ticks.sleepers)
