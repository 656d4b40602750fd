use Rattle.std.proofs.Common.{◌≡◌, map, take}
use Rattle.tick_sleep.proofs.queue.prios_of.Given as goal

abbrev pub invariant-loop-sleeper : goal.invariant-loop-sleeper
invariant-loop-sleeper l = l.prios.items ≡ map (λ d. d.prio) (take l.sleeper-index l.sleepers)
