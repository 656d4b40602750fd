use Rattle.std.proofs.Common.{◌≡◌, ℕ, ◌<◌, [], filter, take}
use Rattle.tick_sleep.specs.Ticks.{is_due}
use Rattle.tick_sleep.proofs.roll.soonest_of.Given as goal

abbrev pub invariant-loop-sleeper : goal.invariant-loop-sleeper
invariant-loop-sleeper l =
    (tick : ℕ) → tick < l.soonest → filter (is_due tick) (take l.sleeper-index l.sleepers) ≡ []
