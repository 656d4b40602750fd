use Rattle.std.proofs.Common.{◌≡◌, ◌++◌, drop}
use Rattle.lock_model.specs.Text.{spaced, names_at_bits}
use Rattle.tick_sleep.specs.Plans.{sleeper_names}
use Rattle.tick_sleep.proofs.run.push_names_at_bits.Given as goal

abbrev pub invariant-loop-sleeper : goal.invariant-loop-sleeper
invariant-loop-sleeper l =
    l.out.items ++ spaced (names_at_bits (sleeper_names (drop l.sleeper-index l.sleepers)) l.bits)
    ≡ l.initial.out.items ++ spaced (names_at_bits (sleeper_names l.sleepers) l.woken)
