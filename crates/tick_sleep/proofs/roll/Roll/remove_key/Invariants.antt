use Rattle.std.proofs.Common.{◌≡◌, ◌+◌, map, length}
use Rattle.lock_state.specs.Steps.LockWords.{bits_of_threads}
use Rattle.tick_sleep.specs.Ticks.{on_key, off_key}
use Rattle.tick_sleep.proofs.roll.Roll.remove_key.Given as goal

abbrev pub invariant-loop-t : goal.invariant-loop-t
invariant-loop-t l = record {
  off : off_key l.key l.self ≡ off_key l.key l.fn.self;
  bits : l.woken + bits_of_threads (map (λ s. s.t.0) (on_key l.key l.self)) ≡ bits_of_threads
      (map (λ s. s.t.0) (on_key l.key l.fn.self));
}

abbrev pub decreases-loop-t : goal.decreases-loop-t
decreases-loop-t l = length (on_key l.key l.self)
