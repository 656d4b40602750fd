use Rattle.step_world.proofs.Names.{ℕ, map, take}
use Rattle.std.proofs.Common.{◌≡◌}
use Rattle.lock_history.specs.Endings.{numbers_of}
use Rattle.step_world.proofs.outcome.finals.Given as goal

-- the pairs of the first threads
abbrev pub invariant-loop-thread : goal.invariant-loop-thread
invariant-loop-thread l = numbers_of l.pairs.items ≡ map {B = ℕ × ℕ}
    (λ th. (th.record.value.base, th.record.value.effective)) (take l.thread-index l.machine.threads.items)
