use Rattle.std.proofs.Common.{◌≡◌, ◌++◌, drop, map}
use Rattle.lock_model.specs.Text.{spaced, names_at_bits}
use Rattle.lock_history.proofs.text.events.push_names_at_bits.Given as goal

abbrev pub invariant-loop-thread : goal.invariant-loop-thread
invariant-loop-thread l =
    l.out.items ++ spaced (names_at_bits (map (λ d. d.name) (drop l.thread-index l.threads)) l.bits)
    ≡ l.initial.out.items ++ spaced (names_at_bits (map (λ d. d.name) l.threads) l.woken)
