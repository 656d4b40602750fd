use Rattle.lock_objects.proofs.Names.{length, bits_of_threads}
use Rattle.std.proofs.Common.{◌≡◌, ◌+◌}
use Rattle.lock_objects.proofs.Bits.{places_at, threads}
use Rattle.lock_objects.proofs.sleeping.bits_of.Given as goal

abbrev pub invariant-loop-at : goal.invariant-loop-at
invariant-loop-at l = (l.bits + bits_of_threads (threads (places_at l.at)) ≡ bits_of_threads (threads l.woken))

abbrev pub decreases-loop-at : goal.decreases-loop-at
decreases-loop-at l = length (places_at l.at)
