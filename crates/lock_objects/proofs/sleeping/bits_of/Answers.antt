use Rattle.lock_objects.proofs.Names.{ap, sym, bits_of_threads}
use Rattle.std.proofs.Common.{◌+◌, ◌∙◌}
use Rattle.lock_objects.proofs.Bits.{places_at, threads, is_bit}
use Rattle.lock_objects.proofs.sleeping.bits_of.Goals as goal

pub overflow_shl-bits : goal.overflow_shl-bits
overflow_shl-bits c =
    let behind = bits_of_threads (threads c.in-Some.node.now.next) in
    let all = ap (λ o. c.loop-at.bits + bits_of_threads (threads (places_at o))) (sym c.in-Some.is)
    ∙ c.loop-at.invariant in
    rw c.thread.ensures (is_bit c.in-Some.node.now.place.thread c.loop-at.bits behind 64 (rw all c.requires))
