use Rattle.std.proofs.Common.{sym}
use Rattle.tick_sleep.proofs.Standing.{one_woken}
use Rattle.tick_sleep.proofs.queue.TickQueue.wake_one.Goals as goal

pub invariant_of-self-2 : goal.invariant_of-self-2
invariant_of-self-2 c =
    rw c.remove.ensures.left
    (one_woken c.self.inside c.self.invariant c.remove.ensures.once c.args.key c.in_ok-t.t.0 c.wake.new.self
    c.wake.ensures.woken (sym c.in_ok-t.ensures.first))
