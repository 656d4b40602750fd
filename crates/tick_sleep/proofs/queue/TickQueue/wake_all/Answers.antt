use Rattle.tick_sleep.proofs.Standing.{all_woken_sound}
use Rattle.tick_sleep.proofs.queue.TickQueue.wake_all.Goals as goal

pub invariant_of-self : goal.invariant_of-self
invariant_of-self c =
    rw c.remove_key.ensures.left
    (all_woken_sound c.self.inside c.self.invariant c.remove_key.ensures.once c.args.key c.wake.new.self
    c.wake.ensures.woken)
