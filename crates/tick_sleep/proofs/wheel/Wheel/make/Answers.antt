use Rattle.tick_sleep.proofs.Buckets.{one_more_bucket}
use Rattle.tick_sleep.proofs.wheel.Wheel.make.Goals as goal

pub loop-preserved : goal.loop-preserved
loop-preserved c = rw (c.in_ok-push.ensures.items, c.in_ok-make.ensures, c.loop.invariant)
    (one_more_bucket c.loop.counter)
