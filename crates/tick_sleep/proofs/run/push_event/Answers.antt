use Rattle.std.proofs.Common.{sym, subst}
use Rattle.tick_sleep.specs.Ticks.{NoneIsDue}
use Rattle.tick_sleep.proofs.States.{none_wake_one, none_wake_all, none_post}
use Rattle.tick_sleep.proofs.run.push_event.Goals as goal

pub returns-in_ok-push-in-WakeOne-clause-none_due : goal.returns-in_ok-push-in-WakeOne-clause-none_due
returns-in_ok-push-in-WakeOne-clause-none_due c =
    subst NoneIsDue (sym c.wake_one.ensures.state)
    (none_wake_one c.args.queue.now.ticks c.in-WakeOne.key c.requires.none_due)

pub returns-in_ok-push-in-WakeAll-clause-none_due : goal.returns-in_ok-push-in-WakeAll-clause-none_due
returns-in_ok-push-in-WakeAll-clause-none_due c =
    subst NoneIsDue (sym c.wake_all.ensures.state)
    (none_wake_all c.args.queue.now.ticks c.in-WakeAll.key c.requires.none_due)

pub returns-in_ok-push-in-Post-clause-none_due : goal.returns-in_ok-push-in-Post-clause-none_due
returns-in_ok-push-in-Post-clause-none_due c =
    subst NoneIsDue (sym c.post.ensures.state) (none_post c.args.queue.now.ticks c.in-Post.t.0 c.requires.none_due)
