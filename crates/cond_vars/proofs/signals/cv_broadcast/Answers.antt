use Rattle.cond_vars.proofs.Woken.{broadcasts}
use Rattle.cond_vars.proofs.signals.cv_broadcast.Goals as goal

pub returns-clause-broadcasts : goal.returns-clause-broadcasts
returns-clause-broadcasts g c =
    broadcasts c.args.floor.now.description c.args.c c.take_off-woken.result c.args.pass.now.view
    c.take_off-woken.new.pass.view c.wake_marked.new.pass.view c.take_off-woken.ensures.off
    c.wake_marked.ensures.wakes
