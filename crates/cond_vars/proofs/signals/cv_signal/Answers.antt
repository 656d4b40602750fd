use Rattle.cond_vars.proofs.Woken.{signals}
use Rattle.cond_vars.proofs.signals.cv_signal.Goals as goal

pub returns-clause-signals : goal.returns-clause-signals
returns-clause-signals g c =
    signals c.args.floor.now.description c.args.c c.take_off.result c.args.pass.now.view c.take_off.new.pass.view
    c.wake_marked.new.pass.view c.take_off.ensures.off c.wake_marked.ensures.wakes c.first_marked-first.result
    c.first_marked-first.ensures.none c.first_marked-first.ensures.some
