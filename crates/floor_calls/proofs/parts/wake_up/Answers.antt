use Rattle.floor_calls.proofs.Names.{None}
use Rattle.floor_calls.proofs.Standing.{wake_begins}
use Rattle.floor_calls.proofs.parts.wake_up.Goals as goal

pub returns-in-None-clause-at : goal.returns-in-None-clause-at
returns-in-None-clause-at c =
    wake_begins c.args.floor.now c.args.pass.now c.begin_wakeup.new.pass c.begin_wakeup.ensures.own c.args.c c.args.all
    None c.requires.ready c.requires.may (c.in-None.ensures.left, c.in-None.ensures.elsewhere)
