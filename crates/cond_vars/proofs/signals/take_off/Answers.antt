use Rattle.lock_floor.proofs.Taking.{waits_none, waits_on}
use Rattle.lock_floor.specs.Waits.{its_chain}
use Rattle.lock_model.specs.Queues.{chan_queue}
use Rattle.cond_vars.proofs.Woken.{rest_waiting, may_waiting, taken_off_then}
use Rattle.cond_vars.proofs.signals.take_off.Goals as goal

pub loop-init : goal.loop-init
loop-init g c = record { own = c.requires.ready.own; waited = waits_none c.args.pass.now.view }

pub begin_wakeup-requires-clause-ready : goal.begin_wakeup-requires-clause-ready
begin_wakeup-requires-clause-ready g c = record {
  own = c.loop.invariant.own;
  rest = rest_waiting c.args.floor.now.description c.args.pass.now.view c.loop.pass.view c.loop.invariant.waited
      c.requires.ready.rest;
}

pub begin_wakeup-requires-clause-may : goal.begin_wakeup-requires-clause-may
begin_wakeup-requires-clause-may g c =
    may_waiting c.args.floor.now.description c.args.c.0 c.args.pass.now.view c.loop.pass.view c.loop.invariant.waited
    c.requires.may

pub returns-in-Some-begin_wakeup-clause-off : goal.returns-in-Some-begin_wakeup-clause-off
returns-in-Some-begin_wakeup-clause-off g c =
    taken_off_then c.args.floor.now.description c.args.c c.args.all c.in-Some-begin_wakeup.woken c.args.pass.now.view
    c.loop.pass.view
    c.begin_wakeup.new.pass.view c.loop.invariant.waited c.in-Some-begin_wakeup.ensures.off

pub loop-preserved : goal.loop-preserved
loop-preserved g c = assumption (
  waits_on c.args.floor.now.description (its_chain c.args.floor.now.description (chan_queue c.args.c.0))
      c.args.pass.now.view c.loop.pass.view c.begin_wakeup.new.pass.view c.loop.invariant.waited
      c.in-None-begin_wakeup.ensures.left c.in-None-begin_wakeup.ensures.elsewhere,
  c.begin_wakeup.ensures,
)
