use Rattle.step_world.proofs.Names.{admitted}
use Rattle.step_world.proofs.ActionsOfTakes as actions
use Rattle.step_world.proofs.turns.locks.begin_take.Goals as goal

pub take-requires-clause-run : goal.take-requires-clause-run
take-requires-clause-run c =
    let q = c.requires.run in
    let a = c.in-Ok.ensures q.0 c.args.mode q.1 q.2 in (
      admitted c.args.plan.now q.0 c.args.t.0 c.args.l,
      a.shows,
      actions.takes_on c.requires.proper c.requires.thread q.2
          a.shows,
    )

pub refuse-requires-clause-may : goal.refuse-requires-clause-may
refuse-requires-clause-may c =
    let q = c.requires.run in
    actions.may_refuse c.requires.proper c.requires.thread q.1 q.2 c.in-Err.reversal.held (c.in-Err.ensures.1 q.0 q.1)
    c.in-Err.ensures.0

pub refuse-requires-clause-room : goal.refuse-requires-clause-room
refuse-requires-clause-room c =
    let q = c.requires.run in
    actions.room_for_refusal c.requires.proper c.requires.thread q.1 q.2 c.in-Err.reversal.held
    (c.in-Err.ensures.1 q.0 q.1) c.in-Err.ensures.0

pub returns-in-Ok-clause-makes : goal.returns-in-Ok-clause-makes
returns-in-Ok-clause-makes c r h b =
    let a = c.in-Ok.ensures r c.args.mode h b in
    actions.made_admitted c.requires.proper c.requires.thread b c.take.result a.none_against
    (c.take.ensures.makes (admitted c.args.plan.now r c.args.t.0 c.args.l) a.shows
    (actions.takes_on c.requires.proper c.requires.thread b a.shows))

pub returns-in-Ok-clause-unchanged : goal.returns-in-Ok-clause-unchanged
returns-in-Ok-clause-unchanged c =
    let q = c.requires.run in
    let a = c.in-Ok.ensures q.0 c.args.mode q.1 q.2 in
    actions.moves c.requires.proper c.requires.thread q.2 c.take.result c.args.machine.now c.take.new.machine
    (c.take.ensures.makes (admitted c.args.plan.now q.0 c.args.t.0 c.args.l) a.shows
    (actions.takes_on c.requires.proper c.requires.thread q.2 a.shows))

pub returns-in-Err-clause-makes : goal.returns-in-Err-clause-makes
returns-in-Err-clause-makes c r h b =
    let e = c.refuse.ensures in
    actions.refused c.requires.proper c.requires.thread h b c.in-Err.reversal.held (c.in-Err.ensures.1 r h)
    c.in-Err.ensures.0 e.steps e.progress (assumption e)
