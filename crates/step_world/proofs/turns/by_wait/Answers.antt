use Rattle.step_world.proofs.Names.{refl, after_resume, BySignal}
use Rattle.step_world.proofs.Turning.{may_by, of_step, one_made}
use Rattle.step_world.proofs.ActionsOfTurns as actions
use Rattle.step_world.proofs.turns.by_wait.Goals as goal

pub resume-requires : goal.resume-requires
resume-requires c =
    let q = c.requires.run in
    let is = actions.here q.1 c.requires.thread c.from.ensures c.index-thread.ensures in
    let action = actions.resumes c.requires.proper c.requires.thread q.1 is q.2 c.in-Woken.is in
    record { may = may_by action.turning _ (c.in-Woken.field-0, BySignal, action.turning.may.0) }

pub operate-requires-clause-run : goal.operate-requires-clause-run
operate-requires-clause-run c =
    let q = c.requires.run in
    let is = actions.here q.1 c.requires.thread c.from.ensures c.index-thread.ensures in
    let found = c.in-Some.ensures.lookup in (
      q.0,
      q.1,
      actions.at_operation c.requires.proper c.requires.thread q.1 is q.2 c.in-Running.is c.if-thread.false
          c.operations_of.ensures found.3.0 found.1,
    )

pub returns-in-Queued-clause-follows : goal.returns-in-Queued-clause-follows
returns-in-Queued-clause-follows c r h f =
    actions.queued c.requires.proper c.requires.thread h
    (actions.here h c.requires.thread c.from.ensures c.index-thread.ensures) f c.in-Queued.is

pub returns-in-Woken-clause-follows : goal.returns-in-Woken-clause-follows
unfolding after_resume
returns-in-Woken-clause-follows c r h f =
    let a = c.resume.ensures in
    one_made (actions.resumes c.requires.proper c.requires.thread h
    (actions.here h c.requires.thread c.from.ensures c.index-thread.ensures) f c.in-Woken.is)
    (of_step (a.step c.in-Woken.field-0 BySignal) a.progress a.books) refl refl refl

pub returns-in-Some-clause-follows : goal.returns-in-Some-clause-follows
returns-in-Some-clause-follows c r h f =
    let is = actions.here h c.requires.thread c.from.ensures c.index-thread.ensures in
    let found = c.in-Some.ensures.lookup in
    c.operate.ensures.follows r h
    (actions.at_operation c.requires.proper c.requires.thread h is f c.in-Running.is c.if-thread.false
    c.operations_of.ensures found.3.0 found.1)

pub returns-in-None-clause-follows : goal.returns-in-None-clause-follows
returns-in-None-clause-follows c r h f =
    let is = actions.here h c.requires.thread c.from.ensures c.index-thread.ensures in
    actions.nothing_left c.requires.proper c.requires.thread h is f c.in-Running.is c.if-thread.false
    c.operations_of.ensures c.in-None.ensures.lookup.3

pub give_last_back-requires-clause-run : goal.give_last_back-requires-clause-run
give_last_back-requires-clause-run c =
    let q = c.requires.run in
    let is = actions.here q.1 c.requires.thread c.from.ensures c.index-thread.ensures in
    (q.0, q.1, actions.giving_up c.requires.proper c.requires.thread q.1 is q.2 c.in-Running.is c.if-thread.true)

pub returns-in-Running-clause-follows : goal.returns-in-Running-clause-follows
returns-in-Running-clause-follows c r h f =
    let is = actions.here h c.requires.thread c.from.ensures c.index-thread.ensures in
    c.give_last_back.ensures.follows r h
    (actions.giving_up c.requires.proper c.requires.thread h is f c.in-Running.is c.if-thread.true)
