use Rattle.step_world.proofs.Names.{refl, sym, after_mark}
use Rattle.std.proofs.Common.{◌∙◌}
use Rattle.step_world.proofs.Turning.{may_by, of_step, one_made}
use Rattle.step_world.proofs.ActionsOfTurns as actions
use Rattle.step_world.proofs.turns.act.Goals as goal

pub walk_at_lock-requires-clause-run : goal.walk_at_lock-requires-clause-run
walk_at_lock-requires-clause-run c =
    let q = c.requires.run in (
      q.0,
      q.1,
      actions.at_lock c.requires.proper c.requires.thread q.1
          (actions.here q.1 c.requires.thread c.from.ensures c.index-thread.ensures) c.in-AtLock.l c.in-AtLock.is,
    )

pub walk_at_thread-requires-clause-run : goal.walk_at_thread-requires-clause-run
walk_at_thread-requires-clause-run c =
    let q = c.requires.run in (
      q.0,
      q.1,
      actions.at_thread c.requires.proper c.requires.thread q.1
          (actions.here q.1 c.requires.thread c.from.ensures c.index-thread.ensures) c.in-AtThread.o c.in-AtThread.is,
    )

pub by_release-requires-clause-run : goal.by_release-requires-clause-run
by_release-requires-clause-run c =
    let q = c.requires.run in
    let is = actions.here q.1 c.requires.thread c.from.ensures c.index-thread.ensures in (
      q.0,
      q.1,
      actions.done_waking c.requires.proper c.requires.thread q.1 is c.in-None.is
          (sym c.is_empty.ensures ∙ c.if-is_empty.true) q.2,
    )

pub mark-requires : goal.mark-requires
mark-requires c =
    let q = c.requires.run in
    let action = actions.marks c.requires.proper c.requires.thread q.1
    (actions.here q.1 c.requires.thread c.from.ensures c.index-thread.ensures) c.in-None.is
    (sym c.is_empty.ensures ∙ c.if-is_empty.false) in
    record { may = may_by action.2.turning _ (action.0, action.1, action.2.turning.may.0) }

pub returns-in-AtLock-clause-follows : goal.returns-in-AtLock-clause-follows
returns-in-AtLock-clause-follows c r h u =
    c.walk_at_lock.ensures.follows r h
    (actions.at_lock c.requires.proper c.requires.thread h
    (actions.here h c.requires.thread c.from.ensures c.index-thread.ensures) c.in-AtLock.l c.in-AtLock.is)

pub returns-in-AtThread-clause-follows : goal.returns-in-AtThread-clause-follows
returns-in-AtThread-clause-follows c r h u =
    c.walk_at_thread.ensures.follows r h
    (actions.at_thread c.requires.proper c.requires.thread h
    (actions.here h c.requires.thread c.from.ensures c.index-thread.ensures) c.in-AtThread.o c.in-AtThread.is)

pub returns-then-is_empty-clause-follows : goal.returns-then-is_empty-clause-follows
returns-then-is_empty-clause-follows c r h u =
    let is = actions.here h c.requires.thread c.from.ensures c.index-thread.ensures in
    c.by_release.ensures.follows r h
    (actions.done_waking c.requires.proper c.requires.thread h is c.in-None.is
    (sym c.is_empty.ensures ∙ c.if-is_empty.true) u)

pub returns-else-is_empty-clause-follows : goal.returns-else-is_empty-clause-follows
unfolding after_mark
returns-else-is_empty-clause-follows c r h u =
    let a = c.mark.ensures in
    let action = actions.marks c.requires.proper c.requires.thread h
    (actions.here h c.requires.thread c.from.ensures c.index-thread.ensures) c.in-None.is
    (sym c.is_empty.ensures ∙ c.if-is_empty.false) in
    one_made action.2 (of_step (a.step action.0 action.1) a.progress a.books) refl refl refl
