use Rattle.step_world.proofs.Names.{sym}
use Rattle.std.proofs.Common.{◌∙◌}
use Rattle.step_world.proofs.ActionsOfTurns as actions
use Rattle.step_world.proofs.turns.turn.Goals as goal

pub returns-then-has_ended-clause-follows : goal.returns-then-has_ended-clause-follows
returns-then-has_ended-clause-follows c r h u =
    let is = actions.here h c.requires.thread c.from.ensures c.index-thread.ensures in
    actions.over c.requires.proper c.requires.thread h is
    (actions.said c.requires.proper c.requires.thread h is c.operations_of.ensures _
    (sym c.has_ended.ensures ∙ c.if-has_ended.true))

pub act-requires-clause-run : goal.act-requires-clause-run
act-requires-clause-run c =
    let q = c.requires.run in
    let is = actions.here q.1 c.requires.thread c.from.ensures c.index-thread.ensures in (
      q.0,
      q.1,
      actions.said c.requires.proper c.requires.thread q.1 is c.operations_of.ensures _
          (sym c.has_ended.ensures ∙ c.if-has_ended.false),
    )

pub returns-else-has_ended-clause-follows : goal.returns-else-has_ended-clause-follows
returns-else-has_ended-clause-follows c r h u =
    let is = actions.here h c.requires.thread c.from.ensures c.index-thread.ensures in
    c.act.ensures.follows r h
    (actions.said c.requires.proper c.requires.thread h is c.operations_of.ensures _
    (sym c.has_ended.ensures ∙ c.if-has_ended.false))
