use Rattle.step_world.proofs.ActionsOfTakes as actions
use Rattle.step_world.proofs.ActionsOfTurns.{here}
use Rattle.step_world.proofs.turns.locks.take_in_order.Goals as goal

pub take-requires-clause-run : goal.take-requires-clause-run
take-requires-clause-run c =
    let q = c.requires.run in (
      q.0,
      q.1,
      actions.goes_on_taking c.requires.proper c.requires.thread q.1
          (here q.1 c.requires.thread c.from.ensures c.index.ensures) q.2 c.if-index.true,
    )

pub begin_take-requires-clause-run : goal.begin_take-requires-clause-run
begin_take-requires-clause-run c =
    let q = c.requires.run in (
      q.0,
      q.1,
      actions.begins_take c.requires.proper c.requires.thread q.1
          (here q.1 c.requires.thread c.from.ensures c.index.ensures) q.2 c.if-index.false,
    )

pub returns-then-index-clause-makes : goal.returns-then-index-clause-makes
returns-then-index-clause-makes c r h at =
    c.take.ensures.makes r h
    (actions.goes_on_taking c.requires.proper c.requires.thread h
    (here h c.requires.thread c.from.ensures c.index.ensures) at c.if-index.true)

pub returns-else-index-clause-makes : goal.returns-else-index-clause-makes
returns-else-index-clause-makes c r h at =
    c.begin_take.ensures.makes r h
    (actions.begins_take c.requires.proper c.requires.thread h
    (here h c.requires.thread c.from.ensures c.index.ensures) at c.if-index.false)
