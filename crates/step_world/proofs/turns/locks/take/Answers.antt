use Rattle.step_world.proofs.Names.{sym}
use Rattle.std.proofs.Common.{◌∙◌}
use Rattle.step_world.proofs.Turning.{may_by, finished}
use Rattle.step_world.proofs.ActionsOfLocks as actions
use Rattle.step_world.proofs.turns.locks.take.Goals as goal

pub is_admitted-requires-clause-lock : goal.is_admitted-requires-clause-lock
is_admitted-requires-clause-lock c = c.requires.run.2.lock

pub is_admitted-requires-clause-mutex : goal.is_admitted-requires-clause-mutex
is_admitted-requires-clause-mutex c = c.requires.run.2.kind

pub is_admitted-requires-clause-run : goal.is_admitted-requires-clause-run
is_admitted-requires-clause-run c = let q = c.requires.run in (q.0, q.1, tt)

pub gain_or_claim-requires-clause-run : goal.gain_or_claim-requires-clause-run
gain_or_claim-requires-clause-run c =
    let q = c.requires.run in (
      q.0,
      q.1,
      actions.takes_it c.requires.proper c.requires.thread q.1 q.2
          (sym (c.is_admitted.ensures q.0 q.1) ∙ c.if-is_admitted.true),
    )

pub block-requires : goal.block-requires
block-requires c =
    let q = c.requires.run in
    let action = actions.blocks_action c.requires.proper c.requires.thread q.1 c.lock_kind.result c.lock_kind.ensures
    q.2 (sym (c.is_admitted.ensures q.0 q.1) ∙ c.if-is_admitted.false) in
    record { may = may_by action.turning _ (c.lock_kind.ensures, (_, action.turning.may)) }

pub returns-then-is_admitted-clause-makes : goal.returns-then-is_admitted-clause-makes
returns-then-is_admitted-clause-makes c r h g =
    c.gain_or_claim.ensures.makes r h
    (actions.takes_it c.requires.proper c.requires.thread h g
    (sym (c.is_admitted.ensures r h) ∙ c.if-is_admitted.true))

pub returns-else-is_admitted-clause-makes : goal.returns-else-is_admitted-clause-makes
returns-else-is_admitted-clause-makes c r h g =
    let a = c.block.ensures in
    let refused = sym (c.is_admitted.ensures r h) ∙ c.if-is_admitted.false in
    let action = actions.blocks_action c.requires.proper c.requires.thread h c.lock_kind.result c.lock_kind.ensures g
    refused in
    actions.blocked c.requires.proper c.requires.thread h c.lock_kind.result c.lock_kind.ensures g refused
    (finished action.turning c.lock_kind.ensures (a.steps _) a.progress a.books)
