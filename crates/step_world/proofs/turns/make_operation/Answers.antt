use Rattle.step_world.proofs.Names.{config_of, sets, adds, changes_base}
use Rattle.step_world.proofs.Turning.{is_there}
use Rattle.step_world.proofs.ActionsOfTurns.{here}
use Rattle.step_world.proofs.ActionsOfOperations as actions
use Rattle.step_world.proofs.turns.make_operation.Goals as goal

pub note-requires-in-Get-clause-run : goal.note-requires-in-Get-clause-run
note-requires-in-Get-clause-run c =
    let q = c.requires.run in
    (q.0, q.1, actions.got c.requires.proper c.requires.thread q.1 q.2 c.in-Get.is c.get-found.ensures)

pub note-requires-in-Show-clause-run : goal.note-requires-in-Show-clause-run
note-requires-in-Show-clause-run c =
    let q = c.requires.run in (
      q.0,
      q.1,
      actions.shown c.requires.proper c.requires.thread q.1 q.2 c.in-Show.is
          (here q.1 c.requires.thread c.from.ensures c.index.ensures) (rw c.deref.ensures at c.base-base.ensures)
          (rw c.deref-in-Show.ensures at c.eff-eff.ensures.value),
    )

pub index-requires : goal.index-requires
index-requires c =
    let q = c.requires.run in
    rw c.from.ensures
    (is_there (config_of c.args.plan.now) c.args.machine.now q.0.state c.args.t.0 q.1.shows.shows c.requires.thread)

pub note-requires-clause-run : goal.note-requires-clause-run
note-requires-clause-run c =
    let q = c.requires.run in (
      q.0,
      q.1,
      actions.is_note c.requires.proper c.requires.thread q.1 (actions.is_at c.in-Set.is q.2)
          (sets c.in-Set.l c.in-Set.key c.in-Set.value),
    )

pub note-requires-clause-key : goal.note-requires-clause-key
note-requires-clause-key c = let q = c.requires.run in
    actions.has_key _ _ q.1 (actions.is_at c.in-Set.is q.2) (sets c.in-Set.l c.in-Set.key c.in-Set.value)

pub returns-in-Set-clause-makes : goal.returns-in-Set-clause-makes
returns-in-Set-clause-makes c r h a =
    c.note.ensures.makes r h
    (actions.is_note c.requires.proper c.requires.thread h (actions.is_at c.in-Set.is a)
    (sets c.in-Set.l c.in-Set.key c.in-Set.value))

pub note-requires-in-Add-clause-run : goal.note-requires-in-Add-clause-run
note-requires-in-Add-clause-run c =
    let q = c.requires.run in (
      q.0,
      q.1,
      actions.is_note c.requires.proper c.requires.thread q.1 (actions.is_at c.in-Add.is q.2)
          (adds c.in-Add.l c.in-Add.key c.in-Add.amount),
    )

pub note-requires-in-Add-clause-key : goal.note-requires-in-Add-clause-key
note-requires-in-Add-clause-key c = let q = c.requires.run in
    actions.has_key _ _ q.1 (actions.is_at c.in-Add.is q.2) (adds c.in-Add.l c.in-Add.key c.in-Add.amount)

pub returns-in-Add-clause-makes : goal.returns-in-Add-clause-makes
returns-in-Add-clause-makes c r h a =
    c.note-in-Add.ensures.makes r h
    (actions.is_note c.requires.proper c.requires.thread h (actions.is_at c.in-Add.is a)
    (adds c.in-Add.l c.in-Add.key c.in-Add.amount))

pub note-requires-in-Base-clause-run : goal.note-requires-in-Base-clause-run
note-requires-in-Base-clause-run c =
    let q = c.requires.run in (
      q.0,
      q.1,
      actions.is_note c.requires.proper c.requires.thread q.1 (actions.is_at c.in-Base.is q.2)
          (changes_base c.in-Base.prio),
    )

pub returns-in-Base-clause-makes : goal.returns-in-Base-clause-makes
returns-in-Base-clause-makes c r h a =
    c.note-in-Base.ensures.makes r h
    (actions.is_note c.requires.proper c.requires.thread h (actions.is_at c.in-Base.is a) (changes_base c.in-Base.prio))

pub returns-in-Get-clause-makes : goal.returns-in-Get-clause-makes
returns-in-Get-clause-makes c r h a =
    c.note-in-Get.ensures.makes r h
    (actions.got c.requires.proper c.requires.thread h a c.in-Get.is c.get-found.ensures)

pub returns-in-Show-clause-makes : goal.returns-in-Show-clause-makes
returns-in-Show-clause-makes c r h a =
    c.note-in-Show.ensures.makes r h
    (actions.shown c.requires.proper c.requires.thread h a c.in-Show.is
    (here h c.requires.thread c.from.ensures c.index.ensures) (rw c.deref.ensures at c.base-base.ensures)
    (rw c.deref-in-Show.ensures at c.eff-eff.ensures.value))

pub returns-in-EndTry-clause-makes : goal.returns-in-EndTry-clause-makes
returns-in-EndTry-clause-makes c r h a = actions.ends_try c.requires.proper c.requires.thread h a c.in-EndTry.is

pub take_in_order-requires-clause-run : goal.take_in_order-requires-clause-run
take_in_order-requires-clause-run c = let q = c.requires.run in (q.0, q.1, actions.is_at c.in-Take.is q.2)

pub returns-in-Take-clause-makes : goal.returns-in-Take-clause-makes
returns-in-Take-clause-makes c r h a = c.take_in_order.ensures.makes r h (actions.is_at c.in-Take.is a)
