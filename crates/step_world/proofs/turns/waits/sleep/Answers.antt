use Rattle.step_world.proofs.Names.{subst, sym, Chan}
use Rattle.std.proofs.Common.{◌≤◌, ◌∙◌}
use Rattle.step_world.proofs.Turning.{has_room, may_next, may_by, goes, of_step, of_entry}
use Rattle.step_world.proofs.ActionsOfTurns.{here}
use Rattle.step_world.proofs.ActionsOfWaits as actions
use Rattle.step_world.proofs.turns.waits.sleep.Goals as goal

pub take-requires-clause-run : goal.take-requires-clause-run
take-requires-clause-run c =
    let q = c.requires.run in
    let is = here q.1 c.requires.thread c.from.ensures c.index-thread.ensures in (
      q.0,
      q.1,
      actions.takes_back c.requires.proper c.requires.thread q.1 is q.2
          (sym c.is_some.ensures ∙ c.if-is_some.true) c.lock_of.ensures,
    )

pub returns-then-is_some-clause-makes : goal.returns-then-is_some-clause-makes
returns-then-is_some-clause-makes c r h at =
    let is = here h c.requires.thread c.from.ensures c.index-thread.ensures in
    c.take.ensures.makes r h
    (actions.takes_back c.requires.proper c.requires.thread h is at (sym c.is_some.ensures ∙ c.if-is_some.true)
    c.lock_of.ensures)

pub stamp-requires-clause-may : goal.stamp-requires-clause-may
stamp-requires-clause-may c =
    let q = c.requires.run in
    let a = c.ready.ensures in
    let is = here q.1 c.requires.thread c.from.ensures c.index-thread.ensures in
    let action = actions.sleeps_action c.requires.proper c.requires.thread q.1 is q.2
    (sym c.is_some.ensures ∙ c.if-is_some.false) in
    may_next (goes action.turning (of_step (a.step (Chan c.args.c)) a.progress a.books))

pub stamp-requires-clause-room : goal.stamp-requires-clause-room
stamp-requires-clause-room c =
    let q = c.requires.run in
    subst (λ g. 1 ≤ g.spare) (sym c.ready.ensures.books.log) (has_room c.requires.proper c.requires.thread q.1 q.2)

pub add-requires : goal.add-requires
add-requires c =
    let q = c.requires.run in
    let a = c.ready.ensures in
    let b = c.stamp.ensures in
    let is = here q.1 c.requires.thread c.from.ensures c.index-thread.ensures in
    let action = actions.sleeps_action c.requires.proper c.requires.thread q.1 is q.2
    (sym c.is_some.ensures ∙ c.if-is_some.false) in
    let noted = goes (goes action.turning (of_step (a.step (Chan c.args.c)) a.progress a.books))
    (of_entry b.step b.progress b.places b.room) in
    record { may = may_by noted _ (_, noted.may.0) }

pub returns-clause-makes : goal.returns-clause-makes
returns-clause-makes c r h at =
    let a = c.ready.ensures in
    let b = c.stamp.ensures in
    let e = c.add.ensures in
    let is = here h c.requires.thread c.from.ensures c.index-thread.ensures in
    let awake = sym c.is_some.ensures ∙ c.if-is_some.false in
    let action = actions.sleeps_action c.requires.proper c.requires.thread h is at awake in
    let noted = goes (goes action.turning (of_step (a.step (Chan c.args.c)) a.progress a.books))
    (of_entry b.step b.progress b.places b.room) in
    actions.fallen_asleep c.requires.proper c.requires.thread h is at awake
    (goes noted (of_step (e.step _) e.progress e.books))
