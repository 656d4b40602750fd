use Rattle.step_world.proofs.Turning.{has_room}
use Rattle.step_world.proofs.ActionsOfLocks as actions
use Rattle.step_world.proofs.turns.locks.release.Goals as goal

pub unlock-requires-clause-may : goal.unlock-requires-clause-may
unlock-requires-clause-may c =
    let q = c.requires.run in
    let action = actions.releases_action c.requires.proper c.requires.thread q.1 q.2 in (
      q.0.state,
      action.turning.shows,
      action.turning.lawful,
      (_, actions.may_unlock c.requires.proper c.requires.thread q.1 c.args.l _ action.turning.may),
    )

pub unlock-requires-clause-room : goal.unlock-requires-clause-room
unlock-requires-clause-room c = let q = c.requires.run in has_room c.requires.proper c.requires.thread q.1 q.2

pub returns-clause-makes : goal.returns-clause-makes
returns-clause-makes c r h at =
    let a = c.unlock.ensures in
    actions.released c.requires.proper c.requires.thread h at a.steps a.progress
    (assumption a)
