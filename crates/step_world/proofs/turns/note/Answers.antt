use Rattle.step_world.proofs.Names.{refl, config_of, Ends, Note}
use Rattle.std.proofs.Common.{◌∙◌}
use Rattle.step_world.proofs.Turning.{has_room, may_next, goes, of_entry, made_behind}
use Rattle.step_world.proofs.AsFar.{awake_behind}
use Rattle.step_world.proofs.ActionsOfOperations as actions
use Rattle.step_world.proofs.turns.note.Goals as goal

pub stamp-requires-clause-may : goal.stamp-requires-clause-may
stamp-requires-clause-may c = let q = c.requires.run in
    may_next (actions.notes_action c.requires.proper c.requires.thread q.1 q.2).turning

pub stamp-requires-clause-room : goal.stamp-requires-clause-room
stamp-requires-clause-room c = let q = c.requires.run in has_room c.requires.proper c.requires.thread q.1 q.2.at

pub returns-clause-makes : goal.returns-clause-makes
returns-clause-makes c r h n =
    let a = c.stamp.ensures in
    let action = actions.notes_action c.requires.proper c.requires.thread h n in
    let k = config_of c.args.plan.now in
    let runs = awake_behind k r.state c.args.t.0 c.args.event action.turning.may.0 n.at.running
    (h.on_track.unnoted c.args.t.0) n.at.uncut in
    let behind = goes action.turning (of_entry a.step a.progress a.places a.room) in
    made_behind (Ends Note) _ refl action behind runs action.as_far.next_op (action.as_far.held ∙ n.holds_on)
