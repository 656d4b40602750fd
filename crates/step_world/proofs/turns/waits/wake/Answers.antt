use Rattle.step_world.proofs.Names.{refl, subst, sym, config_of}
use Rattle.std.proofs.Common.{◌≡◌, ◌≤◌, ◌∙◌}
use Rattle.step_world.proofs.Turning.{may_next, goes, of_step, of_entry}
use Rattle.step_world.proofs.ActionsOfWaits as actions
use Rattle.step_world.proofs.ActionsOfWaits.{noting}
use Rattle.step_world.proofs.turns.waits.wake.Goals.{then-all, else-all}
use Rattle.step_world.proofs.turns.waits.wake.Goals as goal

pub wake-woken-requires : goal.wake-woken-requires
wake-woken-requires c =
    let q = c.requires.run in
    record { may = actions.may_wake c.requires.proper c.requires.thread q.1 c.args.c c.args.all q.2 }

pub stamp-requires-clause-may : goal.stamp-requires-clause-may
stamp-requires-clause-may c =
    let q = c.requires.run in
    let a = c.wake-woken.ensures in
    let said : c.if-all.stamp ≡ noting c.args.c c.args.all c.wake-woken.result = elim c.if-all.branch [
      | then-all w ↦ w.stamp-is ∙ rw w.if-all.true refl
      | else-all w ↦ w.stamp-is ∙ rw w.if-all.false refl
    ] in
    let action = actions.wakes_action c.requires.proper c.requires.thread q.1 c.args.c c.args.all c.wake-woken.result
    q.2 said (a.woken (config_of c.args.plan.now) q.0.state q.1.shows.shows q.1.on_track.lawful.lawful) in
    may_next (goes action.turning (of_step a.step a.progress a.books))

pub stamp-requires-clause-room : goal.stamp-requires-clause-room
stamp-requires-clause-room c =
    let q = c.requires.run in
    subst (λ g. 1 ≤ g.spare) (sym c.wake-woken.ensures.books.log)
    (actions.room_for_wake c.requires.proper c.requires.thread q.1 c.args.c c.args.all q.2)

pub returns-clause-makes : goal.returns-clause-makes
returns-clause-makes c r h w =
    let a = c.wake-woken.ensures in
    let b = c.stamp.ensures in
    let said : c.if-all.stamp ≡ noting c.args.c c.args.all c.wake-woken.result = elim c.if-all.branch [
      | then-all x ↦ x.stamp-is ∙ rw x.if-all.true refl
      | else-all x ↦ x.stamp-is ∙ rw x.if-all.false refl
    ] in
    let bits = a.woken (config_of c.args.plan.now) r.state h.shows.shows h.on_track.lawful.lawful in
    let action = actions.wakes_action c.requires.proper c.requires.thread h c.args.c c.args.all c.wake-woken.result w
    said bits in
    actions.woke c.requires.proper c.requires.thread h c.args.c c.args.all c.wake-woken.result w said bits
    (goes (goes action.turning (of_step a.step a.progress a.books)) (of_entry b.step b.progress b.places b.room))
