use Rattle.step_world.proofs.Names.{option_map, ap, sym, LockNo}
use Rattle.std.proofs.Common.{◌∙◌}
use Rattle.step_world.proofs.ActionsOfWaits as actions
use Rattle.step_world.proofs.turns.waits.by_release.Goals as goal

pub give_back-requires : goal.give_back-requires
give_back-requires c =
    let q = c.requires.run in
    let owed = sym (c.owed_release.ensures q.0 q.1) ∙ ap (option_map (λ (l : LockNo). l.0)) c.in-Some.is in
    record { may = actions.may_give_up c.requires.proper c.requires.thread q.1 q.2 owed }

pub returns-in-Some-clause-follows : goal.returns-in-Some-clause-follows
returns-in-Some-clause-follows c r h d =
    let a = c.give_back.ensures in
    let owed = sym (c.owed_release.ensures r h) ∙ ap (option_map (λ (l : LockNo). l.0)) c.in-Some.is in
    actions.gave_up c.requires.proper c.requires.thread h d owed a.step a.progress a.books
