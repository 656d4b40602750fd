use Rattle.step_world.proofs.Names.{refl, after_shift, after_end_walk}
use Rattle.step_world.proofs.Turning.{may_by, may_next, of_step, one_made}
use Rattle.step_world.proofs.ActionsOfWalks.{shifts, ends_at_thread}
use Rattle.step_world.proofs.turns.walks.walk_at_thread.Goals as goal

pub sort_anew-requires : goal.sort_anew-requires
sort_anew-requires c =
    let q = c.requires.run in
    let at = c.in-Some.ensures q.0.state q.1.shows.shows q.1.on_track.lawful.lawful in
    let action = shifts c.requires.proper c.requires.thread q.1 q.2 at in
    record { may = may_by action.turning _ (action.turning.may.0, at.owner) }

pub end_walk-requires : goal.end_walk-requires
end_walk-requires c =
    let q = c.requires.run in
    record {
      may = may_next (ends_at_thread c.requires.proper c.requires.thread q.1 q.2
          (c.in-None.ensures q.0.state q.1.shows.shows q.1.on_track.lawful.lawful)).turning;
    }

pub returns-in-Some-clause-follows : goal.returns-in-Some-clause-follows
unfolding after_shift
returns-in-Some-clause-follows c r h w =
    let a = c.sort_anew.ensures in
    one_made
    (shifts c.requires.proper c.requires.thread h w (c.in-Some.ensures r.state h.shows.shows h.on_track.lawful.lawful))
    (of_step a.step a.progress a.books) refl refl refl

pub returns-in-None-clause-follows : goal.returns-in-None-clause-follows
unfolding after_end_walk
returns-in-None-clause-follows c r h w =
    let a = c.end_walk.ensures in
    one_made (ends_at_thread c.requires.proper c.requires.thread h w
    (c.in-None.ensures r.state h.shows.shows h.on_track.lawful.lawful))
    (of_step a.step a.progress a.books) refl refl refl
