use Rattle.step_world.proofs.Names.{refl, after_lend, after_end_walk, config_of}
use Rattle.std.proofs.Common.{◌∙◌}
use Rattle.step_world.proofs.Turning.{may_by, may_next, of_step, of_step_where, one_made}
use Rattle.step_world.proofs.ActionsOfWalks.{lends, ends_at_lock}
use Rattle.step_world.proofs.turns.walks.walk_at_lock.Goals as goal

pub lend_to-requires : goal.lend_to-requires
lend_to-requires c =
    let q = c.requires.run in
    let action = lends c.requires.proper c.requires.thread q.1 q.2
    (c.in-Some.ensures (config_of c.args.plan.now) q.0.state q.1.shows.shows q.1.on_track.lawful.lawful) in
    record { may = may_by action.1.turning _ (action.0, action.1.turning.may.0) }

pub end_walk-requires : goal.end_walk-requires
end_walk-requires c =
    let q = c.requires.run in
    record {
      may = may_next (ends_at_lock c.requires.proper c.requires.thread q.1 q.2
          (c.in-None.ensures (config_of c.args.plan.now) q.0.state q.1.shows.shows q.1.on_track.lawful.lawful)).turning;
    }

pub returns-in-Some-clause-follows : goal.returns-in-Some-clause-follows
unfolding after_lend
returns-in-Some-clause-follows c r h w =
    let action = lends c.requires.proper c.requires.thread h w
    (c.in-Some.ensures (config_of c.args.plan.now) r.state h.shows.shows h.on_track.lawful.lawful) in
    let a = c.lend_to.ensures in
    let lent = of_step_where
    (λ s shows lawful. c.is_some-on_turnstile.ensures ∙ c.turnstile_named.ensures.turnstile s shows lawful)
    (a.step action.0) a.progress a.books in
    one_made action.1 lent refl refl refl

pub returns-in-None-clause-follows : goal.returns-in-None-clause-follows
unfolding after_end_walk
returns-in-None-clause-follows c r h w =
    let action = ends_at_lock c.requires.proper c.requires.thread h w
    (c.in-None.ensures (config_of c.args.plan.now) r.state h.shows.shows h.on_track.lawful.lawful) in
    let a = c.end_walk.ensures in
    one_made action (of_step a.step a.progress a.books) refl refl refl
