use Rattle.lock_calls.proofs.Names.{sym, subst, ReleasesPart}
use Rattle.lock_calls.proofs.GivenUp.{GivesUpSince, may_give_up, given_first, given_on, given_waking, given_up, given_steps}
use Rattle.lock_calls.proofs.waiting.give_up_held.Goals as goal
use Rattle.lock_calls.proofs.waiting.give_up_held.Goals.{in-At, in-Wake}

pub begin_giving_up-at-requires-clause-may : goal.begin_giving_up-at-requires-clause-may
begin_giving_up-at-requires-clause-may g c =
    may_give_up c.args.floor.now.description c.args.l.0 c.args.pass.now.view c.requires.may c.args.mode c.requires.held

pub loop-init : goal.loop-init
loop-init g c = record {
  own = c.begin_giving_up-at.ensures.own;
  stands = given_first c.args.floor.now.description c.args.l c.args.mode c.args.pass.now.view
      c.begin_giving_up-at.new.pass.view c.begin_giving_up-at.result c.begin_giving_up-at.ensures.begins;
}

pub release_on-requires-clause-there : goal.release_on-requires-clause-there
release_on-requires-clause-there g c = c.loop.invariant.stands.there

pub returns-in-Done-clause-gives_up : goal.returns-in-Done-clause-gives_up
returns-in-Done-clause-gives_up g c =
    given_up c.args.floor.now.description c.args.l c.args.mode c.args.pass.now.view c.loop.at c.loop.pass.view
    c.release_on.new.pass.view c.loop.invariant.stands c.requires.may
    (subst (λ n. ReleasesPart c.args.floor.now.description c.args.l c.args.mode c.loop.at n c.loop.pass.view
    c.release_on.new.pass.view) c.in-Done.is c.release_on.ensures.part)

pub returns-in-Done-clause-steps : goal.returns-in-Done-clause-steps
returns-in-Done-clause-steps g c =
    given_steps c.args.floor.now.description c.args.l c.args.mode c.args.pass.now.view c.loop.at c.loop.pass.view
    c.release_on.new.pass.view c.loop.invariant.stands
    (subst (λ n. ReleasesPart c.args.floor.now.description c.args.l c.args.mode c.loop.at n c.loop.pass.view
    c.release_on.new.pass.view) c.in-Done.is c.release_on.ensures.part)

pub unpark-requires : goal.unpark-requires
unpark-requires g c =
    (subst (λ n. ReleasesPart c.args.floor.now.description c.args.l c.args.mode c.loop.at n c.loop.pass.view
    c.release_on.new.pass.view) c.in-Wake.is c.release_on.ensures.part).of_floor

pub loop-preserved : goal.loop-preserved
loop-preserved g c = record {
  own = c.release_on.ensures.own;
  stands = elim c.match-release_on.branch [
    | in-At w ↦ subst (λ a. GivesUpSince c.args.floor.now.description c.args.l c.args.mode c.args.pass.now.view a
        c.release_on.new.pass.view) (sym w.at-is)
        (given_on c.args.floor.now.description c.args.l c.args.mode c.args.pass.now.view c.loop.at c.loop.pass.view
        c.release_on.new.pass.view c.loop.invariant.stands w.in-At.to
        (subst (λ n. ReleasesPart c.args.floor.now.description c.args.l c.args.mode c.loop.at n c.loop.pass.view
        c.release_on.new.pass.view) w.in-At.is c.release_on.ensures.part))
    | in-Wake w ↦ subst (λ a. GivesUpSince c.args.floor.now.description c.args.l c.args.mode c.args.pass.now.view a
        c.release_on.new.pass.view) (sym w.at-is)
        (given_waking c.args.floor.now.description c.args.l c.args.mode c.args.pass.now.view c.loop.at
        c.loop.pass.view c.release_on.new.pass.view c.loop.invariant.stands w.in-Wake.t.0
        (subst (λ n. ReleasesPart c.args.floor.now.description c.args.l c.args.mode c.loop.at n c.loop.pass.view
        c.release_on.new.pass.view) w.in-Wake.is c.release_on.ensures.part))
  ];
}
