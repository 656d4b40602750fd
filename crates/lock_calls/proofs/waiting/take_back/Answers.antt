use Rattle.lock_calls.proofs.Names.{sym, subst, TakesPart}
use Rattle.lock_calls.proofs.TakenBack.{RetakesSince, retakes_first, is_back, retakes_on, taken_back, back_steps}
use Rattle.lock_calls.proofs.waiting.take_back.Goals as goal
use Rattle.lock_calls.proofs.waiting.take_back.Goals.{in-At, in-Wake}

pub loop-init : goal.loop-init
loop-init g c = record {
  own = c.requires.own;
  stands = retakes_first c.args.floor.now.description c.args.l c.args.mode c.args.pass.now.view c.requires.may
      c.requires.own.description c.requires.lock;
}

pub retake_on-requires-clause-back : goal.retake_on-requires-clause-back
retake_on-requires-clause-back g c =
    is_back c.args.floor.now.description c.args.l c.args.mode c.args.pass.now.view c.requires.may c.loop.at
    c.loop.pass.view c.loop.pass.view c.loop.invariant.stands

pub retake_on-requires-clause-checked : goal.retake_on-requires-clause-checked
retake_on-requires-clause-checked g c = c.loop.invariant.stands.off

pub retake_on-requires-clause-under_way : goal.retake_on-requires-clause-under_way
retake_on-requires-clause-under_way g c = c.loop.invariant.stands.under

pub returns-in-Gained-clause-back : goal.returns-in-Gained-clause-back
returns-in-Gained-clause-back g c =
    let gained = subst (λ n. TakesPart c.args.floor.now.description c.args.l c.args.mode c.loop.at n c.loop.pass.view
    c.retake_on.new.pass.view) c.in-Gained.is c.retake_on.ensures.on in
    taken_back c.args.floor.now.description c.args.l c.args.mode c.args.pass.now.view c.requires.may c.loop.at
    c.loop.pass.view c.retake_on.new.pass.view c.loop.invariant.stands gained.0 gained.1

pub returns-in-Gained-clause-steps : goal.returns-in-Gained-clause-steps
returns-in-Gained-clause-steps g c =
    let gained = subst (λ n. TakesPart c.args.floor.now.description c.args.l c.args.mode c.loop.at n c.loop.pass.view
    c.retake_on.new.pass.view) c.in-Gained.is c.retake_on.ensures.on in
    back_steps c.args.floor.now.description c.args.l c.args.mode c.args.pass.now.view c.requires.may c.loop.at
    c.loop.pass.view c.retake_on.new.pass.view c.loop.invariant.stands gained.0 gained.1

pub unpark-requires : goal.unpark-requires
unpark-requires g c =
    (subst (λ n. TakesPart c.args.floor.now.description c.args.l c.args.mode c.loop.at n c.loop.pass.view
    c.retake_on.new.pass.view) c.in-Wake.is c.retake_on.ensures.on).of_floor

pub loop-preserved-in-Sleeps : goal.loop-preserved-in-Sleeps
loop-preserved-in-Sleeps g c = record {
  own = c.retake_on.ensures.own;
  stands = elim c.match-retake_on.branch [
    | in-At w ↦ subst (λ a. RetakesSince c.args.floor.now.description c.args.l c.args.mode c.args.pass.now.view a
        c.retake_on.new.pass.view) (sym w.at-is)
        (retakes_on c.args.floor.now.description c.args.l c.args.mode c.args.pass.now.view c.requires.may c.loop.at
        c.loop.pass.view c.retake_on.new.pass.view c.loop.invariant.stands w.in-At.to
        (subst (λ n. TakesPart c.args.floor.now.description c.args.l c.args.mode c.loop.at n c.loop.pass.view
        c.retake_on.new.pass.view) w.in-At.is c.retake_on.ensures.on).0)
    | in-Wake w ↦ subst (λ a. RetakesSince c.args.floor.now.description c.args.l c.args.mode c.args.pass.now.view a
        c.retake_on.new.pass.view) (sym w.at-is)
        (retakes_on c.args.floor.now.description c.args.l c.args.mode c.args.pass.now.view c.requires.may c.loop.at
        c.loop.pass.view c.retake_on.new.pass.view c.loop.invariant.stands w.in-Wake.to
        (subst (λ n. TakesPart c.args.floor.now.description c.args.l c.args.mode c.loop.at n c.loop.pass.view
        c.retake_on.new.pass.view) w.in-Wake.is c.retake_on.ensures.on).on)
  ];
}

pub loop-preserved : goal.loop-preserved
loop-preserved g c = record {
  own = c.retake_on.ensures.own;
  stands = elim c.match-retake_on.branch [
    | in-At w ↦ subst (λ a. RetakesSince c.args.floor.now.description c.args.l c.args.mode c.args.pass.now.view a
        c.retake_on.new.pass.view) (sym w.at-is)
        (retakes_on c.args.floor.now.description c.args.l c.args.mode c.args.pass.now.view c.requires.may c.loop.at
        c.loop.pass.view c.retake_on.new.pass.view c.loop.invariant.stands w.in-At.to
        (subst (λ n. TakesPart c.args.floor.now.description c.args.l c.args.mode c.loop.at n c.loop.pass.view
        c.retake_on.new.pass.view) w.in-At.is c.retake_on.ensures.on).0)
    | in-Wake w ↦ subst (λ a. RetakesSince c.args.floor.now.description c.args.l c.args.mode c.args.pass.now.view a
        c.retake_on.new.pass.view) (sym w.at-is)
        (retakes_on c.args.floor.now.description c.args.l c.args.mode c.args.pass.now.view c.requires.may c.loop.at
        c.loop.pass.view c.retake_on.new.pass.view c.loop.invariant.stands w.in-Wake.to
        (subst (λ n. TakesPart c.args.floor.now.description c.args.l c.args.mode c.loop.at n c.loop.pass.view
        c.retake_on.new.pass.view) w.in-Wake.is c.retake_on.ensures.on).on)
  ];
}
