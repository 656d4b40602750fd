use Rattle.std.proofs.Common.{◌≡◌, ap, ◌∙◌, subst}
use Rattle.floor_table.specs.Descriptions.{config_in}
use Rattle.lock_model.specs.Holds.{Holds}
use Rattle.lock_model.specs.Operations.{hold_in}
use Rattle.lock_floor.specs.Resumes.{cause_of}
use Rattle.lock_floor.proofs.Taking.{waits_none}
use Rattle.cond_vars.specs.declared.parts.WaitNext.TheVariants as next
use Rattle.cond_vars.proofs.Places.{has_released, is_back, may_park}
use Rattle.cond_vars.proofs.Waited.{gives_its, has_left, has_retaken, its_mode, low, may_release, may_retake, told}
use Rattle.cond_vars.proofs.waits.cv_wait.Goals as goal

pub last_held-l-requires : goal.last_held-l-requires
last_held-l-requires g c = record { may = c.requires.may }

pub mode_of-mode-requires-clause-may : goal.mode_of-mode-requires-clause-may
mode_of-mode-requires-clause-may g c = c.requires.may

pub mode_of-mode-requires-clause-lock : goal.mode_of-mode-requires-clause-lock
mode_of-mode-requires-clause-lock g c = c.last_held-l.ensures

pub loop-init : goal.loop-init
loop-init g c = record {
  own = c.requires.ready.own;
  lock = c.last_held-l.ensures;
  held = subst (λ k. hold_in c.args.pass.now.view.share.held k ≡ Holds c.mode_of-mode.result) c.last_held-l.ensures
      c.mode_of-mode.ensures;
  there = (c.requires.ready.rest, c.requires.may);
  since = waits_none c.args.pass.now.view;
}

pub returns-in-Done-clause-ready : goal.returns-in-Done-clause-ready
returns-in-Done-clause-ready g c =
    let went = told g.K.Relock.releases g.K.Relock.takes_back c.args.floor.now.description c.args.c
    c.args.pass.now.view c.mode_of-mode.result c.loop.pass.view c.go_on_waiting.new.pass.view c.loop.invariant.held
    c.loop.at
    c.go_on_waiting.result next.Done c.in-Done.is c.go_on_waiting.ensures.part c.loop.invariant.there
    c.go_on_waiting.ensures.then c.loop.invariant.since in
    record { own = c.go_on_waiting.ensures.own; rest = went.0 }

pub returns-in-Done-clause-woke : goal.returns-in-Done-clause-woke
returns-in-Done-clause-woke g c =
    let went = told g.K.Relock.releases g.K.Relock.takes_back c.args.floor.now.description c.args.c
    c.args.pass.now.view c.mode_of-mode.result c.loop.pass.view c.go_on_waiting.new.pass.view c.loop.invariant.held
    c.loop.at
    c.go_on_waiting.result next.Done c.in-Done.is c.go_on_waiting.ensures.part c.loop.invariant.there
    c.go_on_waiting.ensures.then c.loop.invariant.since in
    went.1

pub returns-in-Halted-clause-ready : goal.returns-in-Halted-clause-ready
returns-in-Halted-clause-ready g c =
    let went = told g.K.Relock.releases g.K.Relock.takes_back c.args.floor.now.description c.args.c
    c.args.pass.now.view c.mode_of-mode.result c.loop.pass.view c.go_on_waiting.new.pass.view c.loop.invariant.held
    c.loop.at
    c.go_on_waiting.result next.Halted c.in-Halted.is c.go_on_waiting.ensures.part c.loop.invariant.there
    c.go_on_waiting.ensures.then c.loop.invariant.since in
    record { own = c.go_on_waiting.ensures.own; rest = went.0 }

pub returns-in-Halted-clause-halted : goal.returns-in-Halted-clause-halted
returns-in-Halted-clause-halted g c =
    let went = told g.K.Relock.releases g.K.Relock.takes_back c.args.floor.now.description c.args.c
    c.args.pass.now.view c.mode_of-mode.result c.loop.pass.view c.go_on_waiting.new.pass.view c.loop.invariant.held
    c.loop.at
    c.go_on_waiting.result next.Halted c.in-Halted.is c.go_on_waiting.ensures.part c.loop.invariant.there
    c.go_on_waiting.ensures.then c.loop.invariant.since in
    went.1

pub loop-preserved-then-eq : goal.loop-preserved-then-eq
loop-preserved-then-eq g c =
    let went = told g.K.Relock.releases g.K.Relock.takes_back c.args.floor.now.description c.args.c
    c.args.pass.now.view c.mode_of-mode.result c.loop.pass.view c.go_on_waiting.new.pass.view c.loop.invariant.held
    c.loop.at
    c.go_on_waiting.result (next.Again c.in-Again.to) c.in-Again.is c.go_on_waiting.ensures.part c.loop.invariant.there
    c.go_on_waiting.ensures.then c.loop.invariant.since in
    assumption (went.0, went.1, c.go_on_waiting.ensures, c.loop.invariant)

pub loop-preserved-else-eq : goal.loop-preserved-else-eq
loop-preserved-else-eq g c =
    let went = told g.K.Relock.releases g.K.Relock.takes_back c.args.floor.now.description c.args.c
    c.args.pass.now.view c.mode_of-mode.result c.loop.pass.view c.go_on_waiting.new.pass.view c.loop.invariant.held
    c.loop.at
    c.go_on_waiting.result (next.Again c.in-Again.to) c.in-Again.is c.go_on_waiting.ensures.part c.loop.invariant.there
    c.go_on_waiting.ensures.then c.loop.invariant.since in
    assumption (went.0, went.1, c.go_on_waiting.ensures, c.loop.invariant)

pub loop-preserved-in-Sleep : goal.loop-preserved-in-Sleep
loop-preserved-in-Sleep g c =
    let went = told g.K.Relock.releases g.K.Relock.takes_back c.args.floor.now.description c.args.c
    c.args.pass.now.view c.mode_of-mode.result c.loop.pass.view c.go_on_waiting.new.pass.view c.loop.invariant.held
    c.loop.at
    c.go_on_waiting.result next.Sleep c.in-Sleep.is c.go_on_waiting.ensures.part c.loop.invariant.there
    c.go_on_waiting.ensures.then c.loop.invariant.since in
    assumption (went.0, went.1, c.go_on_waiting.ensures, c.loop.invariant)

pub unpark-requires : goal.unpark-requires
unpark-requires g c =
    let went = told g.K.Relock.releases g.K.Relock.takes_back c.args.floor.now.description c.args.c
    c.args.pass.now.view c.mode_of-mode.result c.loop.pass.view c.go_on_waiting.new.pass.view c.loop.invariant.held
    c.loop.at
    c.go_on_waiting.result (next.Wake c.in-Wake.t c.in-Wake.to) c.in-Wake.is c.go_on_waiting.ensures.part
    c.loop.invariant.there
    c.go_on_waiting.ensures.then c.loop.invariant.since in
    went.1.0

pub loop-preserved-in-Wake : goal.loop-preserved-in-Wake
loop-preserved-in-Wake g c =
    let went = told g.K.Relock.releases g.K.Relock.takes_back c.args.floor.now.description c.args.c
    c.args.pass.now.view c.mode_of-mode.result c.loop.pass.view c.go_on_waiting.new.pass.view c.loop.invariant.held
    c.loop.at
    c.go_on_waiting.result (next.Wake c.in-Wake.t c.in-Wake.to) c.in-Wake.is c.go_on_waiting.ensures.part
    c.loop.invariant.there
    c.go_on_waiting.ensures.then c.loop.invariant.since in
    assumption (went.0, went.1.1, c.go_on_waiting.ensures, c.loop.invariant)

pub release-requires-clause-lock : goal.release-requires-clause-lock
release-requires-clause-lock g c =
    let went = told g.K.Relock.releases g.K.Relock.takes_back c.args.floor.now.description c.args.c
    c.args.pass.now.view c.mode_of-mode.result c.loop.pass.view c.go_on_waiting.new.pass.view c.loop.invariant.held
    c.loop.at
    c.go_on_waiting.result next.Release c.in-Release.is c.go_on_waiting.ensures.part c.loop.invariant.there
    c.go_on_waiting.ensures.then c.loop.invariant.since in
    low g.K.Relock.releases g.K.Relock.takes_back c.args.floor.now.description c.args.c c.args.pass.now.view
    c.mode_of-mode.result c.last_held-l.result c.loop.invariant.lock c.loop.invariant.held
    c.go_on_waiting.new.pass.view went.1

pub release-requires-clause-kind : goal.release-requires-clause-kind
release-requires-clause-kind g c =
    ap (config_in c.args.floor.now.description).kind c.loop.invariant.lock ∙ c.requires.kind

pub release-requires-clause-may : goal.release-requires-clause-may
release-requires-clause-may g c =
    let went = told g.K.Relock.releases g.K.Relock.takes_back c.args.floor.now.description c.args.c
    c.args.pass.now.view c.mode_of-mode.result c.loop.pass.view c.go_on_waiting.new.pass.view c.loop.invariant.held
    c.loop.at
    c.go_on_waiting.result next.Release c.in-Release.is c.go_on_waiting.ensures.part c.loop.invariant.there
    c.go_on_waiting.ensures.then c.loop.invariant.since in
    may_release g.K.Relock.releases g.K.Relock.takes_back c.args.floor.now.description c.args.c c.args.pass.now.view
    c.mode_of-mode.result c.last_held-l.result c.loop.invariant.lock c.loop.invariant.held
    c.go_on_waiting.new.pass.view c.go_on_waiting.new.pass.view went.0

pub loop-preserved-in-Release : goal.loop-preserved-in-Release
loop-preserved-in-Release g c =
    let went = told g.K.Relock.releases g.K.Relock.takes_back c.args.floor.now.description c.args.c
    c.args.pass.now.view c.mode_of-mode.result c.loop.pass.view c.go_on_waiting.new.pass.view c.loop.invariant.held
    c.loop.at
    c.go_on_waiting.result next.Release c.in-Release.is c.go_on_waiting.ensures.part c.loop.invariant.there
    c.go_on_waiting.ensures.then c.loop.invariant.since in
    let gives = gives_its g.K.Relock.releases g.K.Relock.takes_back c.args.floor.now.description c.args.c
    c.args.pass.now.view c.mode_of-mode.result c.last_held-l.result c.loop.invariant.lock c.loop.invariant.held
    c.go_on_waiting.new.pass.view c.release.new.pass.view c.release.ensures.gives_up in
    let released = has_released c.args.floor.now.description c.args.c c.go_on_waiting.new.pass.view went.0
    c.release.new.pass.view gives c.release.ensures.own.description in
    record {
      own = c.release.ensures.own;
      lock = c.loop.invariant.lock;
      held = c.loop.invariant.held;
      there = (
        released,
        may_park c.args.floor.now.description c.args.c c.go_on_waiting.new.pass.view went.0 c.release.new.pass.view
            gives c.release.ensures.own.description,
      );
      since = has_left g.K.Relock.releases g.K.Relock.takes_back c.args.floor.now.description c.args.c
          c.args.pass.now.view c.mode_of-mode.result c.last_held-l.result c.loop.invariant.lock c.loop.invariant.held
          c.go_on_waiting.new.pass.view c.release.new.pass.view went.1 went.0 c.release.ensures.gives_up
          c.release.ensures.steps released;
    }

pub retake-requires-clause-lock : goal.retake-requires-clause-lock
retake-requires-clause-lock g c =
    let went = told g.K.Relock.releases g.K.Relock.takes_back c.args.floor.now.description c.args.c
    c.args.pass.now.view c.mode_of-mode.result c.loop.pass.view c.go_on_waiting.new.pass.view c.loop.invariant.held
    c.loop.at
    c.go_on_waiting.result (next.TakeBack c.in-TakeBack.aborted) c.in-TakeBack.is c.go_on_waiting.ensures.part
    c.loop.invariant.there
    c.go_on_waiting.ensures.then c.loop.invariant.since in
    low g.K.Relock.releases g.K.Relock.takes_back c.args.floor.now.description c.args.c c.args.pass.now.view
    c.mode_of-mode.result c.last_held-l.result c.loop.invariant.lock c.loop.invariant.held
    went.1.has_left.asleep went.1.has_left.lain

pub retake-requires-clause-kind : goal.retake-requires-clause-kind
retake-requires-clause-kind g c =
    ap (config_in c.args.floor.now.description).kind c.loop.invariant.lock ∙ c.requires.kind

pub retake-requires-clause-may : goal.retake-requires-clause-may
retake-requires-clause-may g c =
    let went = told g.K.Relock.releases g.K.Relock.takes_back c.args.floor.now.description c.args.c
    c.args.pass.now.view c.mode_of-mode.result c.loop.pass.view c.go_on_waiting.new.pass.view c.loop.invariant.held
    c.loop.at
    c.go_on_waiting.result (next.TakeBack c.in-TakeBack.aborted) c.in-TakeBack.is c.go_on_waiting.ensures.part
    c.loop.invariant.there
    c.go_on_waiting.ensures.then c.loop.invariant.since in
    may_retake g.K.Relock.releases g.K.Relock.takes_back c.args.floor.now.description c.args.c c.args.pass.now.view
    c.mode_of-mode.result c.last_held-l.result c.loop.invariant.lock c.loop.invariant.held
    c.go_on_waiting.new.pass.view c.go_on_waiting.new.pass.view (cause_of c.in-TakeBack.aborted) went.1 went.0

pub loop-preserved : goal.loop-preserved
loop-preserved g c =
    let went = told g.K.Relock.releases g.K.Relock.takes_back c.args.floor.now.description c.args.c
    c.args.pass.now.view c.mode_of-mode.result c.loop.pass.view c.go_on_waiting.new.pass.view c.loop.invariant.held
    c.loop.at
    c.go_on_waiting.result (next.TakeBack c.in-TakeBack.aborted) c.in-TakeBack.is c.go_on_waiting.ensures.part
    c.loop.invariant.there
    c.go_on_waiting.ensures.then c.loop.invariant.since in
    assumption (
      is_back c.args.floor.now.description c.args.c (cause_of c.in-TakeBack.aborted) c.go_on_waiting.new.pass.view
          went.0 c.last_held-l.result c.loop.invariant.lock c.mode_of-mode.result (its_mode g.K.Relock.releases
          g.K.Relock.takes_back c.args.floor.now.description c.args.c c.args.pass.now.view c.mode_of-mode.result
          c.last_held-l.result c.loop.invariant.lock c.loop.invariant.held c.go_on_waiting.new.pass.view
          c.retake.new.pass.view (cause_of c.in-TakeBack.aborted) went.1) c.retake.new.pass.view c.retake.ensures.back,
      has_retaken g.K.Relock.releases g.K.Relock.takes_back c.args.floor.now.description c.args.c c.args.pass.now.view
          c.mode_of-mode.result c.last_held-l.result c.loop.invariant.lock c.loop.invariant.held
          c.go_on_waiting.new.pass.view c.retake.new.pass.view
          (cause_of c.in-TakeBack.aborted) went.1 c.requires.may c.retake.ensures.back c.retake.ensures.steps,
      c.retake.ensures,
      c.loop.invariant,
    )
