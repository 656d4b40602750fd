use Rattle.lock_calls.proofs.Driven.{unlocked_at_once, releases_begun, release_begins_on, unlocked, releases_on, releases_awake, wakes_low, releases_waking}
use Rattle.lock_calls.proofs.waiting.release.Goals as goal

pub returns-in-Done : goal.returns-in-Done
returns-in-Done g c =
    let done = unlocked_at_once c.args.floor.now.description c.args.l c.args.mode c.begin_release.result c.args.pass.now
    c.begin_release.new.pass c.begin_release.ensures.begun c.in-Done.is in
    record {
      ready = record { own = c.begin_release.ensures.own; rest = done.rest };
      entry = done.entry;
      steps = (done.how, done.is_so, done.steps);
    }

pub loop-init : goal.loop-init
loop-init g c = record {
  own = c.begin_release.ensures.own;
  stands = releases_begun c.args.floor.now.description c.args.l c.args.mode c.begin_release.result c.args.pass.now
      c.begin_release.new.pass c.begin_release.ensures.begun c.in-Again.is;
}

pub unreachable-requires : goal.unreachable-requires
unreachable-requires g c =
    release_begins_on c.args.floor.now.description c.args.l c.args.mode c.begin_release.result c.args.pass.now
    c.begin_release.new.pass c.begin_release.ensures.begun c.in-Sleep.is

pub go_on_releasing-requires-clause-under_way : goal.go_on_releasing-requires-clause-under_way
go_on_releasing-requires-clause-under_way g c =
    let s = c.loop.invariant.stands in
    record { l = c.args.l; mode = c.args.mode; at = s.at; call = s.call; there = s.under }

pub returns-in-Done-go_on_releasing : goal.returns-in-Done-go_on_releasing
returns-in-Done-go_on_releasing g c =
    let done = unlocked c.args.floor.now.description c.args.l c.args.mode c.args.pass.now.view c.loop.pass
    c.loop.invariant.stands
    c.go_on_releasing.result c.go_on_releasing.new.pass
    (c.go_on_releasing.ensures.went c.args.l c.args.mode c.loop.invariant.stands.at c.loop.invariant.stands.call)
    c.in-Done-go_on_releasing.is in
    record {
      ready = record { own = c.go_on_releasing.ensures.own; rest = done.rest };
      entry = done.entry;
      steps = (done.how, done.is_so, done.steps);
    }

pub loop-preserved-in-Again-go_on_releasing : goal.loop-preserved-in-Again-go_on_releasing
loop-preserved-in-Again-go_on_releasing g c = assumption (
  releases_on c.args.floor.now.description c.args.l c.args.mode c.args.pass.now.view c.loop.pass c.loop.invariant.stands
      c.go_on_releasing.result c.go_on_releasing.new.pass
      (c.go_on_releasing.ensures.went c.args.l c.args.mode c.loop.invariant.stands.at c.loop.invariant.stands.call)
      c.in-Again-go_on_releasing.is,
  c.go_on_releasing.ensures,
)

pub unreachable-requires-in-Sleep-go_on_releasing : goal.unreachable-requires-in-Sleep-go_on_releasing
unreachable-requires-in-Sleep-go_on_releasing g c =
    releases_awake c.args.floor.now.description c.args.l c.args.mode c.args.pass.now.view c.loop.pass
    c.loop.invariant.stands
    c.go_on_releasing.result c.go_on_releasing.new.pass
    (c.go_on_releasing.ensures.went c.args.l c.args.mode c.loop.invariant.stands.at c.loop.invariant.stands.call)
    c.in-Sleep-go_on_releasing.is

pub unpark-requires : goal.unpark-requires
unpark-requires g c =
    wakes_low c.args.floor.now.description c.args.l c.args.mode c.args.pass.now.view c.loop.pass c.loop.invariant.stands
    c.go_on_releasing.result c.go_on_releasing.new.pass
    (c.go_on_releasing.ensures.went c.args.l c.args.mode c.loop.invariant.stands.at c.loop.invariant.stands.call)
    c.in-Wake.t c.in-Wake.is

pub loop-preserved : goal.loop-preserved
loop-preserved g c = assumption (
  releases_waking c.args.floor.now.description c.args.l c.args.mode c.args.pass.now.view c.loop.pass
      c.loop.invariant.stands c.go_on_releasing.result c.go_on_releasing.new.pass
      (c.go_on_releasing.ensures.went c.args.l c.args.mode c.loop.invariant.stands.at c.loop.invariant.stands.call)
      c.in-Wake.t c.in-Wake.is,
  c.go_on_releasing.ensures,
)
