use Rattle.lock_calls.proofs.Driven.{locked_at_once, stands_begun, begins_on, locked, stands_on, stands_asleep, halts_low, stands_waking, was_refused, was_halted}
use Rattle.lock_calls.proofs.Refused.{bare_admitted}
use Rattle.lock_calls.proofs.waiting.take_or_halt.Goals as goal

pub returns-in-Done : goal.returns-in-Done
returns-in-Done g c =
    let done = locked_at_once c.args.floor.now.description c.args.l c.args.mode c.begin_take.result c.args.pass.now
    c.begin_take.new.pass
    c.begin_take.ensures.begun c.in-Done.is in
    record {
      ready = record { own = c.begin_take.ensures.own; rest = done.taken.rest };
      entry = done.taken.entry;
      steps = done.locks;
      refused = tt;
      bare = λ h. tt;
    }

pub loop-init : goal.loop-init
loop-init g c = assumption (
  stands_begun c.args.floor.now.description c.args.l c.args.mode c.begin_take.result c.args.pass.now
      c.begin_take.new.pass c.begin_take.ensures.begun c.in-Again.is,
  c.begin_take.ensures,
)

pub unreachable-requires : goal.unreachable-requires
unreachable-requires g c =
    begins_on c.args.floor.now.description c.args.l c.args.mode c.begin_take.result c.args.pass.now
    c.begin_take.new.pass c.begin_take.ensures.begun c.in-Sleep.is

pub go_on_taking-requires-clause-under_way : goal.go_on_taking-requires-clause-under_way
go_on_taking-requires-clause-under_way g c =
    let s = c.loop.invariant.stands in
    record { l = c.args.l; mode = c.args.mode; at = s.0; call = s.1; there = s.2 }

pub returns-in-Done-go_on_taking : goal.returns-in-Done-go_on_taking
returns-in-Done-go_on_taking g c =
    let done = locked c.args.floor.now.description c.args.l c.args.mode c.args.pass.now.view c.loop.pass
    c.loop.invariant.stands
    c.go_on_taking.result c.go_on_taking.new.pass
    (c.go_on_taking.ensures.went c.args.l c.args.mode c.loop.invariant.stands.0 c.loop.invariant.stands.1)
    c.in-Done-go_on_taking.is in
    record {
      ready = record { own = c.go_on_taking.ensures.own; rest = done.taken.rest };
      entry = done.taken.entry;
      steps = done.locks;
      refused = tt;
      bare = λ h. tt;
    }

pub loop-preserved-in-Again-go_on_taking : goal.loop-preserved-in-Again-go_on_taking
loop-preserved-in-Again-go_on_taking g c = assumption (
  stands_on c.args.floor.now.description c.args.l c.args.mode c.args.pass.now.view c.loop.pass c.loop.invariant.stands
      c.go_on_taking.result c.go_on_taking.new.pass
      (c.go_on_taking.ensures.went c.args.l c.args.mode c.loop.invariant.stands.0 c.loop.invariant.stands.1)
      c.in-Again-go_on_taking.is,
  c.go_on_taking.ensures,
)

pub loop-preserved-in-Sleep-go_on_taking : goal.loop-preserved-in-Sleep-go_on_taking
loop-preserved-in-Sleep-go_on_taking g c = assumption (
  stands_asleep c.args.floor.now.description c.args.l c.args.mode c.args.pass.now.view c.loop.pass
      c.loop.invariant.stands c.go_on_taking.result c.go_on_taking.new.pass
      (c.go_on_taking.ensures.went c.args.l c.args.mode c.loop.invariant.stands.0 c.loop.invariant.stands.1)
      c.in-Sleep-go_on_taking.is,
  c.go_on_taking.ensures,
)

pub unpark-requires : goal.unpark-requires
unpark-requires g c =
    halts_low c.args.floor.now.description c.args.l c.args.mode c.args.pass.now.view c.loop.pass
    c.loop.invariant.stands
    c.go_on_taking.result c.go_on_taking.new.pass
    (c.go_on_taking.ensures.went c.args.l c.args.mode c.loop.invariant.stands.0 c.loop.invariant.stands.1)
    c.in-Wake.t c.in-Wake.is

pub loop-preserved : goal.loop-preserved
loop-preserved g c = assumption (
  stands_waking c.args.floor.now.description c.args.l c.args.mode c.args.pass.now.view c.loop.pass
      c.loop.invariant.stands c.go_on_taking.result c.go_on_taking.new.pass
      (c.go_on_taking.ensures.went c.args.l c.args.mode c.loop.invariant.stands.0 c.loop.invariant.stands.1) c.in-Wake.t
      c.in-Wake.is,
  c.go_on_taking.ensures,
)

pub returns-in-Reversed : goal.returns-in-Reversed
returns-in-Reversed g c =
    let refused = was_refused c.args.floor.now.description c.args.l c.args.mode c.args.pass.now.view c.loop.pass
    c.loop.invariant.stands
    c.go_on_taking.result c.go_on_taking.new.pass
    (c.go_on_taking.ensures.went c.args.l c.args.mode c.loop.invariant.stands.0 c.loop.invariant.stands.1)
    c.in-Reversed.reversal c.in-Reversed.is in
    record {
      ready = record { own = c.go_on_taking.ensures.own; rest = refused.rest };
      entry = tt;
      steps = tt;
      refused = refused;
      bare = λ h. absurd (bare_admitted c.args.floor.now.description c.args.l c.in-Reversed.reversal.held
          c.args.pass.now.view
          c.go_on_taking.new.pass.view h refused.steps);
    }

pub returns-in-Halted : goal.returns-in-Halted
returns-in-Halted g c =
    let halted = was_halted c.args.floor.now.description c.args.l c.args.mode c.args.pass.now.view c.loop.pass
    c.loop.invariant.stands
    c.go_on_taking.result c.go_on_taking.new.pass
    (c.go_on_taking.ensures.went c.args.l c.args.mode c.loop.invariant.stands.0 c.loop.invariant.stands.1)
    c.in-Halted.is in
    record {
      ready = record { own = c.go_on_taking.ensures.own; rest = halted.rest };
      entry = tt;
      steps = tt;
      refused = halted;
      bare = λ h. tt;
    }
