use Rattle.std.proofs.Common.{◌≤◌, length, sym, ap, arith}
use Rattle.std.proofs.lemmas.Option.{slice_get-get_or}
use Rattle.tick_sleep.proofs.Behind.{one_event, last_lines}
use Rattle.tick_sleep.proofs.run.run_ticks.Goals as goal

pub loop-e-preserved : goal.loop-e-preserved
loop-e-preserved c =
    let vs = c.as_slice-event-items.result.now in
    let ds = c.as_slice-sleepers.result.now in
    let was = rw (sym c.as_slice-event-items.ensures, sym c.as_slice-sleepers.ensures) at c.loop-e.invariant.lines in
    let each = rw (sym c.as_slice-event-items.ensures, sym c.as_slice-sleepers.ensures) at c.requires.events in
    let all = one_event ds vs c.loop-e.e c.loop-e.queue.ticks c.push_event.new.queue.ticks _ c.loop-e.text.items
    c.push_event.new.out.items _ _ each (slice_get-get_or vs c.loop-e.e _ c.loop-e-test.true) was
    c.in_ok-push_event.ensures.lines c.in_ok-push_event.ensures.state c.loop-e.invariant.prios
    c.loop-e.invariant.early in
    record {
      lines = rw (sym c.as_slice-event-items.ensures, sym c.as_slice-sleepers.ensures) all.0;
      prios = all.1;
      early = all.2;
      none_due = c.in_ok-push_event.ensures.none_due;
    }

pub returns-clause-text : goal.returns-clause-text
returns-clause-text c =
    let ended : length c.args.plan.now.events ≤ c.loop-e.e =
    omega (arith, c.loop-e-test.false, ap length c.as_slice-event-items.ensures) in
    last_lines c.args.plan.now c.loop-e.e c.loop-e.queue.ticks c.loop-e.text.items c.push_sleepers.new.out.items
    c.extend_from_slice.new.self.items ended c.loop-e.invariant.lines
    (rw (sym c.as_slice-sleepers.ensures) c.in_ok-push_sleepers.ensures) c.in_ok-extend_from_slice.ensures.items
