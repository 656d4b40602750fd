use Rattle.std.proofs.Common.{arith, sym, ◌∙◌}
use Rattle.tick_sleep.proofs.Expiry.{none_due_next}
use Rattle.tick_sleep.proofs.queue.next_due.Goals as goal

pub loop-passed-preserved : goal.loop-passed-preserved
loop-passed-preserved c = record {
  within = omega (arith, c.loop-passed-test.true);
  none_due = none_due_next c.loop-passed.passed c.args.roll.now c.loop-passed.invariant.none_due
      (sym c.first_at.ensures.first ∙ c.in_default.is);
}
