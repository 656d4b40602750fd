use Rattle.hold_profile.proofs.Sums.{rows_more}
use Rattle.hold_profile.specs.Counting.{row_lines}
use Rattle.hold_profile.proofs.orders.lines_of.Goals as goal

pub loop-first-preserved : goal.loop-first-preserved
loop-first-preserved c =
    rows_more (row_lines c.args.rows.now c.args.classes) c.loop-first.first _ _ c.loop-first.invariant
    c.in_ok-push_lines.ensures
