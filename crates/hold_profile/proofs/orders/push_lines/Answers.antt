use Rattle.hold_profile.proofs.Sums.{row_more}
use Rattle.hold_profile.specs.Counting.{counted_line}
use Rattle.hold_profile.specs.Profiles.{is_seen}
use Rattle.hold_profile.proofs.orders.push_lines.Goals as goal

pub loop-second-preserved : goal.loop-second-preserved
loop-second-preserved c =
    row_more is_seen (counted_line c.args.rows.now c.args.first) c.loop-second.second _ _ _ c.loop-second.invariant
    c.in_ok-push_line.ensures
