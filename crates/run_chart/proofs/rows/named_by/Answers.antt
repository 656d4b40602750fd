use Rattle.std.proofs.Common.{length, ap, arith}
use Rattle.run_chart.proofs.Told.{named_nowhere}
use Rattle.run_chart.proofs.rows.named_by.Goals as goal

pub returns-else-from-as_slice : goal.returns-else-from-as_slice
returns-else-from-as_slice c =
    named_nowhere c.args.at.now.plan.now c.args.at.now.rows.now c.requires.turn.run c.args.row c.args.t.0
    (omega (arith, c.if-from-as_slice.false, ap length c.as_slice.ensures, c.from.ensures))
