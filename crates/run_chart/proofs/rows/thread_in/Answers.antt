use Rattle.std.proofs.Common.{arith}
use Rattle.run_chart.proofs.Told.{row_told}
use Rattle.run_chart.proofs.rows.thread_in.Goals as goal

pub returns : goal.returns
returns c =
    row_told c.args.at.now.plan.now c.args.at.now.rows.now c.requires.turn.run c.args.t.0 c.thread_rows.result.now
    c.thread_rows.ensures
    c.args.row (omega (arith, c.requires.row)) c.at.result c.at.ensures
