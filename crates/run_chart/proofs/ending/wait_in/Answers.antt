use Rattle.std.proofs.Common.{rules, arith}
use Rattle.run_chart.proofs.Told.{row_told, stands_told}
use Rattle.run_chart.proofs.ending.wait_in.Goals as goal

pub returns : goal.returns
returns c =
    let plan = c.args.plan.now in
    let h = c.requires.run in
    rw (← stands_told plan h.proper c.args.row c.args.t.0 c.at.result (row_told plan c.args.rows.now h c.args.t.0
    c.thread_rows.result.now c.thread_rows.ensures c.args.row (omega (arith, c.requires.row)) c.at.result c.at.ensures))
    (search rules)
