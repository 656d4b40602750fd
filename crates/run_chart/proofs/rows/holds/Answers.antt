use Rattle.run_chart.proofs.Told.{holds_nothing}
use Rattle.run_chart.proofs.rows.holds.Goals as goal

pub returns-in-None : goal.returns-in-None
returns-in-None c =
    holds_nothing c.args.at.now.plan.now c.args.at.now.rows.now c.requires.turn.run c.args.row c.args.l.0 c.args.t.0
    c.thread_rows.result.now c.thread_rows.ensures
    (rw (c.as_slice-held.ensures, c.from.ensures) at c.in-None.ensures.lookup).3
