use Rattle.std.proofs.Common.{ap, ◌∙◌}
use Rattle.std.specs.List.{find}
use Rattle.run_chart.specs.Lines.{is_line_of, lists_of}
use Rattle.run_chart.proofs.Queued.{waiters_told}
use Rattle.run_chart.proofs.lookup.line_in.Goals as goal

pub returns : goal.returns
returns c =
    ap lists_of (c.line_of.ensures ∙ ap (find (is_line_of c.args.l.0)) c.as_slice.ensures)
    ∙ waiters_told c.args.at.now.plan.now c.args.at.now.rows.now c.requires.turn.run c.args.row c.requires.row
    c.args.l.0 c.get.result.now c.get.ensures
