use Rattle.std.proofs.Common.{◌≡◌, ◌++◌, ◌-◌}
use Rattle.chart_text.specs.Lines.{lines_from}
use Rattle.chart_text.proofs.lines.push_lines.Given as goal

-- the lines that are left to push
abbrev pub invariant-loop-turn : goal.invariant-loop-turn
invariant-loop-turn l =
    l.out.items ++ lines_from l.plan l.width l.rows l.chart l.turn (l.chart.last - l.turn)
    ≡ l.fn.out.items ++ lines_from l.plan l.width l.rows l.chart l.chart.first (l.chart.last - l.chart.first)
