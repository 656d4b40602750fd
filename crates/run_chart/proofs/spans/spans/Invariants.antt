use Rattle.run_chart.proofs.Values.{AreTold}
use Rattle.run_chart.proofs.spans.spans.Given as goal

abbrev pub invariant-loop-i : goal.invariant-loop-i
invariant-loop-i g l = AreTold (goal.F-post g l.made) l.changes l.from l.to l.up_to l.i l.first l.spans.items l.value
