use Rattle.std.proofs.Common.{take}
use Rattle.chart_svg.specs.Pages.{MarkIsOn}
use Rattle.chart_svg.specs.Shapes.{ShowAll}
use Rattle.chart_svg.proofs.marks.marks.Given as goal

abbrev pub invariant-loop-mark : goal.invariant-loop-mark
invariant-loop-mark l = ShowAll l.shapes.items (MarkIsOn l.page) (take l.mark-index l.mark-items)
