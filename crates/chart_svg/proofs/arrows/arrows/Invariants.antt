use Rattle.std.proofs.Common.{take}
use Rattle.chart_svg.specs.Pages.{ArrowIsOn}
use Rattle.chart_svg.specs.Shapes.{Show, ShowAll}
use Rattle.chart_svg.proofs.arrows.arrows.Given as goal

abbrev pub invariant-loop-arrow : goal.invariant-loop-arrow
invariant-loop-arrow l = Show l.arrows.lines.items (λ lines.
    ShowAll l.arrows.heads.items (ArrowIsOn l.page lines) (take l.arrow-index l.arrow-items))
