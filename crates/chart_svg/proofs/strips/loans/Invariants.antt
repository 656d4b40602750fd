use Rattle.std.proofs.Common.{take}
use Rattle.chart_svg.specs.Lanes.{IsLentAt}
use Rattle.chart_svg.specs.Shapes.{ShowAll}
use Rattle.chart_svg.proofs.strips.loans.Given as goal

abbrev pub invariant-loop-step : goal.invariant-loop-step
invariant-loop-step l = ShowAll l.shapes.items (IsLentAt l.page l.strip.0) (take l.step-index l.step-items)
