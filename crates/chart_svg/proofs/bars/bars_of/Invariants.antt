use Rattle.std.proofs.Common.{take}
use Rattle.chart_svg.specs.Lanes.{BarIsOn}
use Rattle.chart_svg.specs.Shapes.{ShowAll}
use Rattle.chart_svg.proofs.bars.bars_of.Given as goal

abbrev pub invariant-loop-bar : goal.invariant-loop-bar
invariant-loop-bar l = ShowAll l.shapes.items (BarIsOn l.page l.lane) (take l.bar-index l.bar-items)
