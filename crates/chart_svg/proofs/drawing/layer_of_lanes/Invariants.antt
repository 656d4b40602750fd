use Rattle.std.proofs.Common.{take}
use Rattle.chart_svg.specs.Pages.{LayerIsOn}
use Rattle.chart_svg.specs.Shapes.{ShowAll}
use Rattle.chart_svg.proofs.drawing.layer_of_lanes.Given as goal

abbrev pub invariant-loop-lane : goal.invariant-loop-lane
invariant-loop-lane l = ShowAll l.shapes.items (LayerIsOn l.layer l.page) (take l.lane-index l.lane-items)
