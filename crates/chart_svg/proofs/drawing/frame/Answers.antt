use Rattle.chart_svg.proofs.Standing.{before, behind}
use Rattle.chart_svg.proofs.drawing.frame.Goals as goal

pub returns : goal.returns
returns c = λ picture on. c.in_ok-layer_of_lanes.ensures picture
    (behind _ _ _ _ c.in_ok-add_all.ensures (before _ _ _ _ c.in_ok-add_some.ensures on))
