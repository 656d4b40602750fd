use Rattle.chart_svg.proofs.Standing.{last}
use Rattle.chart_svg.proofs.frame.ended_line.Goals as goal

pub returns : goal.returns
returns c = λ picture on. last _ _ _ _ _ c.in_ok-add-2.ensures c.stroke.ensures on
