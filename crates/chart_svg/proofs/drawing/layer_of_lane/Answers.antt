use Rattle.chart_svg.proofs.drawing.layer_of_lane.Goals as goal

pub returns-in-Strip : goal.returns-in-Strip
returns-in-Strip c = rw c.in-Strip.is c.strip_of.ensures

pub returns-in-Bars : goal.returns-in-Bars
returns-in-Bars c = rw c.in-Bars.is c.bars_of.ensures
