use Rattle.chart_svg.proofs.Standing.{before, last}
use Rattle.chart_svg.proofs.bars.one_bar.Goals as goal

pub returns : goal.returns
returns c = λ picture on. last _ _ _ _ _ c.in_ok-add.ensures c.in_ok-shape_of.ensures
    (before _ _ _ _ c.in_ok-add_some-2.ensures (before _ _ _ _ c.in_ok-add_some-3.ensures on))
