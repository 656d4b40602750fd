use Rattle.std.proofs.Common.{refl}
use Rattle.chart_svg.proofs.Standing.{all_drawn, shown_more}
use Rattle.chart_svg.specs.Lanes.{BarIsOn}
use Rattle.chart_svg.proofs.bars.bars_of.Goals as goal

pub loop-bar-preserved : goal.loop-bar-preserved
loop-bar-preserved c = shown_more (BarIsOn c.args.page.now c.args.lane.now) _ _ _ c.in_ok-add_all.ensures _ _ _ _
    c.loop-bar-test.true refl c.loop-bar.invariant (rw c.bar_place-top.ensures at c.in_ok-one_bar.ensures)

pub returns : goal.returns
returns c = λ picture on. all_drawn (BarIsOn c.args.page.now c.args.lane.now picture) _ _ _ c.loop-bar-test.false
    c.deref-bar-items.ensures.value (c.loop-bar.invariant picture on)
