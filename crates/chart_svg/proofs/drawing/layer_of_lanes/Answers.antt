use Rattle.chart_svg.proofs.Standing.{all_drawn, shown_more}
use Rattle.chart_svg.specs.Pages.{LayerIsOn}
use Rattle.chart_svg.proofs.drawing.layer_of_lanes.Goals as goal

pub loop-lane-preserved : goal.loop-lane-preserved
loop-lane-preserved c = shown_more (LayerIsOn c.args.layer c.args.page.now) _ _ _ c.in_ok-add_all.ensures _ _ _ _
    c.loop-lane-test.true c.lane-item.is c.loop-lane.invariant c.in_ok-layer_of_lane.ensures

pub returns : goal.returns
returns c = λ picture on. all_drawn (LayerIsOn c.args.layer c.args.page.now picture) _ _ _ c.loop-lane-test.false
    c.deref-lane-items.ensures.value (c.loop-lane.invariant picture on)
