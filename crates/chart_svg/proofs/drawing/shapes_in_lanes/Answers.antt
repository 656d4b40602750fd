use Rattle.chart_svg.proofs.Standing.{before, behind}
use Rattle.chart_svg.specs.Shapes.{AreOn}
use Rattle.chart_svg.proofs.drawing.shapes_in_lanes.Goals as goal

pub returns : goal.returns
returns c = λ picture on.
    let marked : AreOn picture c.add_all-6.new.shapes.items = before picture _ _ _ c.in_ok-add_all-7.ensures on in
    let headed : AreOn picture c.add_all-5.new.shapes.items = before picture _ _ _ c.in_ok-add_all-6.ensures marked in
    let worded : AreOn picture c.add_all-4.new.shapes.items = before picture _ _ _ c.in_ok-add_all-5.ensures headed in
    let barred : AreOn picture c.add_all-3.new.shapes.items = before picture _ _ _ c.in_ok-add_all-4.ensures worded in
    let lined : AreOn picture c.add_all-2.new.shapes.items = before picture _ _ _ c.in_ok-add_all-3.ensures barred in
    let stripped : AreOn picture c.add_all.new.shapes.items = before picture _ _ _ c.in_ok-add_all-2.ensures lined in
    record {
      frame = c.in_ok-shapes.ensures picture (before _ _ _ _ c.in_ok-add_all.ensures stripped);
      loans = c.in_ok-layer_of_lanes.ensures picture (behind _ _ _ _ c.in_ok-add_all.ensures stripped);
      bars = c.in_ok-layer_of_lanes-2.ensures picture (behind _ _ _ _ c.in_ok-add_all-3.ensures barred);
      arrows = c.in_ok-arrows.ensures picture (behind _ _ _ _ c.in_ok-add_all-2.ensures lined) picture
          (behind _ _ _ _ c.in_ok-add_all-5.ensures headed);
      marks = c.in_ok-marks.ensures picture (behind _ _ _ _ c.in_ok-add_all-6.ensures marked);
    }
