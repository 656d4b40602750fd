use Rattle.std.proofs.Common.{subst, List}
use Rattle.std.proofs.lemmas.Result.{IfOk-weaker}
use Rattle.chart_svg.proofs.Standing.{before, behind}
use Rattle.chart_svg.specs.Shapes.{AreOn}
use Rattle.chart_svg.specs.declared.shapes.Shape.{Shape}
use Rattle.chart_svg.proofs.drawing.picture_with.Goals as goal

pub returns-clause-drawn : goal.returns-clause-drawn
returns-clause-drawn c = IfOk-weaker c.picture_of.result _ _ (λ picture on.
    let On : List Shape → Type 0 = λ shapes. AreOn picture.items shapes in
    c.in_ok-shapes_in_lanes.ensures picture.items (behind _ _ _ _ c.in_ok-add_all.ensures
    (before _ _ _ _ c.in_ok-add_all-2.ensures (subst On c.deref.ensures.value on))))
    c.picture_of.ensures.stands
