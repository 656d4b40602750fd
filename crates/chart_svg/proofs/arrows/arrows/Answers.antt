use Rattle.std.proofs.Common.{refl}
use Rattle.chart_svg.proofs.Standing.{all_drawn, before, behind, shown_more}
use Rattle.chart_svg.specs.Pages.{ArrowIsOn}
use Rattle.chart_svg.proofs.arrows.arrows.Goals as goal

pub loop-arrow-preserved : goal.loop-arrow-preserved
loop-arrow-preserved c = λ lines on. shown_more (ArrowIsOn c.args.page.now lines) _ _ _ c.in_ok-add.ensures.heads
    _ _ _ _ c.loop-arrow-test.true refl (c.loop-arrow.invariant lines (before _ _ _ _ c.in_ok-add.ensures.lines on))
    (c.in_ok-one_arrow.ensures lines (behind _ _ _ _ c.in_ok-add.ensures.lines on))

pub returns : goal.returns
returns c = λ lines on_lines heads on_heads. all_drawn (ArrowIsOn c.args.page.now lines heads) _ _ _
    c.loop-arrow-test.false c.as_slice-arrow-items.ensures (c.loop-arrow.invariant lines on_lines heads on_heads)
