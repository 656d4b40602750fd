use Rattle.std.proofs.Common.{refl}
use Rattle.chart_svg.proofs.Standing.{all_drawn, shown_more}
use Rattle.chart_svg.specs.Pages.{MarkIsOn}
use Rattle.chart_svg.proofs.marks.marks.Goals as goal

pub loop-mark-preserved : goal.loop-mark-preserved
loop-mark-preserved c = shown_more (MarkIsOn c.args.page.now) _ _ _ c.in_ok-add_all.ensures _ _ _ _
    c.loop-mark-test.true refl c.loop-mark.invariant c.in_ok-one_mark.ensures

pub returns : goal.returns
returns c = λ picture on. all_drawn (MarkIsOn c.args.page.now picture) _ _ _ c.loop-mark-test.false
    c.as_slice-mark-items.ensures (c.loop-mark.invariant picture on)
