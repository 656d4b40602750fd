use Rattle.std.proofs.Common.{refl}
use Rattle.chart_svg.proofs.Standing.{all_drawn, shown_more}
use Rattle.chart_svg.specs.Lanes.{IsLentAt}
use Rattle.chart_svg.proofs.strips.loans.Goals as goal

pub loop-step-preserved : goal.loop-step-preserved
loop-step-preserved c = shown_more (IsLentAt c.args.page.now c.args.strip.0) _ _ _ c.in_ok-add_all.ensures _ _ _ _
    c.loop-step-test.true refl c.loop-step.invariant c.in_ok-one_loan.ensures

pub returns : goal.returns
returns c = λ picture on. all_drawn (IsLentAt c.args.page.now c.args.strip.0 picture) _ _ _ c.loop-step-test.false
    c.deref-step-items.ensures.value (c.loop-step.invariant picture on)
