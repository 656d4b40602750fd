use Rattle.std.proofs.lemmas.Result.{IfOk-weaker}
use Rattle.chart_svg.proofs.Places.{picture_draws}
use Rattle.chart_svg.proofs.drawing.svg.Goals as goal

pub returns-clause-draws : goal.returns-clause-draws
returns-clause-draws c = IfOk-weaker c.picture_with.result _ _ (λ picture.
    picture_draws c.in_ok-page.page c.args.plan.now c.args.chart.now picture.items c.in_ok-page.ensures.plan
    c.in_ok-page.ensures.chart c.in_ok-page.ensures.laid_out c.in_ok-page.ensures.long)
    c.picture_with.ensures.drawn
