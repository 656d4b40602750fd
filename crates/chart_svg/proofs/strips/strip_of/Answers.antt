use Rattle.std.proofs.Common.{◌∙◌, sym}
use Rattle.std.proofs.lemmas.Option.{same_Some}
use Rattle.chart_svg.proofs.Standing.{before, behind}
use Rattle.chart_svg.proofs.strips.strip_of.Goals as goal

pub returns : goal.returns
returns c = λ picture on y is.
    let same = same_Some y c.in-Some.strip (sym is ∙ c.in-Some.is) in
    rw same (c.in_ok-loans.ensures picture
    (behind _ _ _ _ c.in_ok-add_all.ensures (before _ _ _ _ c.in_ok-add_some.ensures on)))
