use Rattle.chart_svg.proofs.Standing.{before, last}
use Rattle.chart_svg.proofs.strips.one_loan.Goals as goal

pub returns : goal.returns
returns c = λ picture on is lent.
    let area = c.loan_area-area.ensures is in
    let said = c.in_ok-words.ensures in
    last _ _ _ _ _ c.in_ok-add.ensures (cc) (before _ _ _ _ c.in_ok-add-2.ensures on)
