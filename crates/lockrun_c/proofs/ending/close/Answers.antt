use Rattle.std.proofs.Common.{Some, sym, ap, subst}
use Rattle.lockrun_c.specs.Endings.{HasClosed}
use Rattle.lockrun_c.proofs.ending.close.Goals as goal

pub returns-in-Some-clause-closed : goal.returns-in-Some-clause-closed
returns-in-Some-clause-closed c = λ z.
    subst (λ it. HasClosed (Some c.args.content.now) (Some it)) (sym c.put_in.ensures)
    (subst (λ it. HasClosed (Some it) (Some c.closed-after.result.0)) (sym c.in-Some.ensures.taken)
    (c.closed-after.ensures.closed z))

pub returns-in-Some-clause-not_gathered : goal.returns-in-Some-clause-not_gathered
returns-in-Some-clause-not_gathered c = λ z.
    (c.in-Some.house, ap Some c.in-Some.ensures.taken, c.closed-after.ensures.not_gathered z)
