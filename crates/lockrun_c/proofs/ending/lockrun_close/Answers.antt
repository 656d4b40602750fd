use Rattle.std.proofs.Common.{Some, sym, subst}
use Rattle.lockrun_c.specs.Endings.{HasClosed, LacksThread}
use Rattle.lockrun_c.proofs.ending.lockrun_close.Goals as goal

pub returns-clause-closed : goal.returns-clause-closed
returns-clause-closed c = λ z.
    subst (λ h. HasClosed h (Some c.close.new.content)) (sym c.as_mut.ensures.value) (c.close.ensures.closed z)

pub returns-clause-not_gathered : goal.returns-clause-not_gathered
returns-clause-not_gathered c = λ z.
    subst LacksThread (sym c.as_mut.ensures.value) (c.close.ensures.not_gathered z)
