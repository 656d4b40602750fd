use Rattle.ordered_plan_laws.proofs.Finders as law
use Rattle.ordered_plan_laws.proofs.ordered.ordered_steps_halt_nobody.Goals as goal

pub returns : goal.returns
returns c at_work chains config s step own w h o k p x u f i =
    law.none_halted config s own w h o k p x u chains step f i
