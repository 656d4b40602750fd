use Rattle.ordered_plan_laws.proofs.Finders as law
use Rattle.ordered_plan_laws.proofs.ordered.ordered_finders_are_last.Goals as goal

pub returns : goal.returns
returns c at_work config s f t own w h o k p x u e lt = law.all_ended config s own w h o k p x u f e t lt
