use Rattle.ordered_plan_laws.proofs.Keeping as law
use Rattle.ordered_plan_laws.proofs.ordered.ordered_plans_begin.Goals as goal

pub returns : goal.returns
returns c = law.begins
