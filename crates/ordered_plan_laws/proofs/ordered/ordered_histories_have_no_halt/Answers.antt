use Rattle.ordered_plan_laws.proofs.Finders as law
use Rattle.ordered_plan_laws.proofs.ordered.ordered_histories_have_no_halt.Goals as goal

pub returns : goal.returns
returns c = law.no_halt
