use Rattle.ordered_plan_laws.proofs.Unhalted as law
use Rattle.ordered_plan_laws.proofs.histories.legal_histories_have_no_halt.Goals as goal

pub returns : goal.returns
returns c plan history p o legal = law.unhalted plan p o history legal
