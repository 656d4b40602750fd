use Rattle.ordered_plan_laws.proofs.Unrefused as law
use Rattle.ordered_plan_laws.proofs.histories.legal_histories_have_no_refusal.Goals as goal

pub returns : goal.returns
returns c plan history p o legal = law.unrefused plan p o history legal
