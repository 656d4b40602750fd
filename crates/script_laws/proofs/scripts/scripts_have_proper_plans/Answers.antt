use Rattle.script_laws.proofs.Accepted as law
use Rattle.script_laws.proofs.scripts.scripts_have_proper_plans.Goals as goal

pub returns : goal.returns
returns c = law.accepted_proper
