use Rattle.run_laws.proofs.Turning as law
use Rattle.run_laws.proofs.runs.runs_are_reachable.Goals as goal

pub returns : goal.returns
returns c = law.turns_reachable
