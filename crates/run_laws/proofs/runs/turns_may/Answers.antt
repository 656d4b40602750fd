use Rattle.run_laws.proofs.Turning as law
use Rattle.run_laws.proofs.runs.turns_may.Goals as goal

pub returns : goal.returns
returns c = law.turns_may
