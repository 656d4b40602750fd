use Rattle.run_laws.proofs.Idle as law
use Rattle.run_laws.proofs.runs.idle_exactly.Goals as goal

pub returns : goal.returns
returns c = law.idle_exactly
