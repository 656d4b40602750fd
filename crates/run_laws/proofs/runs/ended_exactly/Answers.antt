use Rattle.run_laws.proofs.Idle as law
use Rattle.run_laws.proofs.runs.ended_exactly.Goals as goal

pub returns : goal.returns
returns c = law.ended_exactly
