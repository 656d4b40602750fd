use Rattle.run_laws.proofs.Idle as law
use Rattle.run_laws.proofs.runs.stuck_sleeps.Goals as goal

pub returns : goal.returns
returns c = law.stuck_sleeps
