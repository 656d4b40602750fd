use Rattle.run_laws.proofs.OtherThreads as law
use Rattle.run_laws.proofs.runs.turns_end_no_other.Goals as goal

pub returns : goal.returns
returns c = law.ends_no_other
