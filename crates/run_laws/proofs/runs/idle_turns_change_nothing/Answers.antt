use Rattle.run_laws.proofs.Idle as law
use Rattle.run_laws.proofs.runs.idle_turns_change_nothing.Goals as goal

pub returns : goal.returns
returns c = law.changes_nothing
