use Rattle.run_laws.proofs.Endings as law
use Rattle.run_laws.proofs.runs.endings_are_exact.Goals as goal

pub returns-clause-stuck : goal.returns-clause-stuck
returns-clause-stuck c = law.stuck_exactly

pub returns-clause-whole : goal.returns-clause-whole
returns-clause-whole c = law.whole_exactly
