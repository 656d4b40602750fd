use Rattle.run_laws.proofs.LegalRuns as law
use Rattle.run_laws.proofs.legal.outcomes_are_legal.Goals as goal

pub returns : goal.returns
returns c = law.outcomes_are_legal
