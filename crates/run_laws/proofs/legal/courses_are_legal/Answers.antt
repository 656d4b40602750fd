use Rattle.run_laws.proofs.LegalRuns as law
use Rattle.run_laws.proofs.legal.courses_are_legal.Goals as goal

pub returns : goal.returns
returns c = law.courses_are_legal
