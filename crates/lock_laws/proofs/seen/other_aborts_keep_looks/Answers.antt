use Rattle.lock_laws.proofs.ChangedWords as law
use Rattle.lock_laws.proofs.seen.other_aborts_keep_looks.Goals as goal

pub returns : goal.returns
returns k c s t u q side lawful may same = law.abort_remembers c s t q side u may lawful same
