use Rattle.lock_laws.proofs.Derived as law
use Rattle.lock_laws.proofs.priorities.effective_is_best.Goals as goal

pub returns : goal.returns
returns c = law.effective
