use Rattle.lock_laws.proofs.Derived as law
use Rattle.lock_laws.proofs.waits.stands_at_most_once.Goals as goal

pub returns : goal.returns
returns c = law.once
