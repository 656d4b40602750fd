use Rattle.lock_laws.proofs.Derived as law
use Rattle.lock_laws.proofs.waits.waiters_are_shown.Goals as goal

pub returns : goal.returns
returns c = law.shown
