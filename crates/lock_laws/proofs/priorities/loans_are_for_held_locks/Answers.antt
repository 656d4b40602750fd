use Rattle.lock_laws.proofs.Derived as law
use Rattle.lock_laws.proofs.priorities.loans_are_for_held_locks.Goals as goal

pub returns : goal.returns
returns c = law.loans
