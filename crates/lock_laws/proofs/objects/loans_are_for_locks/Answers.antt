use Rattle.lock_laws.proofs.HeadsAndNodes as law
use Rattle.lock_laws.proofs.objects.loans_are_for_locks.Goals as goal

pub returns : goal.returns
returns c = law.loan_lock
