use Rattle.lock_laws.proofs.HeadsAndNodes as law
use Rattle.lock_laws.proofs.objects.heads_are_of_locks.Goals as goal

pub returns : goal.returns
returns c = law.head_lock
