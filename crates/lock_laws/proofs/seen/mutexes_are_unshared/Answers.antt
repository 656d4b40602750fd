use Rattle.lock_laws.proofs.SeenWords as law
use Rattle.lock_laws.proofs.seen.mutexes_are_unshared.Goals as goal

pub returns : goal.returns
returns c = law.unshared
