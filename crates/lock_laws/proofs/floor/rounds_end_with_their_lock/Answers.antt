use Rattle.lock_laws.proofs.Rounds as law
use Rattle.lock_laws.proofs.floor.rounds_end_with_their_lock.Goals as goal

pub returns : goal.returns
returns c = law.ends
