use Rattle.lock_laws.proofs.Rounds as law
use Rattle.lock_laws.proofs.floor.rounds_keep_their_chain.Goals as goal

pub returns : goal.returns
returns c = law.rounds_keep
