use Rattle.lock_laws.proofs.Rounds as law
use Rattle.lock_laws.proofs.floor.rounds_begin.Goals as goal

pub returns : goal.returns
returns c = law.begins
