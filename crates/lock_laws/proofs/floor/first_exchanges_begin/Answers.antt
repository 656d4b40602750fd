use Rattle.lock_laws.proofs.Looks as law
use Rattle.lock_laws.proofs.floor.first_exchanges_begin.Goals as goal

pub returns : goal.returns
returns c = law.first_begins
