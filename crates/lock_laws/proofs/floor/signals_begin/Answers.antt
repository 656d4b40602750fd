use Rattle.lock_laws.proofs.Signals as law
use Rattle.lock_laws.proofs.floor.signals_begin.Goals as goal

pub returns : goal.returns
returns c = law.begins
