use Rattle.lock_laws.proofs.Signals as law
use Rattle.lock_laws.proofs.floor.signals_alone_wake.Goals as goal

pub returns : goal.returns
returns c = law.keeps
