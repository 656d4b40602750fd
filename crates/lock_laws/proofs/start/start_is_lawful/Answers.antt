use Rattle.lock_laws.proofs.StateAtStart as law
use Rattle.lock_laws.proofs.start.start_is_lawful.Goals as goal

pub returns : goal.returns
returns c = law.lawful
