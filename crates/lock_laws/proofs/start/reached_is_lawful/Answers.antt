use Rattle.lock_laws.proofs.Steps as law
use Rattle.lock_laws.proofs.start.reached_is_lawful.Goals as goal

pub returns : goal.returns
returns c = law.reached_lawful
