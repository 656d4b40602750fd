use Rattle.lock_laws.proofs.Steps as law
use Rattle.lock_laws.proofs.kinds.steps_keep.Goals as goal

pub returns : goal.returns
returns c = law.keeps
