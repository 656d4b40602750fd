use Rattle.lock_laws.proofs.Steps as law
use Rattle.lock_laws.proofs.kinds.lists_keep.Goals as goal

pub returns : goal.returns
returns c = law.all_keep
