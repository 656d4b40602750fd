use Rattle.lock_laws.proofs.Steps as law
use Rattle.lock_laws.proofs.start.steps_reach.Goals as goal

pub returns : goal.returns
returns c = law.all_reach
