use Rattle.lock_laws.proofs.FloorSteps as law
use Rattle.lock_laws.proofs.floor.floor_steps_keep.Goals as goal

pub returns : goal.returns
returns c = law.floor_keeps
