use Rattle.lock_laws.proofs.FloorSteps as law
use Rattle.lock_laws.proofs.floor.floors_begin.Goals as goal

pub returns : goal.returns
returns c = law.begins
