use Rattle.lock_floor.proofs.Replaying as law
use Rattle.lock_floor.proofs.laws.reads_find_changes.Goals as goal

pub returns : goal.returns
returns c = law.found_is
