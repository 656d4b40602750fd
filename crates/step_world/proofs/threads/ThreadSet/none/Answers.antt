use Rattle.step_world.proofs.Sets.{has_none}
use Rattle.step_world.proofs.threads.ThreadSet.none.Goals as goal

pub returns : goal.returns
returns c = has_none
