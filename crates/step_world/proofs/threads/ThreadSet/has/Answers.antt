use Rattle.step_world.proofs.Sets.{has_at}
use Rattle.step_world.proofs.threads.ThreadSet.has.Goals as goal

pub returns : goal.returns
returns c = has_at c.args.self.bits c.args.t.0
