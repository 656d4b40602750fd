use Rattle.step_world.proofs.Sets.{has_more}
use Rattle.step_world.proofs.threads.ThreadSet.put.Goals as goal

pub returns : goal.returns
returns c u = has_more c.args.self.now.bits c.args.t.0 u c.requires
