use Rattle.step_world.proofs.Sets.{has_less}
use Rattle.step_world.proofs.threads.without.Goals as goal

pub returns : goal.returns
returns c u = has_less c.args.bits c.args.t.0 u c.ranges.bits.fits c.requires
