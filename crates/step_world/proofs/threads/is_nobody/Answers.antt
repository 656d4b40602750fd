use Rattle.step_world.proofs.Sets.{empty_is}
use Rattle.step_world.proofs.threads.is_nobody.Goals as goal

pub returns : goal.returns
returns c = empty_is c.args.bits c.ranges.bits.fits
