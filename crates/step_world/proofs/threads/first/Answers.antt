use Rattle.step_world.proofs.Sets.{lowest}
use Rattle.step_world.proofs.threads.first.Goals as goal

pub returns-clause-there : goal.returns-clause-there
returns-clause-there c = (lowest c.args.bits c.ranges.bits.fits c.requires).0

pub returns-clause-none : goal.returns-clause-none
returns-clause-none c = (lowest c.args.bits c.ranges.bits.fits c.requires).1
