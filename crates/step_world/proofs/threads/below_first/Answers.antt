use Rattle.step_world.proofs.Sets.{all_below, some_below}
use Rattle.step_world.proofs.threads.below_first.Goals as goal

pub returns-then-bits-eq0 : goal.returns-then-bits-eq0
returns-then-bits-eq0 c = all_below c.args.bits c.if-bits-eq0.true

pub returns-else-bits-eq0 : goal.returns-else-bits-eq0
returns-else-bits-eq0 c = some_below c.args.bits c.ranges.bits.fits c.if-bits-eq0.false
