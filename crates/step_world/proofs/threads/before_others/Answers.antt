use Rattle.step_world.proofs.Sets.{passes}
use Rattle.step_world.proofs.threads.before_others.Goals as goal

pub returns-clause-passed : goal.returns-clause-passed
returns-clause-passed c =
    passes c.args.bits c.args.others c.below_first.result c.below_first.ensures c.ranges.others.fits
