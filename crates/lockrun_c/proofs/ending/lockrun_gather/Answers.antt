use Rattle.std.proofs.Common.{Some, sym, subst}
use Rattle.lockrun_c.specs.Endings.{HasGathered}
use Rattle.lockrun_c.proofs.ending.lockrun_gather.Goals as goal

pub returns-clause-gathered : goal.returns-clause-gathered
returns-clause-gathered c = λ z.
    subst (λ h. HasGathered h (Some c.gather.new.content) c.args.thread.now.held.home)
    (sym c.as_mut.ensures.value) (c.gather.ensures.gathered z)
