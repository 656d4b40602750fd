use Rattle.floor_run.proofs.Names.{length, IsCut}
use Rattle.floor_run.proofs.worker.give_back.Given as goal

abbrev pub invariant-loop-last : goal.invariant-loop-last
invariant-loop-last g l = IsCut l.plan l.floor l.initial.pass.view.thread l.pass

abbrev pub decreases-loop-last : goal.decreases-loop-last
decreases-loop-last g l = length l.pass.view.share.held
