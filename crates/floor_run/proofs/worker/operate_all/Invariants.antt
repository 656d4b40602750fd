use Rattle.floor_run.proofs.Names.{length, IsBefore}
use Rattle.std.proofs.Common.{◌-◌}
use Rattle.floor_run.proofs.worker.operate_all.Given as goal

abbrev pub invariant-loop-next : goal.invariant-loop-next
invariant-loop-next g l = IsBefore l.plan l.floor l.initial.pass.view.thread l.next l.pass

abbrev pub decreases-loop-next : goal.decreases-loop-next
decreases-loop-next g l = length l.ops - l.next
