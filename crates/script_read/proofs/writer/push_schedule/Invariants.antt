use Rattle.std.proofs.Common.{◌≡◌, ◌++◌, length}
use Rattle.lock_model.specs.Script.Canonical.{schedule_lines}
use Rattle.script_read.proofs.writer.push_schedule.Given as goal

abbrev pub invariant-loop-rest : goal.invariant-loop-rest
invariant-loop-rest l =
    l.out.items ++ schedule_lines l.plan l.rest
    ≡ l.initial.out.items ++ schedule_lines l.plan l.plan.schedule

abbrev pub decreases-loop-rest : goal.decreases-loop-rest
decreases-loop-rest l = length l.rest
