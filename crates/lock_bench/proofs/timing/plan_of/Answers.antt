use Rattle.script_laws.proofs.Accepted.{accepted_proper}
use Rattle.lock_bench.proofs.timing.plan_of.Goals as goal

pub returns : goal.returns
returns c = accepted_proper _ c.in_ok-plan.plan c.in_ok-plan.ensures.accepted
