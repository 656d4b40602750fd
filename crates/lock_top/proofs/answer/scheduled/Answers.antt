use Rattle.std.proofs.Common.{◌∙◌, ap}
use Rattle.script_laws.proofs.Accepted.{accepted_proper}
use Rattle.lock_top.specs.Output.{IsOutputOfSchedule, output_of}
use Rattle.lock_top.proofs.Outcome.{accepted_output}
use Rattle.lock_top.proofs.answer.scheduled.Goals as goal

pub run_schedule-requires-clause-proper : goal.run_schedule-requires-clause-proper
run_schedule-requires-clause-proper c =
    accepted_proper c.args.bytes.now c.in_ok-plan.plan c.in_ok-plan.ensures.accepted

pub returns-clause-pair : goal.returns-clause-pair
returns-clause-pair c =
    accepted_output (IsOutputOfSchedule c.args.chains c.args.turns) c.args.bytes.now c.in_ok-plan.plan
    (c.in_ok-made.made.0, c.in_ok-made.made.1.items) c.in_ok-plan.ensures.accepted
    (c.in_ok-made.ensures.pair ∙ ap (output_of c.in_ok-plan.plan) c.in_ok-outcome.ensures.outcome)
