use Rattle.std.proofs.Common.{◌∙◌, ap}
use Rattle.script_laws.proofs.Accepted.{accepted_proper}
use Rattle.lock_top.specs.Output.{IsOutputOfProfile, profile_output_of}
use Rattle.lock_top.proofs.Outcome.{accepted_output}
use Rattle.lock_top.proofs.answer.profiled.Goals as goal

pub run_schedule-requires-clause-proper : goal.run_schedule-requires-clause-proper
run_schedule-requires-clause-proper c =
    accepted_proper c.args.bytes.now c.in_ok-plan.plan c.in_ok-plan.ensures.accepted

pub of_history-requires-clause-proper : goal.of_history-requires-clause-proper
of_history-requires-clause-proper c =
    accepted_proper c.args.bytes.now c.in_ok-plan.plan c.in_ok-plan.ensures.accepted

pub of_history-requires-clause-legal : goal.of_history-requires-clause-legal
of_history-requires-clause-legal c = record { is_run = _; cut_short = _; legal = c.in_ok-run.ensures.legal }

pub returns-clause-pair : goal.returns-clause-pair
returns-clause-pair c =
    accepted_output (IsOutputOfProfile c.args.chains c.args.turns) c.args.bytes.now c.in_ok-plan.plan
    (c.in_ok-made.made.0, c.in_ok-made.made.1.items) c.in_ok-plan.ensures.accepted
    (c.in_ok-made.ensures.pair ∙ ap (profile_output_of c.in_ok-plan.plan) c.in_ok-run.ensures.outcome)
