use Rattle.script_laws.proofs.Accepted.{accepted_proper}
use Rattle.lock_top.specs.Output.{IsOutputOfThreads}
use Rattle.lock_top.proofs.Outcome.{accepted_output}
use Rattle.lock_top.proofs.answer.by_threads.Goals as goal

pub of_threads-requires-clause-proper : goal.of_threads-requires-clause-proper
of_threads-requires-clause-proper g c = λ κs lives.
    accepted_proper c.args.bytes.now c.in_ok-plan.plan c.in_ok-plan.ensures.accepted

pub returns-clause-pair : goal.returns-clause-pair
returns-clause-pair g c =
    accepted_output IsOutputOfThreads c.args.bytes.now c.in_ok-plan.plan
    (c.in_ok-made.made.0, c.in_ok-made.made.1.items) c.in_ok-plan.ensures.accepted c.in_ok-made.ensures.pair
