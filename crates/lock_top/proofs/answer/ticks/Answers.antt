use Rattle.lock_top.proofs.Outcome.{accepted_ticks}
use Rattle.lock_top.proofs.answer.ticks.Goals as goal

pub returns-clause-pair : goal.returns-clause-pair
returns-clause-pair c =
    accepted_ticks c.args.bytes.now c.in_ok-plan.plan c.in_ok-text.text.items c.in_ok-plan.ensures.accepted
    c.in_ok-text.ensures.text
