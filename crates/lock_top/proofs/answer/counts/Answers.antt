use Rattle.script_laws.proofs.Accepted.{accepted_proper}
use Rattle.lock_top.proofs.Outcome.{accepted_counts}
use Rattle.lock_top.proofs.answer.counts.Goals as goal

pub print_counts-requires : goal.print_counts-requires
print_counts-requires c =
    (accepted_proper c.args.bytes.now c.in_ok-plan.plan c.in_ok-plan.ensures.accepted).operations

pub returns-clause-pair : goal.returns-clause-pair
returns-clause-pair c =
    accepted_counts c.args.bytes.now c.in_ok-plan.plan c.in_ok-text.text.items c.in_ok-plan.ensures.accepted
    c.in_ok-text.ensures
