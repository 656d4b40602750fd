use Rattle.lock_objects.proofs.Names.{rules}
use Rattle.lock_objects.proofs.Hops.{claim_queues, claim_record}
use Rattle.lock_objects.proofs.walks.claim.Goals as goal

pub returns-in-Some-clause-queues : goal.returns-in-Some-clause-queues
returns-in-Some-clause-queues c k s t h by_try lawful g shows rec =
    claim_queues k s t c.args.l.0 h by_try lawful g shows rec (search rules)

pub returns-in-Some-clause-its_record : goal.returns-in-Some-clause-its_record
returns-in-Some-clause-its_record c k s t h by_try lawful g shows rec =
    claim_record k s t c.args.l.0 h by_try lawful g shows rec (search rules)
