use Rattle.lock_objects.proofs.Names.{rules}
use Rattle.lock_objects.proofs.Hops.{lend_queues, lend_record, lend_walk}
use Rattle.lock_objects.proofs.walks.lend_to_owner.Goals as goal

pub returns-in-Some-clause-owner : goal.returns-in-Some-clause-owner
returns-in-Some-clause-owner c = search rules

pub returns-in-Some-clause-lent : goal.returns-in-Some-clause-lent
returns-in-Some-clause-lent c = search rules

pub returns-in-Some-clause-others : goal.returns-in-Some-clause-others
returns-in-Some-clause-others c = search rules

pub returns-in-Some-clause-queues : goal.returns-in-Some-clause-queues
returns-in-Some-clause-queues c k s t o h lawful g shows =
    lend_queues k s t c.args.l.0 o h lawful g shows (search rules)

pub returns-in-Some-clause-its_record : goal.returns-in-Some-clause-its_record
returns-in-Some-clause-its_record c k s t o h lawful g shows rec =
    lend_record k s t c.args.l.0 o h lawful g shows rec (returns-in-Some-clause-owner c) c.put_lent.ensures.well_formed
    (returns-in-Some-clause-lent c) (returns-in-Some-clause-others c)

pub returns-in-Some-clause-walk : goal.returns-in-Some-clause-walk
returns-in-Some-clause-walk c k s t o h lawful g shows rec on =
    lend_walk k s t c.args.l.0 o h lawful g shows rec (returns-in-Some-clause-owner c) c.put_lent.ensures.well_formed
    (returns-in-Some-clause-lent c) (returns-in-Some-clause-others c) (search rules) on
