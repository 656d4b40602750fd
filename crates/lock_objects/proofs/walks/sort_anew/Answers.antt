use Rattle.lock_objects.proofs.Names.{rules}
use Rattle.lock_objects.proofs.Hops.{shift_queues, shift_walk}
use Rattle.lock_objects.proofs.walks.sort_anew.Goals as goal

pub returns-clause-queues : goal.returns-clause-queues
returns-clause-queues c k s t o lawful g shows rec = shift_queues k s t o c.args.l.0 lawful g shows rec (search rules)

pub returns-clause-walk : goal.returns-clause-walk
returns-clause-walk c k s t o lawful g shows =
    shift_walk k s t o c.args.l.0 lawful g shows c.args.owned c.requires.owned c.shift.ensures.answer
