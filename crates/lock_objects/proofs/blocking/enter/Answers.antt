use Rattle.lock_objects.proofs.Names.{rules}
use Rattle.lock_objects.proofs.Enters.{entered_chain, entered_record}
use Rattle.lock_objects.proofs.blocking.enter.Goals as goal

pub returns-clause-queues : goal.returns-clause-queues
returns-clause-queues c k s t mode x side owner can rec shows =
    entered_chain k s t c.args.l.0 mode x c.args.side _ side owner can rec shows (search rules)

pub returns-clause-its_record : goal.returns-clause-its_record
returns-clause-its_record c s t mode x rec = entered_record s t c.args.l.0 mode x (search rules) rec
