use Rattle.lock_objects.proofs.Names.{rules, sleeper_of}
use Rattle.lock_objects.proofs.Sleeps.{chain_slept}
use Rattle.lock_objects.proofs.sleeping.fall_asleep.Goals as goal

pub returns-clause-chain : goal.returns-clause-chain
returns-clause-chain c = search rules

pub returns-clause-queues : goal.returns-clause-queues
returns-clause-queues c k s n x own kind balanced changes shows = chain_slept s n c.args.q c.args.side x
    (sleeper_of c.args.rec.now) kind balanced changes shows (returns-clause-chain c x own)
