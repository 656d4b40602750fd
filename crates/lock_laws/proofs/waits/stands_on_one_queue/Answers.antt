use Rattle.lock_laws.proofs.Derived as law
use Rattle.lock_laws.proofs.waits.stands_on_one_queue.Goals as goal

pub returns : goal.returns
returns c = law.one_queue
