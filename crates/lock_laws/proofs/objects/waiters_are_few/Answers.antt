use Rattle.lock_laws.proofs.Names.{lock_queue}
use Rattle.lock_laws.proofs.Beyond as law
use Rattle.lock_laws.proofs.objects.waiters_are_few.Goals as goal

pub returns : goal.returns
returns c d s l h k = law.few_wait d s h (lock_queue l)
