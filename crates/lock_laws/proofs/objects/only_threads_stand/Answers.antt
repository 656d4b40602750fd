use Rattle.lock_laws.proofs.Names.{arith, lock_queue}
use Rattle.lock_laws.proofs.Standing as law
use Rattle.lock_laws.proofs.objects.only_threads_stand.Goals as goal

pub returns : goal.returns
returns c d s t l h a = law.standing_thread d s t (lock_queue l) h (omega arith)
