use Rattle.lock_floor.proofs.SleepingThreads as law
use Rattle.lock_floor.proofs.laws.woken_sleepers_were_named.Goals as goal

pub returns : goal.returns
returns c = law.woken_was_named
