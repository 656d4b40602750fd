use Rattle.lock_floor.proofs.SleepingThreads as law
use Rattle.lock_floor.proofs.laws.sleeping_threads_stand.Goals as goal

pub returns : goal.returns
returns c floor past s t d led asleep = law.sleeper_stands floor past s t d led asleep
