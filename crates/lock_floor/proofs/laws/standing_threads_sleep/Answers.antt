use Rattle.lock_floor.proofs.SleepingThreads as law
use Rattle.lock_floor.proofs.laws.standing_threads_sleep.Goals as goal

pub returns-clause-asleep : goal.returns-clause-asleep
returns-clause-asleep c floor past s t d led there = law.stander_sleeps floor past s t d led there

pub returns-clause-wants : goal.returns-clause-wants
returns-clause-wants c floor past s t d led there = law.stander_wants_nothing floor past s t d led there
