use Rattle.sleep_laws.proofs.SleepFacts.Found as law
use Rattle.sleep_laws.proofs.sleeps.standing_threads_sleep.Goals as goal

pub returns-clause-asleep : goal.returns-clause-asleep
returns-clause-asleep c at_work d s t i l h = law.stander_asleep l h t i

pub returns-clause-wants : goal.returns-clause-wants
returns-clause-wants c at_work d s t i l h = law.stander_wants l h t i
