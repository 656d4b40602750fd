use Rattle.sleep_laws.proofs.SleepFacts.Found as law
use Rattle.sleep_laws.proofs.sleeps.sleeping_threads_stand.Goals as goal

pub returns : goal.returns
returns c at_work config s t d l h = law.found_or_aborted l h t d
