use Rattle.sleep_laws.proofs.SleepFacts as law
use Rattle.sleep_laws.proofs.sleeps.sleepers_begin.Goals as goal

pub returns : goal.returns
returns c = law.begins
