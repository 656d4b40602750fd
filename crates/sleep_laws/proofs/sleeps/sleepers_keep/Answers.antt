use Rattle.sleep_laws.proofs.SleepFacts.Floor as law
use Rattle.sleep_laws.proofs.sleeps.sleepers_keep.Goals as goal

pub returns : goal.returns
returns c = law.keeps
