use Rattle.sleep_laws.proofs.SleepFacts.Turns as law
use Rattle.sleep_laws.proofs.sleeps.sleepers_keep_between_turns.Goals as goal

pub returns : goal.returns
returns c = law.turn_ends
