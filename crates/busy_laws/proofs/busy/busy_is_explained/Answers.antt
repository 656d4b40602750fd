use Rattle.busy_laws.proofs.Keeping as law
use Rattle.busy_laws.proofs.busy.busy_is_explained.Goals as goal

pub returns : goal.returns
returns c = law.explained
