use Rattle.busy_laws.proofs.Keeping as law
use Rattle.busy_laws.proofs.busy.nobody_begins_where_nobody_holds.Goals as goal

pub returns : goal.returns
returns c = law.unheld_begun
