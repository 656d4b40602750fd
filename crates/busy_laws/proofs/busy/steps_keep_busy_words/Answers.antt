use Rattle.busy_laws.proofs.Keeping as law
use Rattle.busy_laws.proofs.busy.steps_keep_busy_words.Goals as goal

pub returns : goal.returns
returns c config s step g l x = law.keeps config s l x step g
