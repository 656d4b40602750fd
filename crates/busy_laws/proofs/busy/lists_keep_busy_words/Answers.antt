use Rattle.busy_laws.proofs.Keeping as law
use Rattle.busy_laws.proofs.busy.lists_keep_busy_words.Goals as goal

pub returns : goal.returns
returns c = law.all_keep
