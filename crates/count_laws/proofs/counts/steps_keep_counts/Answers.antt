use Rattle.count_laws.proofs.Keeping as law
use Rattle.count_laws.proofs.counts.steps_keep_counts.Goals as goal

pub returns : goal.returns
returns c = law.keeps
