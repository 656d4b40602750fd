use Rattle.count_laws.proofs.Started as law
use Rattle.count_laws.proofs.counts.counts_begin.Goals as goal

pub returns : goal.returns
returns c = law.counted
