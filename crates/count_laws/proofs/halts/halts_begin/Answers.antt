use Rattle.count_laws.proofs.Explaining as law
use Rattle.count_laws.proofs.halts.halts_begin.Goals as goal

pub returns : goal.returns
returns c = law.begins
