use Rattle.count_laws.proofs.Explaining as law
use Rattle.count_laws.proofs.halts.halts_are_honest.Goals as goal

pub returns : goal.returns
returns c = law.honest
