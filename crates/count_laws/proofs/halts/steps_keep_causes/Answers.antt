use Rattle.count_laws.proofs.Explaining as law
use Rattle.count_laws.proofs.halts.steps_keep_causes.Goals as goal

pub returns : goal.returns
returns c at_work chains config s step w h o p x f k = law.keeps config s w h o p x chains step f k
