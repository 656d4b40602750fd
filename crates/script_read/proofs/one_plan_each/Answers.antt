use Rattle.lock_model.specs.Script.{IsAccepted, IsFaulty}
use Rattle.script_read.proofs.one_plan_each.Goals as goal

pub returns-clause-one : goal.returns-clause-one
unfolding IsAccepted
returns-clause-one c = λ bytes a b p q. cc (p, q)

pub returns-clause-either : goal.returns-clause-either
unfolding IsAccepted IsFaulty
returns-clause-either c = λ bytes a line code p q. cc (p, q)
