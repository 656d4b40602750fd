use Rattle.lock_model.proofs.Facets.{agree}
use Rattle.lock_model.proofs.laws.facets_agree.Goals as goal

pub returns-clause-gains : goal.returns-clause-gains
returns-clause-gains c e = (agree e).gains

pub returns-clause-ends : goal.returns-clause-ends
returns-clause-ends c e = (agree e).ends

pub returns-clause-sleeps : goal.returns-clause-sleeps
returns-clause-sleeps c e = (agree e).sleeps

pub returns-clause-halts : goal.returns-clause-halts
returns-clause-halts c e = (agree e).halts

pub returns-clause-matters : goal.returns-clause-matters
returns-clause-matters c e = (agree e).matters
