use Rattle.order_laws.proofs.WantFacts.Steps as law
use Rattle.order_laws.proofs.orders.steps_keep_wants.Goals as goal

pub returns : goal.returns
returns c = law.keeps
