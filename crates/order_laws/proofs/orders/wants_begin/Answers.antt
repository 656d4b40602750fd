use Rattle.order_laws.proofs.WantFacts as law
use Rattle.order_laws.proofs.orders.wants_begin.Goals as goal

pub returns : goal.returns
returns c = law.begins
