use Rattle.order_laws.proofs.OrderFacts.Steps as law
use Rattle.order_laws.proofs.orders.steps_keep_order.Goals as goal

pub returns : goal.returns
returns c = law.keeps
