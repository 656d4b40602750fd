use Rattle.order_laws.proofs.OrderFacts as law
use Rattle.order_laws.proofs.orders.orders_begin.Goals as goal

pub returns : goal.returns
returns c = law.begins
