use Rattle.order_laws.proofs.OrderFacts.Steps as law
use Rattle.order_laws.proofs.orders.lists_keep_order.Goals as goal

pub returns : goal.returns
returns c = law.all_keep
