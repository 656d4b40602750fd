use Rattle.order_laws.proofs.TakeFacts.Whole as law
use Rattle.order_laws.proofs.orders.whole_orders_are_legal.Goals as goal

pub returns : goal.returns
returns c = law.legal
