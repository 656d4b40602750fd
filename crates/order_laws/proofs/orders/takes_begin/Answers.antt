use Rattle.order_laws.proofs.TakeFacts as law
use Rattle.order_laws.proofs.orders.takes_begin.Goals as goal

pub returns : goal.returns
returns c = law.begins
