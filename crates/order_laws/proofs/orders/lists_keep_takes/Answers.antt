use Rattle.order_laws.proofs.TakeFacts.Steps as law
use Rattle.order_laws.proofs.orders.lists_keep_takes.Goals as goal

pub returns : goal.returns
returns c = law.all_keep
