use Rattle.order_laws.proofs.OrderFacts.Cycle as law
use Rattle.order_laws.proofs.orders.ordered_effective_is_best.Goals as goal

pub returns : goal.returns
returns c = law.best
