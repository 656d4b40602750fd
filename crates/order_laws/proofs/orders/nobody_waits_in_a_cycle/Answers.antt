use Rattle.order_laws.proofs.OrderFacts.Cycle as law
use Rattle.order_laws.proofs.orders.nobody_waits_in_a_cycle.Goals as goal

pub returns : goal.returns
returns c = law.no_cycle
