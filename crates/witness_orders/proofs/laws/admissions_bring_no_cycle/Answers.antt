use Rattle.lock_model.proofs.Orders.{stays_without_cycle}
use Rattle.witness_orders.proofs.laws.admissions_bring_no_cycle.Goals as goal

pub returns : goal.returns
returns c es held wanted h g = stays_without_cycle es held wanted g h
