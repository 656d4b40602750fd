use Rattle.lock_model.specs.Orders.{edges_behind}
use Rattle.lock_model.proofs.Orders.{paths_grow, old_stays}
use Rattle.witness_orders.proofs.laws.paths_only_grow.Goals as goal

pub returns : goal.returns
returns c es held wanted a b r = paths_grow es (edges_behind es held wanted) (old_stays es held wanted) r
