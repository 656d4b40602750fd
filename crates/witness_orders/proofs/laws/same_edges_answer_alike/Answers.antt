use Rattle.lock_model.proofs.Orders.{same_paths, same_admitted, same_first, same_behind}
use Rattle.witness_orders.proofs.laws.same_edges_answer_alike.Goals as goal

pub returns-clause-path : goal.returns-clause-path
returns-clause-path c es fs a b s r = same_paths es fs s r

pub returns-clause-admits : goal.returns-clause-admits
returns-clause-admits c es fs held wanted s g = same_admitted es fs s held wanted g

pub returns-clause-refuses : goal.returns-clause-refuses
returns-clause-refuses c es fs held wanted first s f = same_first es fs s held wanted first f

pub returns-clause-grows : goal.returns-clause-grows
returns-clause-grows c es fs held wanted s = same_behind es fs s held wanted
