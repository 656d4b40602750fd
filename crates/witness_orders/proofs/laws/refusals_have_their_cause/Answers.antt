use Rattle.lock_model.proofs.Orders.{refused_not_admitted, first_forbids, first_is_held}
use Rattle.witness_orders.proofs.laws.refusals_have_their_cause.Goals as goal

pub returns : goal.returns
returns c = record { exact = refused_not_admitted; held = first_is_held; forbids = first_forbids }
