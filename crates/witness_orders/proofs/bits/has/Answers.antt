use Rattle.std.proofs.Common.{nat_eq, ap}
use Rattle.std.proofs.lemmas.Nat.Bits.{shr_and_one}
use Rattle.lock_model.specs.Counts.{has_bit}
use Rattle.witness_orders.proofs.bits.has.Goals as goal

pub returns : goal.returns
unfolding has_bit
returns c = ap (λ n. nat_eq n 1) (shr_and_one c.args.set c.args.c.0)
