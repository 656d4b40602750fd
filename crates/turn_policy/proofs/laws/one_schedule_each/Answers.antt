use Rattle.turn_policy.proofs.Chosen.{one_each}
use Rattle.turn_policy.proofs.laws.one_schedule_each.Goals as goal

pub returns : goal.returns
returns c policy plan a b h g = one_each policy plan a b h g
