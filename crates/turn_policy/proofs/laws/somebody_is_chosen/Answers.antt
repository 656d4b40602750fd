use Rattle.turn_policy.proofs.Chosen.{nobody_chosen}
use Rattle.turn_policy.proofs.laws.somebody_is_chosen.Goals as goal

pub returns : goal.returns
returns c policy plan r last n = nobody_chosen plan r policy last n
