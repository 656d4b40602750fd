use Rattle.turn_policy.proofs.Chosen.{acting}
use Rattle.turn_policy.proofs.laws.the_chosen_act.Goals as goal

pub returns : goal.returns
returns c policy plan r last n t e = acting plan r policy last n t e
