use Rattle.ordered_plan_laws.specs.Upward.{refuses}
use Rattle.ordered_plan_laws.proofs.Edges as law
use Rattle.ordered_plan_laws.proofs.ordered.ordered_steps_refuse_nothing.Goals as goal

pub returns : goal.returns
returns c config s t l k own g p w x =
    law.none_refused config s w t l (p.upward t l (refuses t l k)) own k g x.edges_go_up
