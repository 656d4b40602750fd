use Rattle.lock_model.specs.Operations.{held_of}
use Rattle.lock_model.specs.Plans.{operations_of}
use Rattle.ordered_plan_laws.proofs.Edges as law
use Rattle.ordered_plan_laws.proofs.ordered.ordered_plans_take_upward.Goals as goal

pub returns-clause-classes : goal.returns-clause-classes
returns-clause-classes c plan o = o.own_classes

pub returns-clause-takes : goal.returns-clause-takes
returns-clause-takes c plan t n k l mode held o i e =
    law.lower_in (held_of (operations_of plan t) n) l.0 k held (o.upward t n l mode i) e
