use Rattle.wait_objects.proofs.WellFormed.{well_formed}
use Rattle.wait_objects.proofs.object.Object.is_empty.Goals as goal

pub returns-then-is_empty-clause-well_formed : goal.returns-then-is_empty-clause-well_formed
returns-then-is_empty-clause-well_formed g c =
    rw (← c.self.view_is) (well_formed g.E.Own c.self.inside c.self.invariant c.is_empty.ensures.in_order)

pub returns-else-is_empty-clause-well_formed : goal.returns-else-is_empty-clause-well_formed
returns-else-is_empty-clause-well_formed g c =
    rw (← c.self.view_is) (well_formed g.E.Own c.self.inside c.self.invariant c.is_empty.ensures.in_order)
