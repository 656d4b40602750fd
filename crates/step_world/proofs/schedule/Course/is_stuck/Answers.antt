use Rattle.step_world.proofs.Names.{true, false, sym, ap, Course}
use Rattle.std.proofs.Common.{◌∙◌}
use Rattle.step_world.proofs.Scheduling.{stuck_as}
use Rattle.step_world.proofs.schedule.Course.is_stuck.Goals as goal

pub returns-then-self : goal.returns-then-self
returns-then-self c k h = c.is_through.ensures.through
    ∙ stuck_as true h (sym (ap (λ (x : Course). x.idle) c.self.view_is) ∙ c.if-self.true)

pub returns-else-self : goal.returns-else-self
returns-else-self c k h = c.if-self.false
    ∙ stuck_as false h (sym (ap (λ (x : Course). x.idle) c.self.view_is) ∙ c.if-self.false)
