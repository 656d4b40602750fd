use Rattle.step_world.proofs.Names.{ap, is_empty}
use Rattle.std.proofs.Common.{◌∙◌}
use Rattle.step_world.proofs.Scheduling.{members_are, round_of_none}
use Rattle.step_world.proofs.schedule.Course.all_ended.Goals as goal

pub returns : goal.returns
returns c =
    let plan = c.self.inside.world.plan in
    rw (← c.self.view_is)
    (λ k h. c.is_empty.ensures ∙ ap is_empty (members_are c.self.invariant k.run h.shows)
    ∙ round_of_none plan k.run)
