use Rattle.std.proofs.Common.{[], sym, subst}
use Rattle.lock_model.specs.declared.plan.Plan.{Plan}
use Rattle.step_world.specs.Worlds.{Represents}
use Rattle.turn_policy.specs.Schedules.{run_by}
use Rattle.turn_policy.proofs.Turns.{none_made}
use Rattle.turn_policy.proofs.planning.schedule_by.Goals as goal

pub turns_behind-requires-clause-made : goal.turns_behind-requires-clause-made
turns_behind-requires-clause-made c =
    let plan = c.args.plan.now in
    let world = c.in_ok-world.ensures in
    let at_begin = subst (λ (p : Plan). Represents c.in_ok-world.world (run_by p [])) (sym world.plan)
    (subst (Represents c.in_ok-world.world) (none_made plan) world.begins) in
    subst (λ (p : Plan). Represents c.make_turns.new.world (run_by p plan.schedule)) world.plan
    (rw c.as_slice.ensures at (c.make_turns.ensures.turns at_begin))
