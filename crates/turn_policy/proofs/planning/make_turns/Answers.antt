use Rattle.std.proofs.Common.{get_or, subst, take, ◌∙◌}
use Rattle.lock_model.specs.declared.numbers.ThreadNo.{ThreadNo}
use Rattle.lock_model.specs.declared.plan.Plan.{Plan}
use Rattle.lock_state.specs.Run.{run_behind}
use Rattle.step_world.specs.Worlds.{Represents}
use Rattle.turn_policy.specs.Schedules.{run_by}
use Rattle.turn_policy.proofs.Turns.{next_made}
use Rattle.turn_policy.proofs.planning.make_turns.Goals as goal

pub loop-t-preserved : goal.loop-t-preserved
loop-t-preserved c =
    let i = c.loop-t.invariant in
    let plan = c.args.world.now.plan in
    record {
      plan = c.turn.ensures.plan ∙ i.plan;
      turns = λ h.
          let none : ThreadNo = record { 0 = 0 } in
          let turns = c.args.turns.now in
          let n = c.loop-t.t-index in
          next_made plan c.turn.new.self turns n none c.loop-t-test.true
          (subst (λ (p : Plan). Represents c.turn.new.self
          (run_behind p (run_by plan (take n turns)) (get_or turns n none).0)) i.plan
          (c.turn.ensures.turn (run_by plan (take n turns)) (i.turns h)));
    }
