use Rattle.std.proofs.Common.{◌≡◌, [], take}
use Rattle.step_world.specs.Worlds.{Represents}
use Rattle.turn_policy.specs.Schedules.{run_by}
use Rattle.turn_policy.proofs.planning.make_turns.Given as goal

-- those so far are made
abbrev pub invariant-loop-t : goal.invariant-loop-t
invariant-loop-t l = record {
  plan : l.world.plan ≡ l.initial.world.plan;
  turns : Represents l.initial.world (run_by l.initial.world.plan [])
      → Represents l.world (run_by l.initial.world.plan (take l.t-index l.turns));
}
