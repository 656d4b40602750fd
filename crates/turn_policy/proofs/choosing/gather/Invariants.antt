use Rattle.std.proofs.Common.{◌≡◌, ◌≤◌, length}
use Rattle.std.specs.Vec.{vec_capacity}
use Rattle.lock_state.specs.Run.{Run}
use Rattle.step_world.specs.Worlds.{Represents}
use Rattle.turn_policy.specs.Choosing.{AreCandidates, AreOfPlan}
use Rattle.turn_policy.proofs.Runnable.{gathered_below}
use Rattle.turn_policy.proofs.choosing.gather.Given as goal

-- those below are gathered
abbrev pub invariant-loop-t : goal.invariant-loop-t
invariant-loop-t l = record {
  gathered : (r : Run) → Represents l.world r
      → AreCandidates l.heeds_loans r (gathered_below l.owing_only l.world.plan r l.t) l.candidates.items;
  threads : AreOfPlan l.world.plan l.candidates.items;
  few : length l.candidates.items ≤ l.t;
  room : vec_capacity l.candidates ≡ vec_capacity l.initial.candidates;
}
