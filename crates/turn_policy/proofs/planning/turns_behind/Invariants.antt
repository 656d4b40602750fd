use Rattle.std.proofs.Common.{◌≤◌, ◌-◌, length}
use Rattle.std.specs.Vec.{vec_capacity}
use Rattle.lock_model.specs.Limits.{most_scheduled}
use Rattle.turn_policy.proofs.Turns.{IsUnderWay}
use Rattle.turn_policy.proofs.planning.turns_behind.Given as goal

-- the schedule has come so far
abbrev pub invariant-loop-t : goal.invariant-loop-t
invariant-loop-t l = record {
  way : IsUnderWay l.policy l.plan l.world l.turns.items l.random;
  room : length l.plan.threads ≤ vec_capacity l.candidates;
}

-- there is room for so many more
abbrev pub decreases-loop-t : goal.decreases-loop-t
decreases-loop-t l = most_scheduled - length l.turns.items
