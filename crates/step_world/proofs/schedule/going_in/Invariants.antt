use Rattle.step_world.proofs.Names.{ℕ, not, nat_lt, has_bit, Run, has_ended, Represents}
use Rattle.std.proofs.Common.{◌≡◌, ◌&&◌}
use Rattle.step_world.proofs.schedule.going_in.Given as goal

-- those below who haven't ended are in the set
abbrev pub invariant-loop-t : goal.invariant-loop-t
invariant-loop-t l =
    (r : Run) (u : ℕ) → Represents l.world r
    → has_bit u l.going.bits ≡ (nat_lt u l.t && not (has_ended l.world.plan r u))
