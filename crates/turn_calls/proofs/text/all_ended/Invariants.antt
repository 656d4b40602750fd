use Rattle.std.proofs.Common.{◌≡◌, ◌<◌, ℕ, true}
use Rattle.lock_state.specs.Run.{Run, has_ended}
use Rattle.step_world.specs.Worlds.{Represents}
use Rattle.turn_calls.proofs.text.all_ended.Given as goal

-- each of those below has ended
abbrev pub invariant-loop-t : goal.invariant-loop-t
invariant-loop-t l = (r : Run) (u : ℕ) → Represents l.world r → u < l.t → has_ended l.world.plan r u ≡ true
