use Rattle.std.proofs.Common.{◌≡◌, ◌<◌, ℕ, false}
use Rattle.lock_state.specs.Run.{Run}
use Rattle.step_world.specs.Worlds.{Represents}
use Rattle.turn_calls.specs.Texts.{goes_on}
use Rattle.turn_calls.proofs.text.nobody_goes_on.Given as goal

-- none of those below goes on
abbrev pub invariant-loop-t : goal.invariant-loop-t
invariant-loop-t l = (r : Run) (u : ℕ) → Represents l.world r → u < l.t → goes_on l.world.plan r u ≡ false
