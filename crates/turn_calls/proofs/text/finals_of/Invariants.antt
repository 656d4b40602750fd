use Rattle.std.proofs.Common.{◌≡◌, ℕ, map}
use Rattle.std.specs.List.{range_with_len}
use Rattle.lock_history.specs.Endings.{numbers_of}
use Rattle.lock_state.specs.Run.{Run}
use Rattle.step_world.specs.Worlds.{Represents}
use Rattle.turn_calls.proofs.text.finals_of.Given as goal

-- the pairs of the first threads
abbrev pub invariant-loop-t : goal.invariant-loop-t
invariant-loop-t l =
    (r : Run) → Represents l.world r
    → numbers_of l.finals.items ≡ map {B = ℕ × ℕ} (λ t. (r.state.base t, r.state.effective t)) (range_with_len 0 l.t)
