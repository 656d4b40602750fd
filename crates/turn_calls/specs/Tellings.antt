-- What is told of a thread between two turns.
use Rattle.std.specs.Prelude.{◌≡◌, ℕ, Bool, true, false, if◌then◌else◌}
use Rattle.lock_model.specs.Plans.{config_of}
use Rattle.lock_model.specs.declared.plan.Plan.{Plan}
use Rattle.lock_state.specs.Run.{Run, has_ended, owes}
use Rattle.lock_state.specs.State.{Wait}
use Rattle.lock_state.specs.State as wait
use Rattle.turn_calls.specs.declared.threads.ThreadNow.{ThreadNow}
use Rattle.turn_calls.specs.declared.threads.ThreadState.{ThreadState}
use Rattle.turn_calls.specs.declared.threads.ThreadState.TheVariants.{Running, Queued, Idle, Woken, Ended}

-- what a thread that hasn't ended is, by whether it owes something and by its wait word
abbrev pub state_by : Bool → Wait → ThreadState
state_by owing wait.Running = Running
state_by true wait.Queued = Queued
state_by false wait.Queued = Idle
state_by owing (wait.Woken q cause) = Woken

abbrev pub state_of : Plan → Run → ℕ → ThreadState
state_of plan r t =
    if has_ended plan r t
    then Ended
    else state_by (owes (config_of plan) r.state t) (r.state.wait t)

-- it is told as it is
pub record IsToldOf (plan : Plan) (r : Run) (t : ℕ) (now : ThreadNow) : Type 0 where
  pub state : now.state ≡ state_of plan r t
  pub blocked_on : now.blocked_on ≡ r.state.blocked_on t
  pub base : now.base.0 ≡ r.state.base t
  pub effective : now.effective.0 ≡ r.state.effective t
