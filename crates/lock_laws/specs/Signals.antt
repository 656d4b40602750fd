-- Who is taken off a turnstile is taken off by a signal: an abort takes sleepers off sleep queues alone.
use Rattle.std.specs.Prelude.{◌≡◌, ℕ, true, List, [], ◌∷◌, ⊤}
use Rattle.lock_model.specs.Config.{Config}
use Rattle.lock_model.specs.Queues.{Cause, BySignal, Mark, is_turnstile_queue}
use Rattle.lock_model.specs.declared.plan.QueueName.{QueueName}
use Rattle.lock_state.specs.State.{State, Wait, Woken}

-- a thread may be taken off the queue by the cause
abbrev pub FitsQueue : Config → QueueName → Cause → Type 0
FitsQueue c q cause = is_turnstile_queue c q ≡ true → cause ≡ BySignal

-- so was each of a marked list
abbrev pub FitQueues : Config → List Mark → Type 0
FitQueues c [] = ⊤
FitQueues c (m ∷ ms) = FitsQueue c m.queue m.cause × FitQueues c ms

unfoldable pub MarksFitQueues : Config → (ℕ → List Mark) → Type 0
MarksFitQueues c marked = (t : ℕ) → FitQueues c (marked t)

-- and so was each thread that was woken, and hasn't run since
unfoldable pub WakesFitQueues : Config → (ℕ → Wait) → Type 0
WakesFitQueues c wait =
    (t : ℕ) (q : QueueName) (cause : Cause) → wait t ≡ Woken q cause → FitsQueue c q cause

-- a state in which both hold
pub record TurnstilesSignal (c : Config) (s : State) : Type 0 where
  pub marks_fit_queues : MarksFitQueues c s.marked
  pub wakes_fit_queues : WakesFitQueues c s.wait
