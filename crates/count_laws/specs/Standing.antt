-- Where a thread is that neither runs nor is being woken.
use Rattle.std.specs.Prelude.{◌≡◌, ℕ, Some}
use Rattle.lock_model.specs.Queues.{stands}
use Rattle.lock_model.specs.declared.plan.QueueName.{QueueName}
use Rattle.lock_state.specs.State.{State}

-- a thread stands on a queue: it is not in a marked list
pub record StandsOnQueue (s : State) (u : ℕ) : Type 0 where
  pub queue : QueueName
  pub named : s.blocked_on u ≡ Some queue
  pub stands : stands u (s.lists queue) ≡ 1
