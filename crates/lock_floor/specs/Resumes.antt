-- How a thread that was woken off a queue runs again.
use Rattle.std.specs.Prelude.{◌≡◌, ◌↔◌, ℕ, Bool, true, false, [], ◌∷◌}
use Rattle.lock_model.specs.Config.{Config}
use Rattle.lock_model.specs.Queues.{Cause, BySignal, ByAbort}
use Rattle.lock_model.specs.declared.plan.QueueName.{QueueName}
use Rattle.lock_state.specs.State.{Queued, Woken, NoWalk, Awake}
use Rattle.lock_state.specs.Steps.{Resumes}
use Rattle.lock_state.specs.Steps.LockWords.{is_taking_back}
use Rattle.lock_state.specs.Steps.Turnstiles.{called_after, wanted_after, noted_after, taking_by, woken_from_by, round_for}
use Rattle.floor_table.specs.Descriptions.{config_in}
use Rattle.floor_table.specs.Shares.{Doing}
use Rattle.floor_table.specs.Steps.{MayMake, Makes}
use Rattle.floor_table.specs.Views.{Knowledge, Runs, StandsOn, seeing}
use Rattle.floor_table.specs.declared.description.Description.{Description}

-- by what a thread was woken
abbrev pub cause_of : Bool → Cause
cause_of false = BySignal
cause_of true = ByAbort

-- after the thread was woken off a queue and runs again
abbrev pub resumed : Config → Knowledge → QueueName → Cause → Knowledge
resumed c v q cause =
    let x : Doing = v.share.doing in
    let back : Bool = is_taking_back v.share.log in
    let after : Doing = record x {
      called = called_after q cause x.called;
      wanted = wanted_after c q cause back x.wanted;
      noted = noted_after q cause back x.noted;
      taking = taking_by c q x.taking;
      woken_from = woken_from_by q cause x.woken_from;
      looks = 0;
      round = round_for (wanted_after c q cause back x.wanted);
      phase = Awake;
    } in
    record v { share = record v.share { doing = after }; pose = Runs }

-- the thread stands on a queue, has given back all that it had out and ended its walk, and may run again where it was
-- woken off that queue
pub record MayRunAgain (floor : Description) (v : Knowledge) : Type 0 where
  pub queue : QueueName
  pub stands : v.pose ≡ StandsOn queue
  pub nothing_out : v.out ≡ []
  pub no_walk : v.share.doing.walk ≡ NoWalk
  pub may : (cause : Cause) → MayMake floor v (λ s. s.wait v.thread ≡ Woken queue cause)
      (Resumes v.thread queue cause ∷ [])

-- the thread was woken off the queue on which it stood, by that cause, and runs again
pub record RunsAgain (floor : Description) (cause : Cause) (old new : Knowledge) : Type 0 where
  pub queue : QueueName
  pub stands : old.pose ≡ StandsOn queue
  pub view : new ≡ seeing new.seen (resumed (config_in floor) old queue cause)
  pub step : Makes floor (Resumes old.thread queue cause ∷ []) old new

-- The thread found itself Queued. It made no step; at that moment, in the state to which all steps led that had been
-- made by then, it was Queued, and its seat has seen these steps.
pub record FindsQueued (floor : Description) (old new : Knowledge) : Type 0 where
  pub moment : Makes floor [] old new
  pub queued : moment.state.wait old.thread ≡ Queued

-- The thread found out whether a thread is Queued. It made no step; at that moment, in the state to which all steps led
-- that had been made by then, that one was Queued exactly where the answer says so, and the seat has seen these steps.
pub record FindsWhetherQueued (floor : Description) (o : ℕ) (answer : Bool) (old new : Knowledge) :
    Type 0 where
  pub moment : Makes floor [] old new
  pub queued : (answer ≡ true) ↔ (moment.state.wait o ≡ Queued)
