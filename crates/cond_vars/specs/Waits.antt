-- A wait on a condition variable or a channel: who may wait, and what the calls promise.
use Rattle.std.specs.Prelude.{◌≡◌, ◌≢◌, ℕ, ◌<◌, ◌≤◌, true, List, [], ◌∷◌, length}
use Rattle.lock_model.specs.Holds.{NotHeld, Holds}
use Rattle.lock_model.specs.Limits.{most_held}
use Rattle.lock_model.specs.Operations.{hold_in, is_last}
use Rattle.lock_model.specs.Queues.{Cause, BySignal, ByAbort, chan_queue}
use Rattle.lock_model.specs.Words.{is_turnstile}
use Rattle.lock_model.specs.declared.event.Event.{Event}
use Rattle.lock_model.specs.declared.event.Event.TheVariants.{Sleeps, Woke, HaltedChan}
use Rattle.lock_model.specs.declared.numbers.ChanNo.{ChanNo}
use Rattle.lock_model.specs.declared.plan.Mode.{Mode}
use Rattle.lock_state.specs.Steps.{Step, TakesItem, GivesItem, Stamps, Readies, Adds, Resumes}
use Rattle.lock_state.specs.Steps.Items.{RecordOf}
use Rattle.floor_table.specs.Descriptions.{config_in}
use Rattle.floor_table.specs.Steps.{Makes, MakesEach}
use Rattle.floor_table.specs.Views.{Knowledge}
use Rattle.floor_table.specs.declared.description.Description.{Description}
use Rattle.lock_floor.specs.Passes.{MakesEntry}
use Rattle.lock_floor.specs.Waits.{its_chain}
use Rattle.halting.specs.Halts.{CountsItselfOut}

-- 1. Who may wait

-- the lock that belongs to a condition variable or channel of a floor
abbrev pub lock_of : Description → ℕ → ℕ
lock_of floor d = (config_in floor).chan_lock d

-- The thread may wait on a channel with its lock: it gained that last, and not by a try, and holds no other mutex or
-- reader-writer lock: these may not be held over a sleep without bound (locking(9)). It holds no more locks than a
-- thread may, and has room for two entries
pub record MayWait (floor : Description) (d : ℕ) (v : Knowledge) : Type 0 where
  pub chan : d < length floor.chans
  pub last : is_last (lock_of floor d) v.share.held ≡ true
  pub sleepable : (k : ℕ) → k ≢ lock_of floor d → is_turnstile ((config_in floor).kind k) ≡ true
      → hold_in v.share.held k ≡ NotHeld
  pub few : length v.share.held ≤ most_held
  pub room : 2 ≤ v.spare

-- 2. Its steps

-- With the channel's chain and its own record out, the thread says in its wait word that it is queued, and notes that
-- it sleeps; by the next step it stands on the channel's queue, to which it lends its sleep queue, x; and it gives
-- both back
abbrev pub lies_there : Description → ℕ → ChanNo → ℕ → List (List Step)
lies_there floor t d x =
    (Readies t (chan_queue d.0) ∷ []) ∷ (Stamps t (Sleeps d) ∷ []) ∷ (Adds t d.0 x ∷ [])
    ∷ (GivesItem t (RecordOf t) ∷ []) ∷ (GivesItem t (its_chain floor (chan_queue d.0)) ∷ []) ∷ []

-- it takes the chain before, and then its record
abbrev pub lies_down : Description → ℕ → ChanNo → ℕ → List (List Step)
lies_down floor t d x =
    (TakesItem t (its_chain floor (chan_queue d.0)) ∷ []) ∷ (TakesItem t (RecordOf t) ∷ [])
    ∷ lies_there floor t d x

-- the entry of a wait that ended so
abbrev pub ended_by : Cause → ChanNo → Event
ended_by BySignal d = Woke d
ended_by ByAbort d = HaltedChan d

-- 3. What the calls promise

-- The thread slept on the channel, to which its entry says that it went, and was woken by that cause. It came to stand
-- on the channel's queue, released the lock by such steps, counted itself out, and halted others where that left nobody
-- awake. It ran again once it was woken; it took the lock back in its mode, by such steps, and noted that. In between
-- it held all that it held before but the lock, and now it holds just what it held. Where its sleep was ended by an
-- abort, the halt word is 1
pub record Waits (Releases : Description → ℕ → Knowledge → Knowledge → Type 0)
    (TakesBack : Description → ℕ → Mode → Knowledge → Knowledge → Type 0) (floor : Description)
    (d : ChanNo) (cause : Cause) (old new : Knowledge) : Type 0 where
  pub mode : Mode
  pub held : hold_in old.share.held (lock_of floor d.0) ≡ Holds mode
  pub own : ℕ
  pub asleep : Knowledge
  pub lies : MakesEach floor (lies_down floor old.thread d own) old asleep
  pub slept : MakesEntry floor (Sleeps d) old.share.held old asleep
  pub without : Knowledge
  pub releases : Releases floor (lock_of floor d.0) asleep without
  pub unheld : hold_in without.share.held (lock_of floor d.0) ≡ NotHeld
  pub parked : Knowledge
  pub counts : CountsItselfOut floor without parked
  pub awake : Knowledge
  pub resumes : Makes floor (Resumes old.thread (chan_queue d.0) cause ∷ []) parked awake
  pub again : Knowledge
  pub takes_back : TakesBack floor (lock_of floor d.0) mode awake again
  pub notes : Makes floor (Stamps again.thread (ended_by cause d) ∷ []) again new
  pub ended : MakesEntry floor (ended_by cause d) old.share.held asleep new
  pub halt_word : cause ≡ ByAbort → notes.state.halted ≡ true
