-- How sleepers of a condition variable or a channel are woken: whom a wake takes off the channel's queue, what it
-- notes, and its steps.
use Rattle.std.specs.Prelude.{◌≡◌, ◌↔◌, ℕ, ◌<◌, ◌≤◌, Bool, true, false, List, [], ◌∷◌, length, map, option_map, Option, None, count_ones}
use Rattle.lock_model.specs.Queues.{Waiter, Mark, chan_queue, best_of, taken_off}
use Rattle.lock_model.specs.declared.event.Event.{Event}
use Rattle.lock_model.specs.declared.event.Event.TheVariants.{WokeOne, WokeAll}
use Rattle.lock_model.specs.declared.numbers.ChanNo.{ChanNo}
use Rattle.lock_model.specs.declared.numbers.ThreadNo.{ThreadNo}
use Rattle.lock_state.specs.Steps.{TakesItem, GivesItem, Stamps, Wakes}
use Rattle.lock_state.specs.Steps.Items.{RecordOf}
use Rattle.lock_state.specs.Steps.LockWords.{bits_of_threads}
use Rattle.floor_table.specs.Steps.{Makes, MakesEach}
use Rattle.floor_table.specs.Views.{Knowledge, seeing}
use Rattle.floor_table.specs.declared.description.Description.{Description}
use Rattle.lock_floor.specs.Latches.{FindsOut}
use Rattle.lock_floor.specs.Marks.{WakesFirst, marking, with_marks}
use Rattle.lock_floor.specs.Passes.{IsAtRest, MakesEntry}
use Rattle.lock_floor.specs.Waits.{its_chain}
use Rattle.cond_vars.specs.declared.waking.WakeNext.{WakeNext}
use Rattle.cond_vars.specs.declared.waking.WakeNext.TheVariants.{Done, Again, Wake}

-- 1. Whom a wake takes, and what it notes

-- the thread may wake sleepers of a channel: it is one of the floor's, and there is room for an entry
pub record MayWakeUp (floor : Description) (d : ℕ) (v : Knowledge) : Type 0 where
  pub chan : d < length floor.chans
  pub room : 1 ≤ v.spare

-- the threads that a wake takes off a queue with these sleepers: the most important one, or all
abbrev pub threads_woken : Bool → List Waiter → List ℕ
threads_woken all sleepers = map (λ w. w.thread) (taken_off all sleepers)

-- its entry, which has a bit for each of them
abbrev pub wake_of : Bool → ChanNo → ℕ → Event
wake_of false d woken = WokeOne d woken
wake_of true d woken = WokeAll d woken

-- 2. Its steps

-- The thread took sleepers off a channel's queue, which had these, in the order in which they came. It took the
-- channel's chain, and by one step under it the most important one, or all, went to its marked list; it noted them, and
-- gave the chain back
pub record TakesOff (floor : Description) (d : ChanNo) (all : Bool) (sleepers : List Waiter)
    (old new : Knowledge) : Type 0 where
  pub came : Knowledge
  pub takes : Makes floor (TakesItem old.thread (its_chain floor (chan_queue d.0)) ∷ []) old came
  pub off : Knowledge
  pub wakes : Makes floor (Wakes came.thread d.0 all ∷ []) came off
  pub slept : (wakes.state.lists (chan_queue d.0)).exclusive ≡ sleepers
  pub marked : map (λ m. m.thread) new.share.doing.marked ≡ threads_woken all sleepers
  pub notes : MakesEach floor
      ((Stamps old.thread (wake_of all d (bits_of_threads (threads_woken all sleepers))) ∷ [])
      ∷ (GivesItem old.thread (its_chain floor (chan_queue d.0)) ∷ []) ∷ [])
      off new

-- it did so and answers a bit for each, so many as they are: that is noted, and but for those whom it has yet to wake
-- it is at rest
pub record HasTakenOff (floor : Description) (d : ChanNo) (all : Bool) (woken : ℕ)
    (old new : Knowledge) : Type 0 where
  pub sleepers : List Waiter
  pub takes_off : TakesOff floor d all sleepers old new
  pub bits : woken ≡ bits_of_threads (threads_woken all sleepers)
  pub count : count_ones woken ≡ length (threads_woken all sleepers)
  pub entry : MakesEntry floor (wake_of all d woken) old.share.held old new
  pub rest : IsAtRest floor (with_marks new [])

-- One part of what is left: nobody was left, and it did nothing; or it found the record of the first of those who were
-- left out; or it woke that one
abbrev pub GoesOnWaking : Description → WakeNext → Knowledge → Knowledge → Type 0
GoesOnWaking floor Done old new = (old.share.doing.marked ≡ []) × (new ≡ old)
GoesOnWaking floor Again old new =
    (m : Mark) × (ms : List Mark) × (old.share.doing.marked ≡ m ∷ ms)
    × (new ≡ seeing new.seen old) × FindsOut floor (RecordOf m.thread) old new
GoesOnWaking floor (Wake t) old new = (t.0 < length floor.threads) × WakesFirst floor t.0 old new

-- it woke all who were left, one after the other; its log stays, and the locks that it holds
pub record HasWoken (floor : Description) (old new : Knowledge) : Type 0 where
  pub steps : MakesEach floor (marking old.thread old.share.doing.marked) old new
  pub log : new.share.log ≡ old.share.log
  pub held : new.share.held ≡ old.share.held
  pub spare : new.spare ≡ old.spare
  pub thread : new.thread ≡ old.thread

-- it took them off, and woke them
pub record WakesUp (floor : Description) (d : ChanNo) (all : Bool) (sleepers : List Waiter)
    (old new : Knowledge) : Type 0 where
  pub taken : Knowledge
  pub takes_off : TakesOff floor d all sleepers old taken
  pub wakes : MakesEach floor (marking old.thread taken.share.doing.marked) taken new

-- 3. What the calls promise

-- A signal woke that thread: the most important sleeper, of equals the one that has slept longest. Nobody was woken
-- exactly where nobody slept
pub record Signals (floor : Description) (d : ChanNo) (woken : Option ThreadNo)
    (old new : Knowledge) : Type 0 where
  pub sleepers : List Waiter
  pub wakes_up : WakesUp floor d false sleepers old new
  pub best : option_map (λ t. t.0) woken ≡ option_map (λ w. w.thread) (best_of sleepers)
  pub nobody : (woken ≡ None) ↔ (sleepers ≡ [])
  pub entry : MakesEntry floor (WokeOne d (bits_of_threads (threads_woken false sleepers)))
      old.share.held old new

-- a broadcast woke all sleepers, who were so many
pub record Broadcasts (floor : Description) (d : ChanNo) (woken : ℕ) (old new : Knowledge) : Type 0
  where
    pub sleepers : List Waiter
    pub wakes_up : WakesUp floor d true sleepers old new
    pub count : woken ≡ length sleepers
    pub entry : MakesEntry floor (WokeAll d (bits_of_threads (threads_woken true sleepers)))
        old.share.held old new
