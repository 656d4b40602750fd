-- What a thread knows in the middle of a wait: when it lies down on a channel's queue, and when it has its lock back.
use Rattle.std.specs.Prelude.{◌≡◌, ◌≢◌, ℕ, ◌<◌, ◌≤◌, true, false, List, [], ◌∷◌, length, Some, None}
use Rattle.lock_model.specs.Config.{Config}
use Rattle.lock_model.specs.History.{open_in, left_in}
use Rattle.lock_model.specs.Holds.{NotHeld}
use Rattle.lock_model.specs.Operations.{hold_in}
use Rattle.lock_model.specs.Queues.{Cause, BySignal, ByAbort, chan_queue}
use Rattle.lock_model.specs.declared.event.Event.TheVariants.{Sleeps}
use Rattle.lock_model.specs.declared.numbers.ChanNo.{ChanNo}
use Rattle.lock_state.specs.State.{HeldLock, SleepHalted, gained_order}
use Rattle.lock_state.specs.Steps.{Stamps}
use Rattle.lock_state.specs.Steps.LockWords.{is_taking_back}
use Rattle.floor_table.specs.Descriptions.{config_in}
use Rattle.floor_table.specs.Shares.{Doing, is_among}
use Rattle.floor_table.specs.Steps.{Makes, MakesEach}
use Rattle.floor_table.specs.Views.{Knowledge, Runs, StandsOn, seeing}
use Rattle.floor_table.specs.declared.description.Description.{Description}
use Rattle.lock_floor.specs.Passes.{IsAtRest, MakesEntry}
use Rattle.lock_floor.specs.Relocks.{IsUnburdened}
use Rattle.lock_floor.specs.Sleeps.{HasSleeperOut}
use Rattle.lock_floor.specs.Views.{entry_by, stamped}
use Rattle.cond_vars.specs.Waits.{lock_of, lies_there, ended_by}

-- 1. It lies down

-- with nothing out any more, and what was seen under a chain forgotten
abbrev pub with_none_out : Knowledge → Knowledge
with_none_out v =
    let after : Doing = record v.share.doing { seen_in_section = None } in
    record v { share = record v.share { doing = after }; out = [] }

-- The thread may lie down on the channel's queue, whose lock it gained last, and not by a try: it has the channel's
-- chain out and its own record, in which its sleep queue is, and is at rest but for that
pub record MayLieDown (floor : Description) (d : ℕ) (v : Knowledge) : Type 0 where
  pub chan : d < length floor.chans
  pub holds : hold_in v.share.held (lock_of floor d) ≢ NotHeld
  pub others : List HeldLock
  pub last : gained_order v.share.held
      ≡ record { lock = lock_of floor d; by_try = false } ∷ others
  pub room : 1 ≤ v.spare
  pub rest : IsAtRest floor (with_none_out v)
  pub sleeper : HasSleeperOut floor (chan_queue d) v
  pub own : ℕ
  pub home : sleeper.box.value.sleep_queue ≡ Some own

-- what it knows then: it stands on the queue, and noted by an entry with that ticket that it sleeps
abbrev pub asleep : Config → Knowledge → ℕ → ChanNo → Knowledge
asleep c v ticket d =
    record (stamped c (with_none_out v) (entry_by v.thread ticket (Sleeps d))) {
      pose = StandsOn (chan_queue d.0);
    }

-- it did so
pub record LiesThere (floor : Description) (d : ChanNo) (old new : Knowledge) : Type 0 where
  pub own : ℕ
  pub ticket : ℕ
  pub steps : MakesEach floor (lies_there floor old.thread d own) old new
  pub view : new ≡ seeing new.seen (asleep (config_in floor) old ticket d)
  pub entry : MakesEntry floor (Sleeps d) old.share.held old new

-- 2. It has its lock back

-- The thread holds the lock of its wait again, in the mode in which it slept with it: that is to be noted, and by which
-- cause its sleep ended. But for that it is at rest
abbrev pub IsToNote : Cause → ℕ → Knowledge → Type 0
IsToNote BySignal d v = v.share.doing.woken_from ≡ Some d
IsToNote ByAbort d v = v.share.doing.noted ≡ Some (SleepHalted (chan_queue d))

pub record IsBack (floor : Description) (d : ChanNo) (cause : Cause) (v : Knowledge) : Type 0 where
  pub runs : v.pose ≡ Runs
  pub unburdened : IsUnburdened v
  pub wants : v.share.doing.wanted ≡ None
  pub takes : v.share.doing.taking ≡ Some (lock_of floor d.0)
  pub no_round : v.share.doing.round ≡ None
  pub looks : v.share.doing.looks ≡ 0
  pub slept : is_taking_back v.share.log ≡ true
  pub held : hold_in v.share.held (lock_of floor d.0)
      ≡ left_in (config_in floor) v.share.log v.thread (lock_of floor d.0)
  pub holds : hold_in v.share.held (lock_of floor d.0) ≢ NotHeld
  pub closed : open_in (config_in floor) v.share.log v.thread (lock_of floor d.0) ≡ NotHeld
  pub others : (k : ℕ) → k ≢ lock_of floor d.0
      → open_in (config_in floor) v.share.log v.thread k ≡ hold_in v.share.held k
  pub begun : (k : ℕ) → k ≢ lock_of floor d.0 → hold_in v.share.held k ≢ NotHeld
      → is_among k v.share.begun ≡ true
  pub room : 1 ≤ v.spare
  pub to_note : IsToNote cause d.0 v

-- it noted that, and is at rest; where an abort ended its sleep, the halt word is 1
pub record NotesEnd (floor : Description) (d : ChanNo) (cause : Cause) (old new : Knowledge) : Type 0
  where
    pub notes : Makes floor (Stamps old.thread (ended_by cause d) ∷ []) old new
    pub entry : MakesEntry floor (ended_by cause d) old.share.held old new
    pub rest : IsAtRest floor new
    pub halt_word : cause ≡ ByAbort → notes.state.halted ≡ true
