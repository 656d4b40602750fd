-- A wait as a call that stands at places: what the thread knows at each, and what each part of it does. The release of
-- the lock within it, and the taking back, are made by the parts of the lock's own crate.
use Rattle.std.specs.Prelude.{◌≡◌, ◌≢◌, ℕ, ◌<◌, ◌≤◌, Bool, true, false, List, [], ◌∷◌, length, None}
use Rattle.lock_model.specs.History.{open_in, left_in}
use Rattle.lock_model.specs.Holds.{NotHeld, Holds}
use Rattle.lock_model.specs.Limits.{most_held}
use Rattle.lock_model.specs.Operations.{hold_in, without_lock}
use Rattle.lock_model.specs.Queues.{Cause, BySignal, ByAbort, chan_queue}
use Rattle.lock_model.specs.declared.numbers.ChanNo.{ChanNo}
use Rattle.lock_model.specs.declared.numbers.ThreadNo.{ThreadNo}
use Rattle.lock_model.specs.declared.plan.Kind.TheVariants.{Mtx}
use Rattle.lock_model.specs.declared.plan.Mode.{Mode}
use Rattle.lock_model.specs.declared.plan.Mode.TheVariants.{Excl}
use Rattle.lock_model.specs.declared.plan.QueueName.{QueueName}
use Rattle.lock_state.specs.State.{NoWalk, Asleep, Last}
use Rattle.lock_state.specs.Steps.{CountsOut, IsAtResume}
use Rattle.lock_state.specs.Steps.Items.{RecordOf}
use Rattle.lock_state.specs.Steps.LockWords.{is_taking_back}
use Rattle.sleep_queues.specs.Seen.{SleepQueue}
use Rattle.floor_table.specs.Descriptions.{config_in}
use Rattle.floor_table.specs.Shares.{is_among}
use Rattle.floor_table.specs.Steps.{Makes}
use Rattle.floor_table.specs.Views.{Knowledge, StandsOn, seeing}
use Rattle.floor_table.specs.declared.description.Description.{Description}
use Rattle.floor_table.specs.declared.slot.Slot.TheVariants.{SleepQueues}
use Rattle.lock_floor.specs.declared.queues.HaltAt.{HaltAt}
use Rattle.lock_floor.specs.declared.queues.HaltAt.TheVariants as halts
use Rattle.lock_floor.specs.Latches.{FindsOut, Takes}
use Rattle.lock_floor.specs.Passes.{IsAtRest}
use Rattle.lock_floor.specs.Relocks.{MayRelease, MayRetake}
use Rattle.lock_floor.specs.Resumes.{FindsQueued, RunsAgain, cause_of}
use Rattle.lock_floor.specs.Waits.{its_chain, chain_place}
use Rattle.halting.specs.Halts.{EndsHalting, HaltsOn, IsAt, Kept, MayCountOut, WakesNoOther, WakesOther, kept_of}
use Rattle.cond_vars.specs.declared.parts.WaitAt.{WaitAt}
use Rattle.cond_vars.specs.declared.parts.WaitAt.TheVariants.{ComesTo, ComesIn, Parks, Halts, Sleeps, Notes}
use Rattle.cond_vars.specs.declared.parts.WaitNext.{WaitNext}
use Rattle.cond_vars.specs.declared.parts.WaitNext.TheVariants.{Done, Halted, Again, Sleep, Wake, Release, TakeBack}
use Rattle.cond_vars.specs.Sleeping.{IsBack, IsToNote, LiesThere, NotesEnd, with_none_out}
use Rattle.cond_vars.specs.Waits.{MayWait, lock_of}

-- 1. What the thread knows at each place

-- it is at rest and may wait, but for the channel's chain, which it has out
pub record IsComingIn (floor : Description) (d : ChanNo) (v : Knowledge) : Type 0 where
  pub may : MayWait floor d.0 v
  pub rest : IsAtRest floor (with_none_out v)
  pub chain : List (QueueName × SleepQueue)
  pub out : v.out ≡ (chain_place floor (chan_queue d.0), SleepQueues chain) ∷ []

-- It stands on the channel's queue, and its newest entry is that of the sleep: no section of the lock of its wait is
-- open in its log, and the mode in which that was left is the one in which the lock is held still, the last. It may
-- release it now. The sections of the other locks that it holds are as they were
pub record IsToRelease (floor : Description) (d : ChanNo) (v : Knowledge) : Type 0 where
  pub stands : v.pose ≡ StandsOn (chan_queue d.0)
  pub slept : is_taking_back v.share.log ≡ true
  pub unnoted : v.share.doing.noted ≡ None
  pub may : MayRelease floor (lock_of floor d.0) v
  pub holds : hold_in v.share.held (lock_of floor d.0) ≢ NotHeld
  pub left : left_in (config_in floor) v.share.log v.thread (lock_of floor d.0)
      ≡ hold_in v.share.held (lock_of floor d.0)
  pub mutex : (config_in floor).kind (lock_of floor d.0) ≡ Mtx
      → hold_in v.share.held (lock_of floor d.0) ≡ Holds Excl
  pub few : length (without_lock (lock_of floor d.0) v.share.held) < most_held
  pub once : hold_in (without_lock (lock_of floor d.0) v.share.held) (lock_of floor d.0) ≡ NotHeld
  pub others : (k : ℕ) → k ≢ lock_of floor d.0
      → open_in (config_in floor) v.share.log v.thread k
      ≡ hold_in (without_lock (lock_of floor d.0) v.share.held) k
  pub begun : (k : ℕ) → k ≢ lock_of floor d.0
      → hold_in (without_lock (lock_of floor d.0) v.share.held) k ≢ NotHeld
      → is_among k v.share.begun ≡ true
  pub room : 1 ≤ v.spare

-- What stays while it sleeps: it has released the lock of its wait, which was left in some mode, and stands on the
-- channel's queue. The sections open in its log are of just the locks that it holds, and each began since its gain
pub record HasReleased (floor : Description) (d : ChanNo) (k : Kept) : Type 0 where
  pub description : k.description ≡ floor
  pub stands : k.pose ≡ StandsOn (chan_queue d.0)
  pub slept : is_taking_back k.log ≡ true
  pub unnoted : k.noted ≡ None
  pub no_round : k.round ≡ None
  pub no_walk : k.walk ≡ NoWalk
  pub unended : k.has_ended ≡ false
  pub stamped : k.unstamped ≡ None
  pub unheld : hold_in k.held (lock_of floor d.0) ≡ NotHeld
  pub left : left_in (config_in floor) k.log k.thread (lock_of floor d.0) ≢ NotHeld
  pub mutex : (config_in floor).kind (lock_of floor d.0) ≡ Mtx
      → left_in (config_in floor) k.log k.thread (lock_of floor d.0) ≡ Holds Excl
  pub few : length k.held < most_held
  pub sections : (l : ℕ) → open_in (config_in floor) k.log k.thread l ≡ hold_in k.held l
  pub begun : (l : ℕ) → l ≢ lock_of floor d.0 → hold_in k.held l ≢ NotHeld
      → is_among l k.begun ≡ true
  pub room : 1 ≤ k.spare

-- it has counted itself out there and is parked, or aborted itself
pub record IsParked (v : Knowledge) : Type 0 where
  pub uncounted : v.share.doing.counting ≡ None
  pub nothing_out : v.out ≡ []
  pub unmarked : v.share.doing.marked ≡ []
  pub at_resume : IsAtResume v.share.doing.phase

-- It runs again and may take the lock back, in the mode in which that was left; by which cause its sleep ended is still
-- to be noted
pub record IsToTakeBack (floor : Description) (d : ChanNo) (cause : Cause) (v : Knowledge) : Type 0
  where
    pub left : left_in (config_in floor) v.share.log v.thread (lock_of floor d.0) ≢ NotHeld
    pub may : (mode : Mode)
        → left_in (config_in floor) v.share.log v.thread (lock_of floor d.0) ≡ Holds mode
        → MayRetake floor (lock_of floor d.0) mode v
    pub begun : (k : ℕ) → k ≢ lock_of floor d.0 → hold_in v.share.held k ≢ NotHeld
        → is_among k v.share.begun ≡ true
    pub room : 1 ≤ v.spare
    pub to_note : IsToNote cause d.0 v

-- so at each place
abbrev pub IsWaiting : Description → ChanNo → WaitAt → Knowledge → Type 0
IsWaiting floor d ComesTo v = IsAtRest floor v × MayWait floor d.0 v
IsWaiting floor d ComesIn v = IsComingIn floor d v
IsWaiting floor d Parks v = HasReleased floor d (kept_of v) × MayCountOut floor v
IsWaiting floor d (Halts there) v = HasReleased floor d (kept_of v) × IsAt floor there v
IsWaiting floor d Sleeps v = HasReleased floor d (kept_of v) × IsParked v
IsWaiting floor d (Notes aborted) v = IsBack floor d (cause_of aborted) v

-- and where its caller is to do that next
abbrev pub IsThen : Description → ChanNo → WaitNext → Knowledge → Type 0
IsThen floor d Done v = IsAtRest floor v
IsThen floor d Halted v = IsAtRest floor v
IsThen floor d (Again to) v = IsWaiting floor d to v
IsThen floor d Sleep v = IsWaiting floor d Sleeps v
IsThen floor d (Wake t to) v = IsWaiting floor d to v
IsThen floor d Release v = IsToRelease floor d v
IsThen floor d (TakeBack aborted) v = IsToTakeBack floor d (cause_of aborted) v

-- 2. What each part does

-- It takes the channel's chain, and then its own record, says that it is queued, notes that it sleeps, stands on the
-- queue by the next step, and gives both back. Behind the release of the lock it counts itself out: where that left
-- nobody awake it halts others, part by part. Once it was woken it runs again; and behind the taking back it notes how
-- its sleep ended. Or it found out what it needs, or that it is queued still
pub data WaitPart (floor : Description) (d : ChanNo) : WaitAt → WaitNext → Knowledge → Knowledge
    → Type 0 where
  takes_chain : {old new : Knowledge}
      → Takes floor (its_chain floor (chan_queue d.0)) (chain_place floor (chan_queue d.0)) old new
      → WaitPart floor d ComesTo (Again ComesIn) old new
  misses_chain : {old new : Knowledge} → new ≡ seeing new.seen old
      → FindsOut floor (its_chain floor (chan_queue d.0)) old new
      → WaitPart floor d ComesTo (Again ComesTo) old new
  lies_down : {old mid new : Knowledge} → Takes floor (RecordOf old.thread) old.thread old mid
      → LiesThere floor d mid new → WaitPart floor d ComesIn Release old new
  misses_record : {old new : Knowledge} → new ≡ seeing new.seen old
      → FindsOut floor (RecordOf old.thread) old new
      → WaitPart floor d ComesIn (Again ComesIn) old new
  leaves_some : {old new : Knowledge} → Makes floor (CountsOut old.thread ∷ []) old new
      → kept_of new ≡ kept_of old → new.share.doing.phase ≡ Asleep
      → WaitPart floor d Parks Sleep old new
  is_last : {old new : Knowledge} → Makes floor (CountsOut old.thread ∷ []) old new
      → kept_of new ≡ kept_of old → new.share.doing.phase ≡ Last
      → WaitPart floor d Parks (Again (Halts halts.Finds)) old new
  halts_on : {old new : Knowledge} (there to : HaltAt) → HaltsOn floor there to old new
      → WakesNoOther old new → WaitPart floor d (Halts there) (Again (Halts to)) old new
  halts_one : {old new : Knowledge} (there to : HaltAt) (t : ThreadNo)
      → t.0 < length floor.threads → HaltsOn floor there to old new → WakesOther t.0 old new
      → WaitPart floor d (Halts there) (Wake t (Halts to)) old new
  has_halted : {old new : Knowledge} (there : HaltAt) → EndsHalting floor there old new
      → WaitPart floor d (Halts there) Sleep old new
  is_queued : {old new : Knowledge} → new ≡ seeing new.seen old → FindsQueued floor old new
      → WaitPart floor d Sleeps Sleep old new
  runs_again : {old new : Knowledge} (aborted : Bool)
      → RunsAgain floor (cause_of aborted) old new
      → WaitPart floor d Sleeps (TakeBack aborted) old new
  woke : {old new : Knowledge} → NotesEnd floor d BySignal old new
      → WaitPart floor d (Notes false) Done old new
  was_halted : {old new : Knowledge} → NotesEnd floor d ByAbort old new
      → WaitPart floor d (Notes true) Halted old new
