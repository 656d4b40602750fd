-- How a lock is given up and taken back within a wait, without an entry: what each asks of the thread and leaves of it.
use Rattle.std.specs.Prelude.{◌≡◌, ◌≢◌, ◌⊎◌, ℕ, ◌<◌, true, false, List, [], ◌∷◌, ◌++◌, length, None, Some}
use Rattle.lock_model.specs.History.{open_in}
use Rattle.lock_model.specs.Holds.{NotHeld}
use Rattle.lock_model.specs.Operations.{hold_in, without_lock}
use Rattle.lock_model.specs.Queues.{chan_queue}
use Rattle.lock_model.specs.declared.event.Held.{Held}
use Rattle.lock_model.specs.declared.numbers.LockNo.{LockNo}
use Rattle.lock_model.specs.declared.plan.Kind.TheVariants.{Mtx}
use Rattle.lock_model.specs.declared.plan.Mode.{Mode}
use Rattle.lock_model.specs.declared.plan.Mode.TheVariants.{Excl}
use Rattle.lock_state.specs.State.{NoWalk, SleepHalted}
use Rattle.lock_state.specs.Steps.LockWords.{is_taking_back, round_of}
use Rattle.floor_table.specs.Descriptions.{config_in}
use Rattle.floor_table.specs.Shares.{is_among}
use Rattle.floor_table.specs.Views.{Knowledge, Runs, StandsOn}
use Rattle.floor_table.specs.declared.description.Description.{Description}
use Rattle.lock_floor.specs.Passes.{IsGoing}

-- 1. What both ask and leave

-- nothing out, no walk, nobody to mark or counted in, and it goes on
pub record IsUnburdened (v : Knowledge) : Type 0 where
  pub nothing_out : v.out ≡ []
  pub no_walk : v.share.doing.walk ≡ NoWalk
  pub unmarked : v.share.doing.marked ≡ []
  pub uncounted : v.share.doing.counting ≡ None
  pub going : IsGoing v

-- the log, what is to be noted, the room for entries and the thread stay
pub record KeepsLog (old new : Knowledge) : Type 0 where
  pub role : new.role ≡ old.role
  pub thread : new.thread ≡ old.thread
  pub log : new.share.log ≡ old.share.log
  pub spare : new.spare ≡ old.spare
  pub noted : new.share.doing.noted ≡ old.share.doing.noted
  pub woken_from : new.share.doing.woken_from ≡ old.share.doing.woken_from

-- 2. A release

-- the thread runs, or stands on a channel's queue, or was woken off that
abbrev pub MayGiveUp : Knowledge → Type 0
MayGiveUp v = (v.pose ≡ Runs) ⊎ ((d : ℕ) × (v.pose ≡ StandsOn (chan_queue d)))

-- the thread may release the lock, which it gained last; its section began since, and has ended
pub record MayRelease (floor : Description) (l : ℕ) (v : Knowledge) : Type 0 where
  pub there : MayGiveUp v
  pub unburdened : IsUnburdened v
  pub takes : v.share.doing.taking ≡ None
  pub no_round : v.share.doing.round ≡ None
  pub before : List Held
  pub last : Held
  pub held : v.share.held ≡ before ++ last ∷ []
  pub lock : last.l.0 ≡ l
  pub closed : open_in (config_in floor) v.share.log v.thread l ≡ NotHeld
  pub begun : is_among l v.share.begun ≡ true

-- It doesn't hold the lock any more. Where it was, it knows itself to be; what it wants stays, and its looks
pub record GivesUp (l : ℕ) (old new : Knowledge) : Type 0 where
  pub keeps : KeepsLog old new
  pub unburdened : IsUnburdened new
  pub held : new.share.held ≡ without_lock l old.share.held
  pub begun : new.share.begun ≡ old.share.begun
  pub pose : new.pose ≡ old.pose
  pub wants : new.share.doing.wanted ≡ old.share.doing.wanted
  pub looks : new.share.doing.looks ≡ old.share.doing.looks
  pub takes : new.share.doing.taking ≡ None
  pub no_round : new.share.doing.round ≡ None

-- 3. A taking back

-- the thread's sleep on a channel was ended, by a signal or by an abort, which it has yet to note
abbrev pub WasEnded : Knowledge → Type 0
WasEnded v =
    (d : ℕ)
    × (((v.share.doing.woken_from ≡ Some d) × (v.share.doing.noted ≡ None))
    ⊎ (v.share.doing.noted ≡ Some (SleepHalted (chan_queue d))))

-- The thread runs and wants the lock, which it doesn't hold, as it does behind its resume from a channel: that began a
-- round of the lock, and what ended its sleep is still to be noted. The sections open in its log are of just the locks
-- that it holds
pub record MayRetake (floor : Description) (l : ℕ) (mode : Mode) (v : Knowledge) : Type 0 where
  pub runs : v.pose ≡ Runs
  pub unburdened : IsUnburdened v
  pub unheld : hold_in v.share.held l ≡ NotHeld
  pub few : length v.share.held < 8
  pub mutex : (config_in floor).kind l ≡ Mtx → mode ≡ Excl
  pub wants : v.share.doing.wanted ≡ Some l
  pub takes : v.share.doing.taking ≡ Some l
  pub round : v.share.doing.round ≡ Some (round_of l false)
  pub looks : v.share.doing.looks ≡ 0
  pub back : is_taking_back v.share.log ≡ true
  pub sections : (k : ℕ) → open_in (config_in floor) v.share.log v.thread k ≡ hold_in v.share.held k
  pub ended : WasEnded v

-- It holds the lock again, as one that was gained by a blocking call, which is still to be noted; it wants nothing, and
-- its looks are 0. Of the other locks those had a section since their gain that had one before
pub record TakesBack (l : LockNo) (mode : Mode) (old new : Knowledge) : Type 0 where
  pub keeps : KeepsLog old new
  pub unburdened : IsUnburdened new
  pub held : new.share.held ≡ old.share.held ++ record { l = l; mode = mode; by_try = false } ∷ []
  pub begun : (k : ℕ) → k ≢ l.0 → is_among k new.share.begun ≡ is_among k old.share.begun
  pub runs : new.pose ≡ Runs
  pub wants : new.share.doing.wanted ≡ None
  pub takes : new.share.doing.taking ≡ Some l.0
  pub looks : new.share.doing.looks ≡ 0
  pub no_round : new.share.doing.round ≡ None
