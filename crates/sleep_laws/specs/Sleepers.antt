-- Sleepers: the channels' queues fit the entries of the history, and each waking takes whom it may. At most one thread
-- is at work on a channel: between its Sleeps entry and its place on the queue, or between a wake and its entry.
use Rattle.std.specs.Prelude.{◌≡◌, ◌≢◌, ◌⊎◌, ℕ, ◌%◌, ◌≤◌, List, [], ◌∷◌, Option, Some, None, ⊤}
use Rattle.lock_model.specs.Config.{Config}
use Rattle.lock_model.specs.Law.{WakingsNameSleepers}
use Rattle.lock_model.specs.Queues.{chan_queue, stands}
use Rattle.lock_state.specs.State.{State, Wake}
use Rattle.lock_state.specs.Steps.{Step, Halts, EachStep, AsksOfSleepers}
use Rattle.lock_state.specs.Facts.Waits.{times_marked}
unfoldable pub use Rattle.lock_state.specs.Facts.Sleeps.{
  NamedAreWoken,
  MarksAreSignals,
  WokenBySignal,
  NoSleepIsHalted,
  AbortedSleep,
  SleepersSlept,
  WokenSlept,
  ResumedSlept,
  SleepersWantNothing,
  SleepersAreUnwoken,
  SleepersAreUnhalted,
  AsleepStandThere,
  AsleepAreOnTheirWay,
  SleepersInOrder,
  LatecomersAreLater,
  SleepersKeepBase,
  SleepersAreExclusive,
  UnnotedAreMarked,
  UnnotedIsAtWork,
  UnnotedIsFair,
  PassedOverAreAborted,
}
use Rattle.lock_state.specs.Facts.Sleeps.{aborted}

-- who is at work on each channel of a running floor: the thread that has its chain out
abbrev pub by_chain : ℕ → State → ℕ → Option ℕ
by_chain chains s d = s.sleep_chain_with (d % chains)

-- in a turn of a scheduled run the thread that has the turn is, on all channels,
abbrev pub by_turn : ℕ → ℕ → Option ℕ
by_turn t d = Some t

-- and between two turns nobody is
abbrev pub nobody : ℕ → Option ℕ
nobody d = None

-- how often each thread was aborted off a channel, and has yet to note that
abbrev pub off : Config → State → ℕ → ℕ
off c s = aborted c s.marked s.wait s.noted

-- 1. The facts

-- a state in which the facts of sleepers hold
pub record SleepersFit (at_work : ℕ → Option ℕ) (c : Config) (s : State) : Type 0 where
  -- who was named, and how wakes come
  pub named_are_woken : NamedAreWoken c s.history s.marked s.unstamped s.wait s.woken_from
  -- who was aborted: until the halt word is set nobody
  pub aborted_sleep : AbortedSleep s.history (off c s) s.log
  pub marks_are_signals : MarksAreSignals s.halted s.marked
  pub woken_by_signal : WokenBySignal s.halted s.wait
  pub no_sleep_is_halted : NoSleepIsHalted s.halted s.noted
  -- who stands, or was woken
  pub sleepers_slept : SleepersSlept s.blocked_on s.log
  pub woken_slept : WokenSlept s.wait s.log
  pub resumed_slept : ResumedSlept s.woken_from s.log
  pub sleepers_want_nothing : SleepersWantNothing s.blocked_on s.wanted
  pub sleepers_are_unwoken : SleepersAreUnwoken s.blocked_on s.woken_from
  pub sleepers_are_unhalted : SleepersAreUnhalted s.blocked_on s.noted
  -- who sleeps, and wasn't aborted
  pub asleep_stand_there : AsleepStandThere s.history s.blocked_on (off c s)
  pub asleep_are_on_their_way :
      AsleepAreOnTheirWay s.history s.blocked_on (off c s) s.wait s.wanted at_work
  -- the order of the queues
  pub sleepers_in_order : SleepersInOrder s.history s.lists
  pub latecomers_are_later : LatecomersAreLater s.history s.blocked_on (off c s) s.lists
  -- what the queues keep
  pub sleepers_keep_base : SleepersKeepBase s.base s.lists
  pub sleepers_are_exclusive : SleepersAreExclusive s.lists
  -- wakes that are not noted yet
  pub unnoted_are_marked : UnnotedAreMarked s.unstamped s.marked
  pub unnoted_is_at_work : UnnotedIsAtWork s.unstamped at_work
  pub unnoted_is_fair : UnnotedIsFair c s.history s.unstamped s.lists
  -- the law of the history
  pub wakings_name_sleepers : WakingsNameSleepers c s.history
  pub passed_over_are_aborted : PassedOverAreAborted c s.history (off c s)

-- a thread that is at work on a channel took another off it, and has yet to note that
pub record WasTakenBy (at_work : ℕ → Option ℕ) (s : State) (t d v : ℕ) : Type 0 where
  pub works : at_work d ≡ Some v
  pub marked : 1 ≤ times_marked t (chan_queue d) (s.marked v)
  pub wake : Wake
  pub unnoted : s.unstamped v ≡ Some wake

-- a thread stands on a channel's queue, or is at work on the channel, or was taken off by a thread that is
abbrev pub IsWithChannel : (ℕ → Option ℕ) → State → ℕ → ℕ → Type 0
IsWithChannel at_work s t d =
    (1 ≤ stands t (s.lists (chan_queue d)))
    ⊎ ((at_work d ≡ Some t) ⊎ ((v : ℕ) × WasTakenBy at_work s t d v))

-- the thread was aborted off a channel, and has yet to note that
abbrev pub WasAborted : Config → State → ℕ → Type 0
WasAborted c s t = 1 ≤ off c s t

-- 2. What a step asks of sleepers, beside what it asks of the state, so that it keeps these facts

-- the step doesn't set the halt word, and none of a list does
abbrev pub IsNoHalt : Step → Type 0
IsNoHalt step = (t : ℕ) → step ≢ Halts t

abbrev pub HaltNobody : List Step → Type 0
HaltNobody [] = ⊤
HaltNobody (step ∷ steps) = IsNoHalt step × HaltNobody steps

-- what each step of a list asks where it comes
abbrev pub AsksOfSleepersAll : (ℕ → Option ℕ) → Config → State → List Step → Type 0
AsksOfSleepersAll at_work c s steps = EachStep (AsksOfSleepers at_work) c s steps
