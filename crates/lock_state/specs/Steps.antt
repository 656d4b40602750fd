-- The steps of threads, one case and one record per kind. A step asks its guard, and its effect is computed. What
-- else is asked of it, on a running floor, of lock orders and of sleepers, stands in the record of its kind.
pub mod LockWords
pub mod Items
pub mod Exchanges
pub mod Turnstiles
pub mod SleepQueues
pub mod Lending
pub mod Orders
pub mod Counting
use Rattle.std.specs.Prelude.{◌≡◌, ◌⊎◌, ℕ, ◌%◌, Bool, true, false, List, [], ◌∷◌, ◌++◌, Option, Some, None, ⊤}
use Rattle.lock_model.specs.Config.{Config}
use Rattle.lock_model.specs.Events.{OfPrio, NoPrio, NewBase, ShowsPrios, OfSleep, NoSleep, FallsAsleep, WakesUp, IsHalted, IsHaltedAtLock, WakesOne, WakesAll, facets, sleeps_on}
use Rattle.lock_state.specs.State.{State, Walk, NoWalk, AtLock, AtThread, Round, SleepHalted, Phase, Awake, SelfAborted, is_parked, start_state}
use Rattle.lock_model.specs.Queues.{Cause, Mark, lock_queue}
use Rattle.lock_model.specs.Words.{is_turnstile}
use Rattle.lock_state.specs.Steps.LockWords.{AllHold, is_taking_back, MaySeek, MayLook, MayGain, MayDrop, MayStamp, MayReady, MayUnready, IsGainedLast, after_seek, after_look, after_gain, after_drop, after_stamp, after_ready, after_unready}
use Rattle.lock_state.specs.Steps.Turnstiles.{MayEnter, MayOpen, MayMark, MayResume, after_enter, after_open, after_mark, after_resume}
use Rattle.lock_state.specs.Steps.SleepQueues.{MayEnterSleep, MayOpenSleep, MayAdd, MayWake, MayAbort, after_enter_sleep, after_open_sleep, after_add, after_wake, after_abort}
use Rattle.lock_state.specs.Steps.Lending.{MayClaim, MayLend, MayShift, MayEndWalk, after_claim, after_lend, after_shift, after_end_walk}
use Rattle.lock_state.specs.Steps.Orders.{MayAdmit, MayRefuse, after_admit, after_refuse}
use Rattle.lock_state.specs.Steps.Counting.{MayCountOut, MayCountIn, MayCountSelfIn, MayCountEnd, MayHalt, after_count_out, after_count_in, after_count_self_in, after_count_end, after_halt}
use Rattle.lock_state.specs.Steps.Items.{Item, TurnstileChain, SleepChain, RecordOf, CellOf, ClassGraph, is_chain, IsOnItsWay, MayTake, MayGive, after_take, after_give}
use Rattle.lock_model.specs.declared.plan.Mode.{Mode}
use Rattle.lock_model.specs.declared.plan.Mode.TheVariants.{Excl}
use Rattle.lock_model.specs.declared.plan.Side.{Side}
use Rattle.lock_model.specs.declared.plan.QueueName.{QueueName}
use Rattle.lock_model.specs.declared.plan.QueueName.TheVariants.{Lock, Chan}
use Rattle.lock_model.specs.declared.event.Event.{Event}
use Rattle.lock_model.specs.declared.event.OfTable.{OfTable}
use Rattle.lock_model.specs.declared.event.OfTable.TheVariants.{NoTable, SetsTo, AddsTo, Reads}
pub use Rattle.lock_state.specs.Steps.Items.{chain_of, chain_of_queue, IsItem, HasItem}
pub use Rattle.lock_state.specs.Steps.Exchanges.{is_halting, IsHalting, is_with, seeks, is_unheld, is_first, counts_as_look, FitsRound, IsBusyTry, NotesInRound, ends_sleep, is_waking, EndsTakeOrWait, EndsTake, EndsItsTake, TakesNothing, IsNextEntry, IsFirstExchange, IsSecondExchange, MayHaveMissed, SeeksAnew, ChecksOutsideRounds, SawAdmitting, IsInRound, GainsFromLook, LooksInRound, SleepsOutsideRounds, EntersFromLook}

-- 1. Steps

-- a step, with the thread that makes it first
pub data Step : Type 0 where
  -- the lock that is sought in an acquiring round, and whether by a try
  Seeks : ℕ → ℕ → Bool → Step
  -- the lock, and whether it is one of those that count
  Looks : ℕ → ℕ → Bool → Step
  -- the item
  TakesItem : ℕ → Item → Step
  GivesItem : ℕ → Item → Step
  -- the lock and the mode, and whether by a try
  Gains : ℕ → ℕ → Mode → Bool → Step
  -- the lock and the mode
  Drops : ℕ → ℕ → Mode → Step
  -- the event
  Stamps : ℕ → Event → Step
  -- the own wait word, for a queue
  Readies : ℕ → QueueName → Step
  Unreadies : ℕ → QueueName → Step
  -- the lock, the mode and the own turnstile
  Enters : ℕ → ℕ → Mode → ℕ → Step
  -- the lock and the mode in which it was held
  Opens : ℕ → ℕ → Mode → Step
  -- the same of an sx lock, with the own sleep queue
  EntersSleepQueue : ℕ → ℕ → Mode → ℕ → Step
  OpensSleepQueue : ℕ → ℕ → Mode → Step
  -- the channel and the own sleep queue
  Adds : ℕ → ℕ → ℕ → Step
  -- the channel, and whether all sleepers are taken off
  Wakes : ℕ → ℕ → Bool → Step
  -- the first mark and the others
  Marks : ℕ → Mark → List Mark → Step
  -- the queue and the cause of the wake
  Resumes : ℕ → QueueName → Cause → Step
  -- the lock and the head of its turnstile, and whether by a try
  Claims : ℕ → ℕ → ℕ → Bool → Step
  -- the lock, the owner of its turnstile and the head
  Lends : ℕ → ℕ → ℕ → ℕ → Step
  -- the thread at which the walk is, and the lock for which it waits
  Shifts : ℕ → ℕ → ℕ → Step
  EndsWalk : ℕ → Step
  -- the lock of a blocking call
  Admits : ℕ → ℕ → Step
  -- the same, and the class of a held lock that forbids it
  Refuses : ℕ → ℕ → ℕ → Step
  -- its own counting out
  CountsOut : ℕ → Step
  -- the first of its marked list
  CountsIn : ℕ → ℕ → Step
  -- its own counting in
  CountsSelfIn : ℕ → Step
  -- its own end
  CountsEnd : ℕ → Step
  Halts : ℕ → Step
  -- the queue, the side and the sleeper
  Aborts : ℕ → QueueName → Side → ℕ → Step

-- 2. What a running floor asks beside. It has so many chains of each sort.

-- The thread must have out what the step works on: a chain, a record, or a cell of a table.

-- What each column of an entry needs out, as a list of facts.

-- an edit and a read need the cell
abbrev pub TableNeeds : State → ℕ → OfTable → List {1} (Type 0)
TableNeeds s t NoTable = []
TableNeeds s t (SetsTo l k v) = HasItem s t (CellOf l.0 k) ∷ []
TableNeeds s t (AddsTo l k n) = HasItem s t (CellOf l.0 k) ∷ []
TableNeeds s t (Reads l k found) = HasItem s t (CellOf l.0 k) ∷ []

-- Base and Shown need the own record
abbrev pub PrioNeeds : State → ℕ → OfPrio → List {1} (Type 0)
PrioNeeds s t NoPrio = []
PrioNeeds s t (NewBase p) = HasItem s t (RecordOf t) ∷ []
PrioNeeds s t (ShowsPrios b e) = HasItem s t (RecordOf t) ∷ []

-- a begin of sleep and a waking need the channel's chain
abbrev pub SleepNeeds : ℕ → State → ℕ → OfSleep → List {1} (Type 0)
SleepNeeds chains s t NoSleep = []
SleepNeeds chains s t (FallsAsleep d) = HasItem s t (SleepChain (d % chains)) ∷ []
SleepNeeds chains s t (WakesUp d) = []
SleepNeeds chains s t (IsHalted d) = []
SleepNeeds chains s t (IsHaltedAtLock l) = []
SleepNeeds chains s t (WakesOne d woken) = HasItem s t (SleepChain (d % chains)) ∷ []
SleepNeeds chains s t (WakesAll d woken) = HasItem s t (SleepChain (d % chains)) ∷ []

-- what each entry needs out
abbrev pub HasOutForEntry : ℕ → State → ℕ → Event → Type 0
HasOutForEntry chains s t e = AllHold
    (TableNeeds s t (facets e).table ++ PrioNeeds s t (facets e).prio
    ++ SleepNeeds chains s t (facets e).sleep)

-- what the end of a walk needs where it stands
abbrev pub HasOutForEnd : ℕ → Config → State → ℕ → Walk → Type 0
HasOutForEnd chains c s t NoWalk = ⊤
HasOutForEnd chains c s t (AtLock l) = HasItem s t (chain_of chains c l)
HasOutForEnd chains c s t (AtThread o) =
    HasItem s t (RecordOf o)
    × ((l : ℕ) → is_turnstile (c.kind l) ≡ true → s.blocked_on o ≡ Some (lock_queue l)
    → HasItem s t (chain_of chains c l))

-- in an acquiring round no other chain is taken than the lock's
abbrev pub IsOfRound : ℕ → Config → Option Round → Item → Type 0
IsOfRound chains c None i = ⊤
IsOfRound chains c (Some r) i = is_chain i ≡ true → i ≡ chain_of chains c r.lock

-- Where the thread is that makes the step.

-- the thread is awake: it is neither parked nor at halting others, and hasn't ended
pub record IsRunnable (s : State) (t : ℕ) : Type 0 where
  pub phase : s.phase t ≡ Awake
  pub unended : s.has_ended t ≡ false

-- what is taken out to halt sleepers: the chains in which they stand, and their records
abbrev pub is_for_halting : Item → Bool
is_for_halting (TurnstileChain k) = false
is_for_halting (SleepChain k) = true
is_for_halting (RecordOf u) = true
is_for_halting (CellOf l k) = false
is_for_halting ClassGraph = false

-- The thread has made what must follow its last step at once: the add behind its Sleeps entry, and the entry behind its
-- wake. No other step of the thread comes between these (this project's rule: so a channel's queue differs from what
-- the logs say only while its chain is out)
pub record OwesNoStep (s : State) (t : ℕ) : Type 0 where
  pub added : IsOnItsWay s t → ⊥
  pub stamped : s.unstamped t ≡ None

-- a thread that is awake and owes no other step
pub record GoesOn (s : State) (t : ℕ) : Type 0 where
  pub runs : IsRunnable s t
  pub owes : OwesNoStep s t

-- a thread that is awake, or one at halting others that takes out what it needs for that
pub record GoesOnTaking (s : State) (t : ℕ) (i : Item) : Type 0 where
  pub runs : IsRunnable s t ⊎ (IsHalting s t × (is_for_halting i ≡ true))
  pub owes : OwesNoStep s t

-- a thread that is awake, or one at halting others, counts in and wakes whom it took off a queue. So it looks at a
-- lock: at halting others at the one whose sleeper it aborts
pub record GoesOnOrHalts (s : State) (t : ℕ) : Type 0 where
  pub runs : IsRunnable s t ⊎ IsHalting s t
  pub owes : OwesNoStep s t

-- a thread that isn't parked, also one that has ended or is at halting others, gives back what it has out, and counts
-- itself out
pub record GivesBack (s : State) (t : ℕ) : Type 0 where
  pub unparked : is_parked (s.phase t) ≡ false
  pub owes : OwesNoStep s t

-- a thread that is awake, and not between its Sleeps entry and its add, makes an entry
pub record GoesOnNoting (s : State) (t : ℕ) : Type 0 where
  pub runs : IsRunnable s t
  pub added : IsOnItsWay s t → ⊥

-- a thread at halting others sets the halt word, and aborts
pub record HaltsOthers (s : State) (t : ℕ) : Type 0 where
  pub halting : IsHalting s t
  pub owes : OwesNoStep s t

-- 3. What each step asks once lock orders are checked, in the scheduled run and on a floor: a take is admitted before
-- its lock is sought. But a thread that holds nothing can't be refused, and teaches no edge: it may gain a lock by its
-- first exchange before it takes the class graph.

-- the thread's take needs no admission: it holds nothing, has nothing to note, and isn't in a wait
pub record NeedsNoAdmission (s : State) (t : ℕ) : Type 0 where
  pub bare : s.held_locks t ≡ []
  pub unnoted : s.noted t ≡ None
  pub awake : is_taking_back (s.log t) ≡ false

-- a blocking call is of the lock that the thread wants, or needs no admission
abbrev pub IsTakenInOrder : State → ℕ → ℕ → Bool → Type 0
IsTakenInOrder s t l by_try =
    by_try ≡ false → (s.wanted t ≡ Some l) ⊎ NeedsNoAdmission s t

-- the round under way is a try's, or of the lock that the thread wants
abbrev pub IsRoundOfWanted : State → ℕ → Type 0
IsRoundOfWanted s t = (r : Round) → s.round t ≡ Some r → r.by_try ≡ false → s.wanted t ≡ Some r.lock

-- a look at the lock that is being taken is in its round, and one that counts in a blocking call's round is at the lock
-- that the thread wants: who needs no admission gains at once, or asks for one
pub record LooksInOrder (s : State) (t l : ℕ) (counts : Bool) : Type 0 where
  pub taken : s.taking t ≡ Some l → seeks l (s.round t) ≡ true
  pub wants : counts ≡ true → IsRoundOfWanted s t

-- a blocking call gains such a lock, and a thread that takes a lock gains no other; nor does one gain a lock that has
-- the halt of a take to note
pub record GainsInOrder (s : State) (t l : ℕ) (by_try : Bool) : Type 0 where
  pub wants : IsTakenInOrder s t l by_try
  pub takes : (k : ℕ) → s.taking t ≡ Some k → k ≡ l
  pub unhalted : (k : ℕ) → s.noted t ≡ Some (SleepHalted (lock_queue k)) → ⊥

-- who sleeps on a channel takes nothing, and gained the lock of its wait last, by a blocking call
pub record SleepsInOrder (c : Config) (s : State) (t d : ℕ) : Type 0 where
  pub takes : TakesNothing s t
  pub last : IsGainedLast s t (c.chan_lock d) false

-- a thread that was woken from a channel is in a wait
abbrev pub IsBackFrom : State → ℕ → QueueName → Type 0
IsBackFrom s t (Lock l) = ⊤
IsBackFrom s t (Chan d) = is_taking_back (s.log t) ≡ true

-- who is added to a channel's queue is at work on the channel, and has no wake and no halt to note
pub record AddsAtWork (at_work : ℕ → Option ℕ) (s : State) (t d : ℕ) : Type 0 where
  pub works : at_work d ≡ Some t
  pub stamped : s.unstamped t ≡ None
  pub unnoted : s.noted t ≡ None

-- 4. What each step asks once threads are counted, on a running floor

-- a thread wakes whom it has counted in, or itself
abbrev pub IsCountedIn : State → ℕ → ℕ → Type 0
IsCountedIn s t u = (s.counting t ≡ Some u) ⊎ (t ≡ u)

-- a thread resumes where it is parked, or aborted itself
abbrev pub IsAtResume : Phase → Type 0
IsAtResume phase = (is_parked phase ≡ true) ⊎ (phase ≡ SelfAborted)

-- the record of a thread that was counted in stays out until that one is woken
abbrev pub KeepsCountedOut : State → ℕ → Item → Type 0
KeepsCountedOut s t i = (u : ℕ) → i ≡ RecordOf u → s.counting t ≡ Some u → ⊥

-- 5. What each kind of step is

pub record KindOfStep : Type 1 where
  -- who makes it
  pub thread : ℕ
  -- what it asks of the state
  pub may : Config → State → Type 0
  -- what it makes of the state
  pub after : Config → State → State
  -- what its thread must have out on a running floor, which has so many chains of each sort. A thread is made ready
  -- under the chain of the queue that it goes to, and resumes with nothing out
  pub has_out : ℕ → Config → State → Type 0
  -- What the thread must have seen there, and in which round it acts. Where a look in the lock's chain saw a word
  -- that doesn't admit, the thread enters and does not gain, until it looks again. Outside a round a thread makes one
  -- exchange, of a try or of a blocking call where it holds nothing. It sleeps on a channel outside its rounds, where
  -- it has no wake to note. The order of locks is checked outside a thread's rounds.
  pub has_seen : ℕ → Config → State → Type 0
  -- What it asks of its thread there: that it is awake, hasn't ended, and owes no other step; or else where the thread
  -- is, where it has ended, is at halting others or is parked
  pub asks_of_thread : State → Type 0
  -- How it keeps to the order that was admitted. A blocking call seeks the lock that it wants, or one that it gains
  -- at once while it holds nothing; it looks at the lock that it takes in its round alone; an enter is of the wanted
  -- lock; a release isn't of a thread that takes; and the next entry of one that takes ends its take.
  pub keeps_order : Config → State → Type 0
  -- How it keeps the count of those that are awake: whom it wakes was counted in, and a thread resumes from where it
  -- was parked
  pub keeps_count : State → Type 0
  -- whether by it the thread gains the lock, or comes to stand on its queue
  pub ends_round : ℕ → ℕ → Type 0
  -- What it asks of sleepers, given who is at work on each channel. A Sleeps entry, an add and a wake are by the
  -- thread that is at work on the channel. A thread on its way to a channel neither enters a lock's queue nor runs
  -- again.
  pub asks_of_sleepers : (ℕ → Option ℕ) → State → Type 0

-- a kind that asks nothing beside but that its thread is awake and owes no other step, and that ends no round
abbrev pub plain : ℕ → (Config → State → Type 0) → (Config → State → State) → KindOfStep
plain t may after = record {
  thread = t;
  may = may;
  after = after;
  has_out = λ chains c s. ⊤;
  has_seen = λ chains c s. ⊤;
  asks_of_thread = λ s. GoesOn s t;
  keeps_order = λ c s. ⊤;
  keeps_count = λ s. ⊤;
  ends_round = λ u k. ⊥;
  asks_of_sleepers = λ at_work s. ⊤;
}

-- the kind of each step
abbrev pub kind_of : Step → KindOfStep
kind_of (Seeks t l by_try) =
    record (plain t (λ c s. MaySeek c s t l by_try) (λ c s. after_seek s t l by_try)) {
      has_out = λ chains c s. HasItem s t (chain_of chains c l) → ⊥;
      has_seen = λ chains c s. SeeksAnew s t l by_try;
      keeps_order = λ c s. IsTakenInOrder s t l by_try;
    }
kind_of (Looks t l counts) =
    record (plain t (λ c s. MayLook c s t l counts) (λ c s. after_look s t l counts)) {
      has_seen = λ chains c s. LooksInRound chains c s t l counts;
      asks_of_thread = λ s. GoesOnOrHalts s t;
      keeps_order = λ c s. LooksInOrder s t l counts;
    }
kind_of (TakesItem t i) = record (plain t (λ c s. MayTake c s t i) (λ c s. after_take s t i)) {
  has_out = λ chains c s. IsItem chains c i × IsOfRound chains c (s.round t) i;
  asks_of_thread = λ s. GoesOnTaking s t i;
  keeps_order = λ c s. is_chain i ≡ true → IsRoundOfWanted s t;
}
kind_of (GivesItem t i) = record (plain t (λ c s. MayGive c s t i) (λ c s. after_give s t i)) {
  has_out = λ chains c s. HasItem s t i;
  asks_of_thread = λ s. GivesBack s t;
  keeps_count = λ s. KeepsCountedOut s t i;
}
kind_of (Gains t l mode by_try) =
    record (plain t (λ c s. MayGain c s t l mode) (λ c s. after_gain s t l mode by_try)) {
      has_seen = λ chains c s. GainsFromLook chains c s t l mode by_try;
      keeps_order = λ c s. GainsInOrder s t l by_try;
      ends_round = λ u k. (t ≡ u) × (l ≡ k);
    }
kind_of (Drops t l mode) =
    record (plain t (λ c s. MayDrop c s t l mode) (λ c s. after_drop s t l)) {
      keeps_order = λ c s. TakesNothing s t;
    }
kind_of (Stamps t e) = record (plain t (λ c s. MayStamp c s t e) (λ c s. after_stamp c s t e)) {
  has_out = λ chains c s. HasOutForEntry chains s t e;
  has_seen = λ chains c s. IsNextEntry c s t e;
  asks_of_thread = λ s. GoesOnNoting s t;
  keeps_order = λ c s. EndsItsTake c s t e;
  asks_of_sleepers = λ at_work s. (d : ℕ) → sleeps_on e d ≡ true → at_work d ≡ Some t;
}
kind_of (Readies t q) = record (plain t (λ c s. MayReady c s t) (λ c s. after_ready s t)) {
  has_out = λ chains c s. HasItem s t (chain_of_queue chains c q) × HasItem s t (RecordOf t);
}
kind_of (Unreadies t q) = record (plain t (λ c s. MayUnready c s t) (λ c s. after_unready s t)) {
  has_out = λ chains c s. HasItem s t (chain_of_queue chains c q) × HasItem s t (RecordOf t);
  asks_of_sleepers = λ at_work s. IsOnItsWay s t → ⊥;
}
kind_of (Enters t l mode x) =
    record (plain t (λ c s. MayEnter c s t l mode x) (λ c s. after_enter s t l mode x)) {
      has_out = λ chains c s. HasItem s t (chain_of chains c l) × HasItem s t (RecordOf t);
      has_seen = λ chains c s. EntersFromLook s t l;
      keeps_order = λ c s. s.wanted t ≡ Some l;
      ends_round = λ u k. (t ≡ u) × (l ≡ k);
      asks_of_sleepers = λ at_work s. IsOnItsWay s t → ⊥;
    }
kind_of (Opens t l mode) =
    record (plain t (λ c s. MayOpen c s t l mode) (λ c s. after_open c s t l)) {
      has_out = λ chains c s. HasItem s t (chain_of chains c l) × HasItem s t (RecordOf t);
      keeps_order = λ c s. TakesNothing s t;
    }
kind_of (EntersSleepQueue t l mode x) =
    record (plain t (λ c s. MayEnterSleep c s t l mode x) (λ c s. after_enter_sleep s t l mode x)) {
      has_out = λ chains c s. HasItem s t (chain_of chains c l) × HasItem s t (RecordOf t);
      has_seen = λ chains c s. EntersFromLook s t l;
      keeps_order = λ c s. s.wanted t ≡ Some l;
      ends_round = λ u k. (t ≡ u) × (l ≡ k);
      asks_of_sleepers = λ at_work s. IsOnItsWay s t → ⊥;
    }
kind_of (OpensSleepQueue t l mode) =
    record (plain t (λ c s. MayOpenSleep c s t l mode) (λ c s. after_open_sleep c s t l)) {
      has_out = λ chains c s. HasItem s t (chain_of chains c l) × HasItem s t (RecordOf t);
      keeps_order = λ c s. TakesNothing s t;
    }
kind_of (Adds t d x) = record (plain t (λ c s. MayAdd c s t d x) (λ c s. after_add s t d x)) {
  has_out = λ chains c s. HasItem s t (SleepChain (d % chains)) × HasItem s t (RecordOf t);
  has_seen = λ chains c s. SleepsOutsideRounds s t;
  asks_of_thread = λ s. IsRunnable s t;
  keeps_order = λ c s. SleepsInOrder c s t d;
  asks_of_sleepers = λ at_work s. AddsAtWork at_work s t d;
}
kind_of (Wakes t d all) =
    record (plain t (λ c s. MayWake c s t d all) (λ c s. after_wake s t d all)) {
      has_out = λ chains c s. HasItem s t (SleepChain (d % chains));
      asks_of_sleepers = λ at_work s. at_work d ≡ Some t;
    }
kind_of (Marks t m ms) =
    record (plain t (λ c s. MayMark c s t m ms) (λ c s. after_mark c s t m ms)) {
      has_out = λ chains c s. HasItem s t (RecordOf m.thread);
      asks_of_thread = λ s. GoesOnOrHalts s t;
      keeps_count = λ s. IsCountedIn s t m.thread;
    }
kind_of (Resumes t q cause) =
    record (plain t (λ c s. MayResume c s t q cause) (λ c s. after_resume c s t q cause)) {
      has_out = λ chains c s. ((i : Item) → HasItem s t i → ⊥) × (s.walk t ≡ NoWalk);
      asks_of_thread = λ s. OwesNoStep s t;
      keeps_order = λ c s. IsBackFrom s t q;
      keeps_count = λ s. IsAtResume (s.phase t);
    }
kind_of (Claims t l h by_try) =
    record (plain t (λ c s. MayClaim c s t l h) (λ c s. after_claim c s t l h by_try)) {
      has_out = λ chains c s. HasItem s t (chain_of chains c l) × HasItem s t (RecordOf t);
      has_seen = λ chains c s. GainsFromLook chains c s t l Excl by_try;
      keeps_order = λ c s. GainsInOrder s t l by_try;
      ends_round = λ u k. (t ≡ u) × (l ≡ k);
    }
kind_of (Lends t l o h) =
    record (plain t (λ c s. MayLend c s t l o h) (λ c s. after_lend c s t l o h)) {
      has_out = λ chains c s. HasItem s t (chain_of chains c l) × HasItem s t (RecordOf o);
    }
kind_of (Shifts t o l) = record (plain t (λ c s. MayShift c s t o l) (λ c s. after_shift s t o l)) {
  has_out = λ chains c s. HasItem s t (chain_of chains c l) × HasItem s t (RecordOf o);
}
kind_of (EndsWalk t) = record (plain t (λ c s. MayEndWalk c s t) (λ c s. after_end_walk s t)) {
  has_out = λ chains c s. HasOutForEnd chains c s t (s.walk t);
}
kind_of (Admits t l) = record (plain t (λ c s. MayAdmit c s t l) (λ c s. after_admit c s t l)) {
  has_out = λ chains c s. HasItem s t ClassGraph;
  has_seen = λ chains c s. ChecksOutsideRounds s t l;
}
kind_of (Refuses t l k) =
    record (plain t (λ c s. MayRefuse c s t l k) (λ c s. after_refuse s t l k)) {
      has_out = λ chains c s. HasItem s t ClassGraph;
      has_seen = λ chains c s. ChecksOutsideRounds s t l;
    }
kind_of (CountsOut t) =
    record (plain t (λ c s. MayCountOut c s t) (λ c s. after_count_out s t)) {
      has_out = λ chains c s. (i : Item) → HasItem s t i → ⊥;
      asks_of_thread = λ s. GivesBack s t;
    }
kind_of (CountsIn t u) =
    record (plain t (λ c s. MayCountIn c s t u) (λ c s. after_count_in s t u)) {
      has_out = λ chains c s. HasItem s t (RecordOf u);
      asks_of_thread = λ s. GoesOnOrHalts s t;
    }
kind_of (CountsSelfIn t) =
    record (plain t (λ c s. MayCountSelfIn c s t) (λ c s. after_count_self_in s t)) {
      asks_of_thread = λ s. OwesNoStep s t;
    }
kind_of (CountsEnd t) =
    record (plain t (λ c s. MayCountEnd c s t) (λ c s. after_count_end s t)) {
      has_out = λ chains c s. HasItem s t (RecordOf t);
    }
kind_of (Halts t) = record (plain t (λ c s. MayHalt c s t) (λ c s. after_halt s)) {
  asks_of_thread = λ s. HaltsOthers s t;
}
kind_of (Aborts t q side u) =
    record (plain t (λ c s. MayAbort c s t q side u) (λ c s. after_abort s t q side u)) {
      has_out = λ chains c s. HasItem s t (chain_of_queue chains c q);
      asks_of_thread = λ s. HaltsOthers s t;
    }

-- who makes a step
abbrev pub maker : Step → ℕ
maker step = (kind_of step).thread

-- what a step asks of the state
abbrev pub May : Config → State → Step → Type 0
May c s step = (kind_of step).may c s

-- what a step makes of the state
abbrev pub after : Config → State → Step → State
after c s step = (kind_of step).after c s

-- what its thread must have out on a running floor
abbrev pub HasOut : ℕ → Config → State → Step → Type 0
HasOut chains c s step = (kind_of step).has_out chains c s

-- what it must have seen there
abbrev pub HasSeen : ℕ → Config → State → Step → Type 0
HasSeen chains c s step = (kind_of step).has_seen chains c s

-- what a running floor asks of the thread itself
abbrev pub AsksOfThread : State → Step → Type 0
AsksOfThread s step = (kind_of step).asks_of_thread s

-- a step keeps to the order that was admitted
abbrev pub KeepsToOrder : Config → State → Step → Type 0
KeepsToOrder c s step = (kind_of step).keeps_order c s

-- a step keeps the count of those that are awake
abbrev pub KeepsCount : State → Step → Type 0
KeepsCount s step = (kind_of step).keeps_count s

-- by the step the thread gains the lock, or comes to stand on its queue
abbrev pub EndsRound : Step → ℕ → ℕ → Type 0
EndsRound step t l = (kind_of step).ends_round t l

-- what a step asks of sleepers
abbrev pub AsksOfSleepers : (ℕ → Option ℕ) → State → Step → Type 0
AsksOfSleepers at_work s step = (kind_of step).asks_of_sleepers at_work s

-- 6. Steps that are made

-- n comes from s by one step
abbrev pub IsStep : Config → State → State → Type 0
IsStep c s n = (step : Step) × May c s step × (n ≡ after c s step)

-- the states that steps reach from the start
pub data IsReachable (c : Config) : State → Type 0 where
  begins : IsReachable c (start_state c)
  goes_on : {s n : State} → IsReachable c s → IsStep c s n → IsReachable c n

-- the state after the steps of a list, made in order
abbrev pub after_all : Config → State → List Step → State
after_all c s [] = s
after_all c s (step ∷ steps) = after_all c (after c s step) steps

-- each step of a list is so where it comes
abbrev pub EachStep : (State → Step → Type 0) → Config → State → List Step → Type 0
EachStep P c s [] = ⊤
EachStep P c s (step ∷ steps) = P s step × EachStep P c (after c s step) steps

-- each step of a list may be made where it comes
abbrev pub MayAll : Config → State → List Step → Type 0
MayAll c s steps = EachStep (May c) c s steps

-- each step of a list keeps to the order where it comes
abbrev pub KeepToOrder : Config → State → List Step → Type 0
KeepToOrder c s steps = EachStep (KeepsToOrder c) c s steps

-- what is asked of a step that a thread of a running floor makes
pub record FitsFloor (chains : ℕ) (c : Config) (s : State) (step : Step) : Type 0 where
  -- its guard
  pub may : May c s step
  -- what its thread has out
  pub has_out : HasOut chains c s step
  -- what its thread has seen, and its round
  pub has_seen : HasSeen chains c s step
  -- that its thread may make a step now
  pub asks_of_thread : AsksOfThread s step

-- n comes from s by one step of a thread of a running floor
abbrev pub IsFloorStep : ℕ → Config → State → State → Type 0
IsFloorStep chains c s n = (step : Step) × FitsFloor chains c s step × (n ≡ after c s step)
