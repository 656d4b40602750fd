-- Steps of one thread on lock words, tickets and its own wait word: what each asks of the state (May..), and what it
-- makes of it (after_..). Only the named columns change.
use Rattle.std.specs.Prelude.{◌≡◌, ◌≢◌, ◌⊎◌, ℕ, suc, ◌+◌, ◌^◌, ◌<◌, Bool, true, false, ◌==◌, if◌then◌else◌, List, [], ◌∷◌, Option, Some, None, ⊤, is_some, ◌++◌}
use Rattle.lock_model.specs.Counts.{least}
use Rattle.lock_model.specs.Words.{Word, word_of, admits, is_plain, gained, dropped, is_drop}
use Rattle.lock_model.specs.History.{added, open_in, left_in}
use Rattle.lock_model.specs.Config.{Config}
use Rattle.lock_model.specs.Queues.{lock_queue, chan_queue}
pub use Rattle.lock_model.specs.Events.{is_of_section}
use Rattle.lock_model.specs.Events.{OfEnd, NoEnd, EndsTakeOf, EndsWaitOn, OfSection, NoSection, BeginsIn, EndsFrom, LeftFor, TakenBack, OfPrio, NoPrio, NewBase, ShowsPrios, OfTake, NoTake, GainedBy, FoundBusy, HaltedFor, RefusedBy, OfSleep, NoSleep, FallsAsleep, WakesUp, IsHalted, IsHaltedAtLock, WakesOne, WakesAll, facets, new_base, of_sleep, is_falling, is_waking_of}
use Rattle.lock_state.specs.State.{State, Wait, Running, Queued, Woken, OrderRefused, SleepHalted, Loan, Wake, Round, HeldLock, put, put_at}
use Rattle.lock_model.specs.Holds.{Hold, NotHeld, Holds}
use Rattle.lock_model.specs.declared.plan.Kind.TheVariants.{Mtx}
use Rattle.lock_model.specs.declared.plan.Mode.{Mode}
use Rattle.lock_model.specs.declared.plan.Mode.TheVariants.{Excl}
use Rattle.lock_model.specs.declared.event.Event.{Event}
use Rattle.lock_model.specs.declared.event.OfTable.{OfTable}
use Rattle.lock_model.specs.declared.event.OfTable.TheVariants.{NoTable, SetsTo, AddsTo, Reads}
use Rattle.lock_model.specs.declared.event.Entry.{Entry}

-- whether a wait word says Woken
abbrev pub is_woken : Wait → Bool
is_woken Running = false
is_woken Queued = false
is_woken (Woken q cause) = true

-- whether an event begins its thread's sleep on a channel
abbrev pub is_sleep : Event → Bool
is_sleep e = is_falling (of_sleep e)

-- whether a log's newest entry is a Sleeps entry: a thread that goes on behind it takes its lock back
abbrev pub is_taking_back : List Entry → Bool
is_taking_back [] = false
is_taking_back (e ∷ es) = is_sleep e.event

-- the thread is on no queue, in no marked list and not woken
pub record IsActing (s : State) (t : ℕ) : Type 0 where
  pub unnamed : s.blocked_on t ≡ None
  pub unwoken : is_woken (s.wait t) ≡ false

-- each held lock's section is open
abbrev pub AllOpen : Config → State → ℕ → Type 0
AllOpen c s t =
    (l : ℕ) (mode : Mode) → s.held t l ≡ Holds mode → open_in c s.history t l ≡ Holds mode

-- The section of each held lock but one is open. Of the others whoever waits for them can say who has an open section
-- there (this project's rule: a halt is explained by what the logs say)
abbrev pub OthersOpen : Config → State → ℕ → ℕ → Type 0
OthersOpen c s t l =
    (k : ℕ) (mode : Mode) → s.held t k ≡ Holds mode → k ≢ l → open_in c s.history t k ≡ Holds mode

-- the lock is the one that the thread gained last, by a try or by a blocking call
pub record IsGainedLast (s : State) (t l : ℕ) (by_try : Bool) : Type 0 where
  pub others : List HeldLock
  pub last : s.held_locks t ≡ record { lock = l; by_try = by_try } ∷ others

-- 1. The begin of an acquiring round: a blocking call or a try seeks a lock. A resume of a thread that wants a lock
-- begins one too

-- what it asks
pub record MaySeek (c : Config) (s : State) (t l : ℕ) (by_try : Bool) : Type 0 where
  pub thread : t < c.threads
  pub lock : l < c.locks
  pub unheld : s.held t l ≡ NotHeld
  pub acting : IsActing s t
  pub wants : (s.wanted t ≡ Some l) ⊎ (s.wanted t ≡ None)
  pub tries_want_nothing : by_try ≡ true → s.wanted t ≡ None
  pub no_round : s.round t ≡ None

-- the round of a lock, before its chain was taken
abbrev pub round_of : ℕ → Bool → Round
round_of l by_try = record { lock = l; by_try = by_try; in_chain = false }

-- the round of a blocking call that has taken the lock's chain
abbrev pub bound_to : ℕ → Round
bound_to l = record { lock = l; by_try = false; in_chain = true }

-- The lock that is being taken, once a round has begun. A blocking call of a thread that wants nothing yet begins the
-- take of its lock by it (this project's rule); who wants a lock takes that one already, and a try is no take
abbrev pub taking_from : Bool → Option ℕ → ℕ → Option ℕ → Option ℕ
taking_from true wanted l taking = taking
taking_from false None l taking = Some l
taking_from false (Some k) l taking = taking

-- the round is under way, without a look
unfoldable pub after_seek : State → ℕ → ℕ → Bool → State
after_seek s t l by_try = record s {
  taking = put s.taking t (taking_from by_try (s.wanted t) l (s.taking t));
  looks = put s.looks t 0;
  round = put s.round t (Some (round_of l by_try));
}

-- 2. A look at a lock word. Outside the lock's chain it counts as one of at most 100, in an acquiring round and where a
-- call's first exchange missed

-- what a look asks
pub record MayLook (c : Config) (s : State) (t l : ℕ) (counts : Bool) : Type 0 where
  pub thread : t < c.threads
  pub lock : l < c.locks
  pub room : counts ≡ true → s.looks t < 100

-- the share has the lock and the word as what its last look saw
unfoldable pub after_look : State → ℕ → ℕ → Bool → State
after_look s t l counts = record s {
  looks = put s.looks t (if counts then suc (s.looks t) else s.looks t);
  looks_in_all = put s.looks_in_all t (suc (s.looks_in_all t));
  last_look = put s.last_look t (Some (record { lock = l; word = s.word l }));
  seen_in_section = put s.seen_in_section t (Some (record { lock = l; word = s.word l }));
}

-- 3. A gain: the word admits the mode, and the lock is the wanted one, or none is wanted. The thread is on no queue,
-- in no marked list and not woken

-- what a gain asks
pub record MayGain (c : Config) (s : State) (t l : ℕ) (mode : Mode) : Type 0 where
  pub thread : t < c.threads
  pub lock : l < c.locks
  pub admitted : admits (c.kind l) (s.word l) mode ≡ true
  pub plainly : is_plain (c.kind l) (s.word l) mode ≡ true
  pub unheld : s.held t l ≡ NotHeld
  pub acting : IsActing s t
  pub wants : (s.wanted t ≡ Some l) ⊎ (s.wanted t ≡ None)

-- the lock is held, and no longer wanted or called for; the round has ended
unfoldable pub after_gain : State → ℕ → ℕ → Mode → Bool → State
after_gain s t l mode by_try = record s {
  word = put s.word l (gained (s.word l) t mode);
  held = put_at s.held t l (Holds mode);
  held_locks = put s.held_locks t (record { lock = l; by_try = by_try } ∷ s.held_locks t);
  wanted = put s.wanted t None;
  called = put s.called t None;
  looks = put s.looks t 0;
  last_look = put s.last_look t None;
  round = put s.round t None;
  has_begun = put_at s.has_begun t l false;
}

-- 4. A drop: a release where another shared holder stays or no waiter is shown. No section of the lock is open, and
-- one began

-- what a drop asks
pub record MayDrop (c : Config) (s : State) (t l : ℕ) (mode : Mode) : Type 0 where
  pub thread : t < c.threads
  pub lock : l < c.locks
  pub held : s.held t l ≡ Holds mode
  pub stays : is_drop (s.word l) ≡ true
  pub closed : open_in c s.history t l ≡ NotHeld
  pub begun : s.has_begun t l ≡ true

-- the held locks without one
abbrev pub without_held : ℕ → List HeldLock → List HeldLock
without_held l [] = []
without_held l (h ∷ hs) = if l == h.lock then without_held l hs else h ∷ without_held l hs

-- the lock is not held
unfoldable pub after_drop : State → ℕ → ℕ → State
after_drop s t l = record s {
  word = put s.word l (dropped (s.word l));
  held = put_at s.held t l NotHeld;
  held_locks = put s.held_locks t (without_held l (s.held_locks t));
  last_look = put s.last_look t None;
}

-- 5. A stamp: one entry with the next ticket

-- a section begins where the lock is held in its mode and no section of the lock is open
pub record Begins (c : Config) (s : State) (t l : ℕ) (section : Hold) : Type 0 where
  pub held : s.held t l ≡ section
  pub closed : open_in c s.history t l ≡ NotHeld

-- after a wait a section begins where the lock is held again as it was before the sleep
pub record Returns (c : Config) (s : State) (t l : ℕ) : Type 0 where
  pub held : s.held t l ≡ left_in c s.history t l
  pub holds : s.held t l ≢ NotHeld
  pub closed : open_in c s.history t l ≡ NotHeld

-- The thread doesn't hold the lock, its last look saw the lock with the word, and the word does not admit the mode,
-- so it is held. Which mode was tried, the entry does not say
pub record SawBusy (c : Config) (s : State) (t l : ℕ) (word : Word) (mode : Mode) : Type 0 where
  pub unheld : s.held t l ≡ NotHeld
  pub looked : s.last_look t ≡ Some (record { lock = l; word = word })
  pub refused : admits (c.kind l) word mode ≡ false
  pub mutex : c.kind l ≡ Mtx → mode ≡ Excl

-- the own priorities, shown while the sections of all held locks are open
pub record ShowsOwn (c : Config) (s : State) (t base effective : ℕ) : Type 0 where
  pub its_base : base ≡ s.base t
  pub its_effective : effective ≡ s.effective t
  pub sections : AllOpen c s t

-- a thread that was made ready goes to sleep on a channel with the lock that it gained last, by a blocking call. It
-- wants nothing, and the sections of all locks that it holds are open: as an enter asks it
pub record GoesToSleep (c : Config) (s : State) (t d : ℕ) : Type 0 where
  pub chan : d < c.chans
  pub queued : s.wait t ≡ Queued
  pub wants : s.wanted t ≡ None
  pub opened : open_in c s.history t (c.chan_lock d) ≢ NotHeld
  pub last : IsGainedLast s t (c.chan_lock d) false
  pub sections : OthersOpen c s t (c.chan_lock d)

-- the threads as a set of bits
abbrev pub bits_of_threads : List ℕ → ℕ
bits_of_threads [] = 0
bits_of_threads (u ∷ us) = 2 ^ u + bits_of_threads us

-- the sleepers that the thread took off a channel and has not noted yet
abbrev pub IsTheWake : Option Wake → ℕ → Bool → ℕ → Type 0
IsTheWake None d all woken = ⊥
IsTheWake (Some wake) d all woken =
    (wake.chan ≡ d) × (wake.all ≡ all) × (woken ≡ bits_of_threads wake.taken)

-- What each column of an event asks, as a list of facts.

-- an edit stands in an exclusive section of its lock, and a read, of what is there, in a section
abbrev pub TableAsks : Config → State → ℕ → OfTable → List {1} (Type 0)
TableAsks c s t NoTable = []
TableAsks c s t (SetsTo l k v) = (open_in c s.history t l.0 ≡ Holds Excl) ∷ []
TableAsks c s t (AddsTo l k n) = (open_in c s.history t l.0 ≡ Holds Excl) ∷ []
TableAsks c s t (Reads l k found) =
    (open_in c s.history t l.0 ≢ NotHeld) ∷ (found ≡ s.table l.0 k) ∷ []

-- a section begins where none is open, and ends as it is open. A thread sleeps with the lock of its channel, and
-- wakes with that lock held as it was
abbrev pub SectionAsks : Config → State → ℕ → OfSection → List {1} (Type 0)
SectionAsks c s t NoSection = []
SectionAsks c s t (BeginsIn l mode) = Begins c s t l (Holds mode) ∷ []
SectionAsks c s t (EndsFrom l mode) = (open_in c s.history t l ≡ Holds mode) ∷ []
SectionAsks c s t (LeftFor d) = GoesToSleep c s t d ∷ []
SectionAsks c s t (TakenBack d) = Returns c s t (c.chan_lock d) ∷ []

-- a gain is that of the lock gained last; a busy word is what the last look saw; a halt and a refusal stand in the
-- thread's share
abbrev pub TakeAsks : Config → State → ℕ → OfTake → List {1} (Type 0)
TakeAsks c s t NoTake = []
TakeAsks c s t (GainedBy l by_try) = IsGainedLast s t l by_try ∷ []
TakeAsks c s t (FoundBusy l seen) = ((mode : Mode) × SawBusy c s t l (word_of seen) mode) ∷ []
TakeAsks c s t (HaltedFor l) =
    (s.noted t ≡ Some (SleepHalted (lock_queue l))) ∷ (s.held t l ≡ NotHeld) ∷ []
TakeAsks c s t (RefusedBy l k) = (s.noted t ≡ Some (OrderRefused l k)) ∷ []

-- a sleep ends as the thread's share says, and a waking names whom the thread took off. Of a begin of sleep the
-- section's facet asks, of a halt at a lock the take's
abbrev pub SleepAsks : Config → State → ℕ → OfSleep → List {1} (Type 0)
SleepAsks c s t NoSleep = []
SleepAsks c s t (FallsAsleep d) = []
SleepAsks c s t (WakesUp d) = (s.woken_from t ≡ Some d) ∷ []
SleepAsks c s t (IsHalted d) = (s.noted t ≡ Some (SleepHalted (chan_queue d))) ∷ []
SleepAsks c s t (IsHaltedAtLock l) = []
SleepAsks c s t (WakesOne d woken) = IsTheWake (s.unstamped t) d false woken ∷ []
SleepAsks c s t (WakesAll d woken) = IsTheWake (s.unstamped t) d true woken ∷ []

-- a thread shows its own priorities
abbrev pub PrioAsks : Config → State → ℕ → OfPrio → List {1} (Type 0)
PrioAsks c s t NoPrio = []
PrioAsks c s t (NewBase p) = []
PrioAsks c s t (ShowsPrios base effective) = ShowsOwn c s t base effective ∷ []

-- the facts of a list, of which one alone is that fact itself
abbrev pub AllHold : List {1} (Type 0) → Type 0
AllHold [] = ⊤
AllHold (P ∷ []) = P
AllHold (P ∷ Q ∷ Ps) = P × AllHold (Q ∷ Ps)

-- what each event asks
abbrev pub Asks : Config → State → ℕ → Event → Type 0
Asks c s t e = AllHold
    (TableAsks c s t (facets e).table ++ SectionAsks c s t (facets e).section
    ++ TakeAsks c s t (facets e).take ++ SleepAsks c s t (facets e).sleep
    ++ PrioAsks c s t (facets e).prio)

-- what a stamp asks; the thread is on no queue, in no marked list and not woken
pub record MayStamp (c : Config) (s : State) (t : ℕ) (e : Event) : Type 0 where
  pub thread : t < c.threads
  pub acting : IsActing s t
  pub asks : Asks c s t e

-- the priority of a loan, where there is one
abbrev pub prio_of : Option Loan → Option ℕ
prio_of None = None
prio_of (Some loan) = Some loan.prio

-- the least of a base priority and a record's loans
abbrev pub effective_of : Config → (ℕ → Option Loan) → ℕ → ℕ
effective_of c loan base = least c.locks (λ l. prio_of (loan l)) base

-- a new value of a thread's, where there is one
abbrev pub put_new : Option ℕ → ℕ → (ℕ → ℕ) → ℕ → ℕ
put_new None t f = f
put_new (Some x) t f = put f t x

-- base priorities after an event of thread t
abbrev pub base_after : Event → ℕ → (ℕ → ℕ) → ℕ → ℕ
base_after e t base = put_new (new_base e) t base

-- effective priorities after an event of thread t
abbrev pub effective_with : Config → Option ℕ → ℕ → (ℕ → ℕ → Option Loan) → (ℕ → ℕ) → ℕ → ℕ
effective_with c None t loan effective = effective
effective_with c (Some p) t loan effective = put effective t (effective_of c (loan t) p)

abbrev pub effective_after : Config → Event → ℕ → (ℕ → ℕ → Option Loan) → (ℕ → ℕ) → ℕ → ℕ
effective_after c e t loan effective = effective_with c (new_base e) t loan effective

-- the tables after an event
abbrev pub table_with : OfTable → (ℕ → ℕ → Option ℕ) → ℕ → ℕ → Option ℕ
table_with NoTable table = table
table_with (SetsTo l k v) table = put_at table l.0 k (Some v)
table_with (AddsTo l k n) table = put_at table l.0 k (Some (added (table l.0 k) n))
table_with (Reads l k found) table = table

abbrev pub table_after : Event → (ℕ → ℕ → Option ℕ) → ℕ → ℕ → Option ℕ
table_after e table = table_with (facets e).table table

-- whether an event changes a base priority
abbrev pub changes_base : Event → Bool
changes_base e = is_some (new_base e)

-- whether it changes a table
abbrev pub is_edit : OfTable → Bool
is_edit NoTable = false
is_edit (SetsTo l k v) = true
is_edit (AddsTo l k n) = true
is_edit (Reads l k found) = false

abbrev pub changes_table : Event → Bool
changes_table e = is_edit (facets e).table

-- whether it begins or ends a section of a lock
abbrev pub changes_sections : Event → Bool
changes_sections e = is_of_section (facets e).section

-- whether a section began since the gain, after an event of thread t
abbrev pub begun_with : Config → OfSection → ℕ → (ℕ → ℕ → Bool) → ℕ → ℕ → Bool
begun_with c NoSection t has_begun = has_begun
begun_with c (BeginsIn l mode) t has_begun = put_at has_begun t l true
begun_with c (EndsFrom l mode) t has_begun = has_begun
begun_with c (LeftFor d) t has_begun = has_begun
begun_with c (TakenBack d) t has_begun = put_at has_begun t (c.chan_lock d) true

abbrev pub begun_after : Config → Event → ℕ → (ℕ → ℕ → Bool) → ℕ → ℕ → Bool
begun_after c e t has_begun = begun_with c (facets e).section t has_begun

-- looks after an event
abbrev pub is_busy : OfTake → Bool
is_busy NoTake = false
is_busy (GainedBy l by_try) = false
is_busy (FoundBusy l seen) = true
is_busy (HaltedFor l) = false
is_busy (RefusedBy l class) = false

abbrev pub looks_after : Event → ℕ → ℕ
looks_after e looks = if is_busy (facets e).take then 0 else looks

-- the acquiring round after an event: a failed try has ended
abbrev pub round_after : Event → Option Round → Option Round
round_after e round = if is_busy (facets e).take then None else round

-- the wake that is not noted yet, after an event
abbrev pub unstamped_after : Event → Option Wake → Option Wake
unstamped_after e wake = if is_waking_of (of_sleep e) then None else wake

-- the lock that is being taken, after an event: the entry of a take, or of a wait that has ended, is made
abbrev pub ends_take_or_wait : OfEnd → Bool
ends_take_or_wait NoEnd = false
ends_take_or_wait (EndsTakeOf l) = true
ends_take_or_wait (EndsWaitOn d) = true

abbrev pub taking_after : Event → Option ℕ → Option ℕ
taking_after e taking = if ends_take_or_wait (facets e).end then None else taking

-- the entry that a stamp makes
abbrev pub entry_of : State → ℕ → Event → Entry
entry_of s t e = record { ticket = s.next; thread = record { 0 = t }; event = e }

-- the entry is in the log and the history, and the base or the table is as it says
unfoldable pub after_stamp : Config → State → ℕ → Event → State
after_stamp c s t e = record s {
  base = base_after e t s.base;
  effective = effective_after c e t s.loan s.effective;
  looks = put s.looks t (looks_after e (s.looks t));
  last_look = put s.last_look t None;
  round = put s.round t (round_after e (s.round t));
  noted = put s.noted t None;
  taking = put s.taking t (taking_after e (s.taking t));
  unstamped = put s.unstamped t (unstamped_after e (s.unstamped t));
  woken_from = put s.woken_from t None;
  log = put s.log t (entry_of s t e ∷ s.log t);
  has_begun = begun_after c e t s.has_begun;
  table = table_after e s.table;
  next = suc s.next;
  history = entry_of s t e ∷ s.history;
}

-- 6. A thread's wait word: made ready to stand on a queue, or running again where it stands on none

-- what it asks to be made ready
pub record MayReady (c : Config) (s : State) (t : ℕ) : Type 0 where
  pub thread : t < c.threads
  pub running : s.wait t ≡ Running

-- the wait word says Queued
unfoldable pub after_ready : State → ℕ → State
after_ready s t = record s { wait = put s.wait t Queued }

-- what it asks to run again
pub record MayUnready (c : Config) (s : State) (t : ℕ) : Type 0 where
  pub thread : t < c.threads
  pub queued : s.wait t ≡ Queued
  pub unnamed : s.blocked_on t ≡ None

-- the wait word says Running
unfoldable pub after_unready : State → ℕ → State
after_unready s t = record s { wait = put s.wait t Running }
