-- What is true of a scheduled run between two turns: its state is lawful, and each thread is where its operations have
-- led it.
use Rattle.std.specs.Prelude.{◌≡◌, ◌≢◌, ℕ, ◌≤◌, Bool, true, false, if◌then◌else◌, List, [], length, reverse, slice_get, Option, Some, None}
use Rattle.lock_model.specs.Config.{Config}
use Rattle.lock_model.specs.Plans.{config_of, operations_of}
use Rattle.lock_model.specs.Operations.{of_locks, hold_in}
use Rattle.lock_model.specs.Holds.{Hold, NotHeld}
use Rattle.lock_model.specs.Orders.{first_to_forbid}
use Rattle.lock_model.specs.Words.{is_turnstile}
use Rattle.lock_state.specs.State.{gained_order, Running, Queued, Walk, NoWalk, AtLock}
use Rattle.lock_model.specs.History.{open_in, left_in, entries_of}
use Rattle.lock_model.specs.Law.{LeadsTo, Point, Before, Asleep, Cut, HaltsOnlyWhenRunning}
use Rattle.lock_state.specs.Facts.{LawfulTurn, Ordered, Taken}
use Rattle.lock_state.specs.Steps.{Admits, after, is_with}
use Rattle.lock_state.specs.Steps.Orders.{classes_held}
use Rattle.lock_state.specs.Run.{Run, has_ended, was_cut, waits_on, lock_of_wait, owed_release, held_before, held_now}
use Rattle.lock_model.specs.declared.plan.Op.{Op}
use Rattle.lock_model.specs.declared.plan.Op.TheVariants.{Take, EndTry, Sleep}
use Rattle.lock_model.specs.declared.plan.OfLocks.{OfLocks}
use Rattle.lock_model.specs.declared.plan.OfLocks.TheVariants.{NoLock, Acquires, ClosesBlock, Releases, EditsAt, ReadsAt, SleepsOn, WakesOn}
use Rattle.lock_model.specs.declared.plan.Plan.{Plan}
use Rattle.lock_model.specs.declared.event.Held.{Held}
use Rattle.lock_model.specs.declared.plan.Mode.{Mode}
use Rattle.lock_model.specs.declared.numbers.LockNo.{LockNo}
use Rattle.sleep_laws.specs.Sleepers.{SleepersFit, nobody}

-- where a thread is in its operations: before its next one, or asleep in that, a wait; or it was cut, and gives back
-- what it holds
abbrev pub point_by : Bool → List Held → ℕ → Option ℕ → Point
point_by true held n w = Cut (reverse held)
point_by false held n None = Before n
point_by false held n (Some d) = Asleep n

abbrev pub point_in : Plan → Run → ℕ → Point
point_in plan r t =
    point_by (was_cut r.state t) (held_now plan r t) (r.next_op t) (waits_on (r.state.log t))

-- the run in which the lock of a take was admitted, and the take goes on
abbrev pub admitted : Plan → Run → ℕ → LockNo → Run
admitted plan r t l = record r { state = after (config_of plan) r.state (Admits t l.0) }

-- the first class of a held lock that forbids that of the lock to a thread
abbrev pub first_against : Plan → Run → ℕ → LockNo → Option ℕ
first_against plan r t l =
    first_to_forbid r.state.edges (classes_held (config_of plan) r.state t)
    ((config_of plan).class l.0)

-- the sections that are open: those of the held locks, but for that of its wait, which ended with its Sleeps entry
abbrev pub open_now : Plan → Run → ℕ → ℕ → Hold
open_now plan r t l =
    if is_with l (lock_of_wait (config_of plan) r.state t) then NotHeld else r.state.held t l

-- the lock of a take, by what an operation does with locks
abbrev pub lock_of_take : OfLocks → Option ℕ
lock_of_take NoLock = None
lock_of_take (Acquires h) = if h.by_try then None else Some h.l.0
lock_of_take ClosesBlock = None
lock_of_take (Releases k) = None
lock_of_take (EditsAt k key) = None
lock_of_take (ReadsAt k key) = None
lock_of_take (SleepsOn d) = None
lock_of_take (WakesOn d) = None

-- an operation takes a lock; a wait, once its Sleeps entry is made, takes its channel's lock back
abbrev pub TakesLock : Config → ℕ → Option ℕ → Option Op → Type 0
TakesLock c l (Some d) op = c.chan_lock d ≡ l
TakesLock c l None None = ⊥
TakesLock c l None (Some op) = lock_of_take (of_locks op) ≡ Some l

-- walks are at locks whose queues are turnstiles, and at threads
abbrev pub WalksAtTurnstiles : Config → (ℕ → Walk) → Type 0
WalksAtTurnstiles c walk = (t l : ℕ) → walk t ≡ AtLock l → is_turnstile (c.kind l) ≡ true

pub record IsOnTrack (plan : Plan) (r : Run) : Type 0 where
  -- its state is lawful, nobody has anything out, and each Queued thread stands on a queue or is in a marked list
  pub lawful : LawfulTurn (config_of plan) r.state
  -- the channels' queues fit the entries: nobody is on its way to one, and each wake is noted
  pub sleepers : SleepersFit nobody (config_of plan) r.state
  -- nobody was halted, and the halt word isn't set
  pub halted : r.state.halted ≡ false
  pub no_halts : HaltsOnlyWhenRunning false r.state.history
  -- no thread has more operations behind it than it has
  pub within : (t : ℕ) → r.next_op t ≤ length (operations_of plan t)
  -- nor is it at an endtry, which takes no turn
  pub no_endtry : (t : ℕ) → slice_get (operations_of plan t) (r.next_op t) ≢ Some EndTry
  -- the entries follow the operations, to where it is
  pub follows : (t : ℕ) → LeadsTo (config_of plan).kind (operations_of plan t)
      (entries_of r.state.history t) (point_in plan r t)
  pub waiting : (t d : ℕ) → waits_on (r.state.log t) ≡ Some d
      → slice_get (operations_of plan t) (r.next_op t) ≡ Some (Sleep (record { 0 = d }))
  -- each thread holds what its operations so far lead to, but for the lock of its wait and what it gave back when it
  -- was cut,
  pub holds : (t l : ℕ) → r.state.held t l ≡ hold_in (held_now plan r t) l
  pub listed : (t : ℕ) → r.state.held_locks t ≡ gained_order (held_now plan r t)
  -- which it held as it will take it back,
  pub left : (t l : ℕ) → lock_of_wait (config_of plan) r.state t ≡ Some l
      → left_in (config_of plan) r.state.history t l ≡ hold_in (held_before plan r t) l
  -- and it has just these sections open
  pub sections : (t l : ℕ) → open_in (config_of plan) r.state.history t l ≡ open_now plan r t l
  pub begun : (t l : ℕ) → r.state.held t l ≢ NotHeld → r.state.has_begun t l ≡ true
  -- a lock is wanted by the thread's next operation, and isn't held
  pub wants : (t l : ℕ) → r.state.wanted t ≡ Some l
      → TakesLock (config_of plan) l (waits_on (r.state.log t))
      (slice_get (operations_of plan t) (r.next_op t))
  pub wants_unheld : (t l : ℕ) → r.state.wanted t ≡ Some l → r.state.held t l ≡ NotHeld
  -- one that was cut wants nothing, and one that goes on behind a wait wants the lock of it
  pub cut_wants_nothing : (t : ℕ) → was_cut r.state t ≡ true → r.state.wanted t ≡ None
  pub back_wants : (t d : ℕ) → waits_on (r.state.log t) ≡ Some d → r.state.wait t ≡ Running
      → r.state.wanted t ≡ Some ((config_of plan).chan_lock d)
  -- a lock is being taken exactly while it is wanted, and nothing is left to note
  pub taking : (t : ℕ) → r.state.taking t ≡ r.state.wanted t
  pub unnoted : (t : ℕ) → r.state.noted t ≡ None
  -- the class graph orders what is held and wanted, and has the edges of takes
  pub ordered : Ordered (config_of plan) r.state
  pub taken : Taken (config_of plan) r.state
  -- a walk goes over locks with turnstiles
  pub walks : WalksAtTurnstiles (config_of plan) r.state.walk

-- a thread that has neither a walk nor a marked list, nor a release after a wait to make
pub record OwesNothing (plan : Plan) (r : Run) (t : ℕ) : Type 0 where
  pub no_walk : r.state.walk t ≡ NoWalk
  pub unmarked : r.state.marked t ≡ []
  pub released : owed_release (config_of plan) r.state t ≡ None

-- a running thread that was cut, and owes nothing
pub record IsCutShort (plan : Plan) (r : Run) (t : ℕ) : Type 0 where
  pub running : r.state.wait t ≡ Running
  pub free : OwesNothing plan r t
  pub cut : was_cut r.state t ≡ true

-- a running thread that wasn't cut and owes nothing, at its next operation, where it has one left
pub record IsAtOperation (plan : Plan) (r : Run) (t : ℕ) (o : Option Op) : Type 0 where
  pub running : r.state.wait t ≡ Running
  pub free : OwesNothing plan r t
  pub uncut : was_cut r.state t ≡ false
  pub next : slice_get (operations_of plan t) (r.next_op t) ≡ o

-- a running thread at the first turn of a take: the lock isn't wanted yet
pub record BeginsTake (plan : Plan) (r : Run) (t : ℕ) (l : LockNo) (mode : Mode) : Type 0 where
  pub at : IsAtOperation plan r t (Some (Take l mode))
  pub wants : r.state.wanted t ≡ None

-- a thread that sleeps: it hasn't ended, its wait word says Queued, and it owes nothing
pub record IsSleeping (plan : Plan) (r : Run) (t : ℕ) : Type 0 where
  pub going : has_ended plan r t ≡ false
  pub queued : r.state.wait t ≡ Queued
  pub free : OwesNothing plan r t
