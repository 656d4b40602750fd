-- Steps that put a thread on a turnstile and take it off again: what each asks of the state, and what it makes of it.
use Rattle.std.specs.Prelude.{◌≡◌, ◌⊎◌, ℕ, ◌<◌, Bool, true, false, ◌==◌, if◌then◌else◌, List, [], ◌∷◌, Option, Some, None, ⊤}
use Rattle.lock_model.specs.Words.{Holder, admits, is_free, is_turnstile, without_one, shows_waiters, owner_of, entered, opened, side_woken}
use Rattle.lock_model.specs.History.{open_in}
use Rattle.lock_state.specs.Steps.LockWords.{AllOpen, is_taking_back, effective_of, without_held, round_of}
use Rattle.lock_model.specs.Config.{Config}
use Rattle.lock_state.specs.State.{State, Running, Queued, Woken, Walk, NoWalk, AtLock, Note, SleepHalted, Loan, Round, Phase, Awake, SelfAborted, put, put_at, put_queue}
use Rattle.lock_model.specs.Holds.{NotHeld, Holds}
use Rattle.lock_model.specs.Queues.{Cause, BySignal, ByAbort, Waiter, Lists, Mark, lock_queue, is_turnstile_queue, side_of, list_of, with_list, insert, head_with, free_with, dealt, free_after, head_after}
use Rattle.lock_model.specs.declared.plan.Kind.TheVariants.{Mtx}
use Rattle.lock_model.specs.declared.plan.Mode.{Mode}
use Rattle.lock_model.specs.declared.plan.Mode.TheVariants.{Excl}
use Rattle.lock_model.specs.declared.plan.Side.{Side}
use Rattle.lock_model.specs.declared.plan.QueueName.{QueueName}
use Rattle.lock_model.specs.declared.plan.QueueName.TheVariants.{Lock, Chan}

-- What the queues of locks, turnstiles and sleep queues, have in common: what is asked of who enters one and of who
-- opens one, and what both make of the state.

-- the thread is made ready, and must wait for the lock: the word is held and doesn't admit the mode
pub record MustWait (c : Config) (s : State) (t l : ℕ) (mode : Mode) : Type 0 where
  pub thread : t < c.threads
  pub lock : l < c.locks
  pub held : is_free (s.word l).holder ≡ false
  pub refused : admits (c.kind l) (s.word l) mode ≡ false
  pub queued : s.wait t ≡ Queued
  pub unnamed : s.blocked_on t ≡ None
  pub wants : (s.wanted t ≡ Some l) ⊎ (s.wanted t ≡ None)
  pub no_walk : s.walk t ≡ NoWalk
  pub sections : AllOpen c s t

-- the thread is the lock's last holder, waiters are shown, its section has ended, and it has nobody marked
pub record IsLastHolder (c : Config) (s : State) (t l : ℕ) (mode : Mode) : Type 0 where
  pub thread : t < c.threads
  pub lock : l < c.locks
  pub held : s.held t l ≡ Holds mode
  pub last : is_free (without_one (s.word l).holder) ≡ true
  pub shown : shows_waiters (s.word l) ≡ true
  pub unmarked : s.marked t ≡ []
  pub closed : open_in c s.history t l ≡ NotHeld
  pub begun : s.has_begun t l ≡ true

-- the thread stands on the queue, whose lists are these now, and has lent it its object x
abbrev pub with_waiter : State → ℕ → QueueName → Lists → ℕ → State
with_waiter s t q lists x = record s {
  lists = put_queue s.lists q lists;
  free_list = put_queue s.free_list q (free_with (s.head q) x (s.free_list q));
  head = put_queue s.head q (head_with (s.head q) x);
  blocked_on = put s.blocked_on t (Some q);
}

-- the thread is one of these waiters on its side of the lock's queue: the word shows that side, and the round has
-- ended
abbrev pub waiting_for : State → ℕ → ℕ → Mode → List Waiter → ℕ → State
waiting_for s t l mode ws x =
    let q : QueueName = lock_queue l in
    record (with_waiter s t q (with_list (side_of mode) ws (s.lists q)) x) {
      word = put s.word l (entered (s.word l) (side_of mode));
      wanted = put s.wanted t (Some l);
      called = put s.called t None;
      round = put s.round t None;
      last_look = put s.last_look t None;
    }

-- these waiters are off the queue, whose lists are these now, and in the marked list with their objects
abbrev pub with_marked : State → ℕ → QueueName → Lists → List Waiter → State
with_marked s t q lists ws = record s {
  lists = put_queue s.lists q lists;
  free_list = put_queue s.free_list q (free_after ws (s.free_list q));
  head = put_queue s.head q (head_after ws (s.free_list q) (s.head q));
  marked = put s.marked t (dealt q ws (s.free_list q) (s.head q));
}

-- the last holder has released the lock: the word is free, and the woken side is in the marked list
abbrev pub after_last_release : Config → State → ℕ → ℕ → State
after_last_release c s t l =
    let q : QueueName = lock_queue l in
    let side : Side = side_woken (c.kind l) (s.word l) in
    record (with_marked s t q (with_list side [] (s.lists q)) (list_of side (s.lists q))) {
      word = put s.word l (opened (c.kind l) (s.word l));
      held = put_at s.held t l NotHeld;
      held_locks = put s.held_locks t (without_held l (s.held_locks t));
      last_look = put s.last_look t None;
    }

-- 1. An enter: the thread must wait, and stands on the lock's turnstile with its own turnstile x

-- what an enter asks
pub record MayEnter (c : Config) (s : State) (t l : ℕ) (mode : Mode) (x : ℕ) : Type 0 where
  pub waits : MustWait c s t l mode
  pub turnstile : is_turnstile (c.kind l) ≡ true
  pub mutex : c.kind l ≡ Mtx → mode ≡ Excl
  pub own : s.turnstile t ≡ Some x

-- the owner of a turnstile's head: that of the first waiter's enter is the word's exclusive holder
abbrev pub owner_with : Option ℕ → Option ℕ → Holder → Option ℕ
owner_with None o h = owner_of h
owner_with (Some x) o h = o

-- a walk to the lock, where there is an owner to lend to
abbrev pub walk_up : ℕ → Option ℕ → Walk
walk_up l None = NoWalk
walk_up l (Some o) = AtLock l

-- the thread stands on its side, its turnstile is lent, and its walk begins
unfoldable pub after_enter : State → ℕ → ℕ → Mode → ℕ → State
after_enter s t l mode x =
    let q : QueueName = lock_queue l in
    let own : Waiter = record { thread = t; kept = s.effective t } in
    record (waiting_for s t l mode (insert own (list_of (side_of mode) (s.lists q))) x) {
      owner = put_queue s.owner q (owner_with (s.head q) (s.owner q) (s.word l).holder);
      turnstile = put s.turnstile t None;
      walk = put s.walk t (walk_up l (owner_of (s.word l).holder));
    }

-- 2. An open: the last holder's release where waiters are shown. One whole side goes to the marked list with its
-- turnstiles; the loan for the lock goes home, and the turnstile that stays has no owner. The thread may stand on a
-- sleep queue, but on no turnstile

-- what an open asks
pub record MayOpen (c : Config) (s : State) (t l : ℕ) (mode : Mode) : Type 0 where
  pub releases : IsLastHolder c s t l mode
  pub turnstile : is_turnstile (c.kind l) ≡ true
  pub off_turnstiles : (k : ℕ) → s.blocked_on t ≡ Some (lock_queue k)
      → is_turnstile (c.kind k) ≡ false

-- the loan's node goes back to its turnstile
abbrev pub home_after : (ℕ → Bool) → Option Loan → ℕ → Bool
home_after home None = home
home_after home (Some loan) = put home loan.number true

-- the lock is released and the loan for it is home, and the turnstile has no owner
unfoldable pub after_open : Config → State → ℕ → ℕ → State
after_open c s t l = record (after_last_release c s t l) {
  owner = put_queue s.owner (lock_queue l) None;
  loan = put_at s.loan t l None;
  loan_home = home_after s.loan_home (s.loan t l);
  effective = put s.effective t (effective_of c (put (s.loan t) l None) (s.base t));
}

-- 3. A mark: the first of the marked list gets its object back and is woken

-- what a mark asks
pub record MayMark (c : Config) (s : State) (t : ℕ) (m : Mark) (ms : List Mark) : Type 0 where
  pub thread : t < c.threads
  pub marked : s.marked t ≡ m ∷ ms
  pub stamped : s.unstamped t ≡ None

-- a thread that wakes itself has aborted itself
abbrev pub phase_marked : ℕ → ℕ → Phase → Phase
phase_marked t u phase = if t == u then SelfAborted else phase

-- the first marked thread has its object back and is woken
unfoldable pub after_mark : Config → State → ℕ → Mark → List Mark → State
after_mark c s t m ms = record s {
  turnstile = if is_turnstile_queue c m.queue then put s.turnstile m.thread (Some m.object) else
      s.turnstile;
  sleep_queue = if is_turnstile_queue c m.queue then s.sleep_queue else put s.sleep_queue m.thread
      (Some m.object);
  blocked_on = put s.blocked_on m.thread None;
  wait = put s.wait m.thread (Woken m.queue m.cause);
  marked = put s.marked t ms;
  counting = put s.counting t None;
  phase = put s.phase t (phase_marked t m.thread (s.phase t));
}

-- 4. A resume: a woken thread runs again. After a signal from a lock's queue it is called for that lock. An abort
-- ends the wanting of a lock and is noted, but in a taking back after a wait it only lets the thread look again.
-- After a wake from a channel the lock of the wait is wanted

-- a thread that was woken from a channel has released the lock of its wait
abbrev pub HasReleased : Config → State → ℕ → QueueName → Type 0
HasReleased c s t (Lock l) = ⊤
HasReleased c s t (Chan d) = s.held t (c.chan_lock d.0) ≡ NotHeld

-- what a resume asks
pub record MayResume (c : Config) (s : State) (t : ℕ) (q : QueueName) (cause : Cause) : Type 0 where
  pub thread : t < c.threads
  pub woken : s.wait t ≡ Woken q cause
  pub released : HasReleased c s t q

-- the lock that the thread is called for
abbrev pub called_after : QueueName → Cause → Option ℕ → Option ℕ
called_after (Lock l) BySignal called = Some l.0
called_after (Lock l) ByAbort called = called
called_after (Chan d) BySignal called = called
called_after (Chan d) ByAbort called = called

-- the lock that the thread wants
abbrev pub wanted_after : Config → QueueName → Cause → Bool → Option ℕ → Option ℕ
wanted_after c (Lock l) BySignal back wanted = wanted
wanted_after c (Lock l) ByAbort back wanted = if back then wanted else None
wanted_after c (Chan d) BySignal back wanted = Some (c.chan_lock d.0)
wanted_after c (Chan d) ByAbort back wanted = Some (c.chan_lock d.0)

-- the lock whose take, or whose taking back after a wait, is still to be noted
abbrev pub taking_by : Config → QueueName → Option ℕ → Option ℕ
taking_by c (Lock l) taking = taking
taking_by c (Chan d) taking = Some (c.chan_lock d.0)

-- an acquiring round of the lock that is wanted begins
abbrev pub round_for : Option ℕ → Option Round
round_for None = None
round_for (Some l) = Some (round_of l false)

-- what the thread has yet to note
abbrev pub noted_after : QueueName → Cause → Bool → Option Note → Option Note
noted_after (Lock l) BySignal back noted = noted
noted_after (Lock l) ByAbort back noted = if back then noted else Some (SleepHalted (Lock l))
noted_after (Chan d) BySignal back noted = noted
noted_after (Chan d) ByAbort back noted = Some (SleepHalted (Chan d))

-- the channel from which the thread was woken by a signal since its last entry, after the resume
abbrev pub woken_from_by : QueueName → Cause → Option ℕ → Option ℕ
woken_from_by (Lock l) BySignal woken_from = woken_from
woken_from_by (Lock l) ByAbort woken_from = woken_from
woken_from_by (Chan d) BySignal woken_from = Some d.0
woken_from_by (Chan d) ByAbort woken_from = woken_from

-- the thread runs, and is called or halted as it was woken
unfoldable pub after_resume : Config → State → ℕ → QueueName → Cause → State
after_resume c s t q cause =
    let back : Bool = is_taking_back (s.log t) in
    record s {
      wait = put s.wait t Running;
      called = put s.called t (called_after q cause (s.called t));
      wanted = put s.wanted t (wanted_after c q cause back (s.wanted t));
      noted = put s.noted t (noted_after q cause back (s.noted t));
      taking = put s.taking t (taking_by c q (s.taking t));
      woken_from = put s.woken_from t (woken_from_by q cause (s.woken_from t));
      looks = put s.looks t 0;
      round = put s.round t (round_for (wanted_after c q cause back (s.wanted t)));
      phase = put s.phase t Awake;
    }
