-- Steps that put a thread on a sleep queue, of an sx lock or of a condition variable or channel, and take sleepers
-- off again, by a signal or by an abort.
use Rattle.std.specs.Prelude.{◌≡◌, ℕ, ◌<◌, Bool, true, false, not, List, [], ◌∷◌, map, Option, Some, None}
use Rattle.lock_model.specs.Counts.{is_empty}
use Rattle.lock_model.specs.Words.{Word, is_turnstile, with_bit}
use Rattle.lock_model.specs.Config.{Config}
use Rattle.lock_model.specs.Events.{sleeps_on}
use Rattle.lock_state.specs.Steps.LockWords.{OthersOpen}
use Rattle.lock_state.specs.Steps.Turnstiles.{MustWait, IsLastHolder, with_waiter, waiting_for, with_marked, after_last_release}
use Rattle.lock_state.specs.State.{State, Look, Queued, Phase, Awake, Asleep, Last, Halting, Aborting, SelfAborted, is_parked, found_nobody_awake, put, put_queue}
use Rattle.lock_model.specs.Queues.{Waiter, Mark, ByAbort, lock_queue, chan_queue, is_turnstile_queue, side_of, list_of, with_list, with_last, times_waiting, taken_off, left_on, without, dealt, free_after, head_after}
use Rattle.lock_model.specs.declared.plan.Mode.{Mode}
use Rattle.lock_model.specs.declared.plan.Side.{Side}
use Rattle.lock_model.specs.declared.plan.Side.TheVariants.{X}
use Rattle.lock_model.specs.declared.plan.QueueName.{QueueName}
use Rattle.lock_model.specs.declared.plan.QueueName.TheVariants.{Lock, Chan}
use Rattle.lock_model.specs.declared.event.Entry.{Entry}

-- 1. An enter on an sx lock: as on a turnstile, but the thread stands at the tail, ranked by its base priority, and
-- lends no priority

-- what it asks
pub record MayEnterSleep (c : Config) (s : State) (t l : ℕ) (mode : Mode) (x : ℕ) : Type 0 where
  pub waits : MustWait c s t l mode
  pub sleeps : is_turnstile (c.kind l) ≡ false
  pub own : s.sleep_queue t ≡ Some x

-- the thread stands at the tail of its side, and its sleep queue is lent
unfoldable pub after_enter_sleep : State → ℕ → ℕ → Mode → ℕ → State
after_enter_sleep s t l mode x =
    let side : Side = side_of mode in
    let own : Waiter = record { thread = t; kept = s.base t } in
    record (waiting_for s t l mode (with_last own (list_of side (s.lists (lock_queue l)))) x) {
      sleep_queue = put s.sleep_queue t None;
    }

-- 2. An open of an sx lock: as of a turnstile lock, without loans

-- what it asks
pub record MayOpenSleep (c : Config) (s : State) (t l : ℕ) (mode : Mode) : Type 0 where
  pub releases : IsLastHolder c s t l mode
  pub sleeps : is_turnstile (c.kind l) ≡ false

-- the word is free, and the woken side is in the marked list
unfoldable pub after_open_sleep : Config → State → ℕ → ℕ → State
after_open_sleep c s t l = after_last_release c s t l

-- 3. An add: a thread sleeps on a channel, behind its Sleeps entry, which is the newest of its log. It wants nothing,
-- and the sections of all other locks that it holds are open

-- whether the newest entry is a Sleeps entry on the channel
abbrev pub has_slept : ℕ → List Entry → Bool
has_slept d [] = false
has_slept d (e ∷ es) = sleeps_on e.event d

-- what it asks
pub record MayAdd (c : Config) (s : State) (t d x : ℕ) : Type 0 where
  pub thread : t < c.threads
  pub chan : d < c.chans
  pub queued : s.wait t ≡ Queued
  pub unnamed : s.blocked_on t ≡ None
  pub own : s.sleep_queue t ≡ Some x
  pub wants : s.wanted t ≡ None
  pub slept : has_slept d (s.log t) ≡ true
  pub unwoken : s.woken_from t ≡ None
  pub sections : OthersOpen c s t (c.chan_lock d)

-- the thread stands at the tail of the exclusive side, and its sleep queue is lent
unfoldable pub after_add : State → ℕ → ℕ → ℕ → State
after_add s t d x =
    let q : QueueName = chan_queue d in
    let own : Waiter = record { thread = t; kept = s.base t } in
    record (with_waiter s t q (with_list X (with_last own (s.lists q).exclusive) (s.lists q)) x) {
      sleep_queue = put s.sleep_queue t None;
    }

-- 4. A wake: the best sleeper of a channel, or all, go to the marked list

-- what it asks
pub record MayWake (c : Config) (s : State) (t d : ℕ) (all : Bool) : Type 0 where
  pub thread : t < c.threads
  pub chan : d < c.chans
  pub unmarked : s.marked t ≡ []
  pub stamped : s.unstamped t ≡ None

-- those that were taken off are in the marked list, and the wake is to be noted
unfoldable pub after_wake : State → ℕ → ℕ → Bool → State
after_wake s t d all =
    let q : QueueName = chan_queue d in
    let ws : List Waiter = taken_off all (s.lists q).exclusive in
    record (with_marked s t q (with_list X (left_on all (s.lists q).exclusive) (s.lists q)) ws) {
      unstamped = put s.unstamped t
          (Some (record { chan = d; all = all; taken = map (λ w. w.thread) ws }));
    }

-- 5. An abort: a sleeper of an sx lock or of a channel goes to the marked list of a thread that found nobody awake, and
-- an sx lock's bit follows its list

-- the queue is one of the plan's
abbrev pub IsQueueOf : Config → QueueName → Type 0
IsQueueOf c (Lock l) = l.0 < c.locks
IsQueueOf c (Chan d) = d.0 < c.chans

-- What it asks. The halt word is set; the thread's last counting out left nobody awake, and it has neither resumed
-- since nor is it parked. It wakes one sleeper after the other
pub record MayAbort (c : Config) (s : State) (t : ℕ) (q : QueueName) (side : Side) (u : ℕ) : Type 0
  where
    pub thread : t < c.threads
    pub halted : s.halted ≡ true
    pub found : found_nobody_awake (s.phase t) ≡ true
    pub unparked : is_parked (s.phase t) ≡ false
    pub queue : IsQueueOf c q
    pub sleeps : is_turnstile_queue c q ≡ false
    pub unmarked : s.marked t ≡ []
    pub stamped : s.unstamped t ≡ None
    pub stands : 0 < times_waiting u (list_of side (s.lists q))

-- the sleeper
abbrev pub sleeper : State → ℕ → Waiter
sleeper s u = record { thread = u; kept = s.base u }

-- the marks of those whom an abort takes off, as a signal's but for their cause
abbrev pub by_abort : List Mark → List Mark
by_abort [] = []
by_abort (m ∷ ms) = record m { cause = ByAbort } ∷ by_abort ms

-- words after a list of the queue is changed: a lock's shows whether somebody stands on that side, a channel has none
abbrev pub word_showing : QueueName → Side → List Waiter → (ℕ → Word) → ℕ → Word
word_showing (Lock l) side ws word =
    put word l.0 (with_bit (word l.0) side (not (is_empty ws)))
word_showing (Chan d) side ws word = word

-- the thread's last look after it left these on that side: none where a lock's bit fell, since the word changed
abbrev pub look_leaving : QueueName → List Waiter → Option Look → Option Look
look_leaving (Lock l) [] look = None
look_leaving (Lock l) (w ∷ ws) look = look
look_leaving (Chan d) ws look = look

-- a finder that aborts is none any more
abbrev pub phase_aborting : Phase → Phase
phase_aborting Awake = Awake
phase_aborting Asleep = Asleep
phase_aborting Last = Last
phase_aborting Halting = Aborting
phase_aborting Aborting = Aborting
phase_aborting SelfAborted = SelfAborted

-- the sleeper is in the marked list
unfoldable pub after_abort : State → ℕ → QueueName → Side → ℕ → State
after_abort s t q side u =
    let left : List Waiter = without u (list_of side (s.lists q)) in
    let taken : List Waiter = sleeper s u ∷ [] in
    record s {
      word = word_showing q side left s.word;
      lists = put_queue s.lists q (with_list side left (s.lists q));
      free_list = put_queue s.free_list q (free_after taken (s.free_list q));
      head = put_queue s.head q (head_after taken (s.free_list q) (s.head q));
      marked = put s.marked t (by_abort (dealt q taken (s.free_list q) (s.head q)));
      last_look = put s.last_look t (look_leaving q left (s.last_look t));
      phase = put s.phase t (phase_aborting (s.phase t));
    }
