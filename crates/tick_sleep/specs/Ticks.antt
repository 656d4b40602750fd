-- Sleeps with callouts and signals, over ticks that are handed in: who sleeps, in order of arrival, and what each event
-- makes of it. Sleeping and waking are after sleep(9), and timing out after callout(9); the order of those that time
-- out, and what a signal does, are this project's own.
use Rattle.std.specs.Prelude.{◌≡◌, ℕ, ◌+◌, Bool, true, false, not, ◌&&◌, ◌==◌, nat_le, nat_lt, if◌then◌else◌, List, [], ◌∷◌, ◌++◌, length, map, filter, find, replicate, slice_get, slice_set, unwrap_or, option_map, Option, None, Some}
use Rattle.std.specs.List.{list_any}
use Rattle.lock_model.specs.Queues.{Waiter, best_of}
use Rattle.lock_state.specs.Steps.LockWords.{bits_of_threads}
use Rattle.lock_model.specs.declared.numbers.Prio.{Prio}
use Rattle.lock_model.specs.declared.numbers.ThreadNo.{ThreadNo}
use Rattle.tick_sleep.specs.declared.plan.Slept.{Slept}
use Rattle.tick_sleep.specs.declared.plan.Slept.TheVariants.{Queued, Asleep, Interrupted}
use Rattle.tick_sleep.specs.declared.plan.SleeperDecl.{SleeperDecl}
use Rattle.tick_sleep.specs.declared.plan.TickSleeper.{TickSleeper}
use Rattle.tick_sleep.specs.declared.plan.TickEvent.{TickEvent}
use Rattle.tick_sleep.specs.declared.plan.TickEvent.TheVariants.{Sleep, WakeOne, WakeAll, Post, Tick}

-- 1. Who sleeps

pub record TickState : Type 0 where
  pub tick : ℕ
  -- in order of arrival
  pub sleepers : List TickSleeper
  -- by thread: whether a signal is posted to it
  pub posted : List Bool
  -- by thread
  pub prios : List Prio

-- tick 0: nobody sleeps, and no signal is posted
abbrev pub start : List SleeperDecl → TickState
start ds = record {
  tick = 0;
  sleepers = [];
  posted = replicate (length ds) false;
  prios = map (λ d. d.prio) ds;
}

abbrev pub is_of : ℕ → TickSleeper → Bool
is_of t s = s.t.0 == t

abbrev pub sleeps : ℕ → List TickSleeper → Bool
sleeps t ss = list_any (is_of t) ss

abbrev pub is_on : ℕ → TickSleeper → Bool
is_on key s = s.key == key

-- the sleepers of a key
abbrev pub on_key : ℕ → List TickSleeper → List TickSleeper
on_key key ss = filter (is_on key) ss

-- all but those of a key
abbrev pub off_key : ℕ → List TickSleeper → List TickSleeper
off_key key ss = filter (λ s. not (is_on key s)) ss

-- all but the first that passes a test
abbrev pub without_first : {A : Type 0} → (A → Bool) → List A → List A
without_first p [] = []
without_first p (x ∷ xs) = if p x then xs else x ∷ without_first p xs

-- all but a thread
abbrev pub without : ℕ → List TickSleeper → List TickSleeper
without t ss = without_first (is_of t) ss

abbrev pub without_some : Option ℕ → List TickSleeper → List TickSleeper
without_some None ss = ss
without_some (Some t) ss = without t ss

abbrev pub is_posted : TickState → ℕ → Bool
is_posted s t = unwrap_or (slice_get s.posted t) false

abbrev pub prio_of : TickState → ℕ → Prio
prio_of s t = unwrap_or (slice_get s.prios t) (record { 0 = 0 })

-- 2. Sleeping

-- a thread that sleeps goes on with it, and a signal that is posted ends an interruptible sleep at once
abbrev pub sleep_answer : TickState → ℕ → Bool → Slept
sleep_answer s t sig =
    if sleeps t s.sleepers then Asleep else (if sig && is_posted s t then Interrupted else Queued)

-- a thread that sleeps from now on
abbrev pub new_sleeper : TickState → ThreadNo → ℕ → Option ℕ → Bool → TickSleeper
new_sleeper s t key ticks sig = record {
  t = t;
  prio = prio_of s t.0;
  key = key;
  due = option_map (λ n. s.tick + n) ticks;
  sig = sig;
}

abbrev pub slept : Slept → TickState → ThreadNo → ℕ → Option ℕ → Bool → TickState
slept Asleep s t key ticks sig = s
slept Interrupted s t key ticks sig = record s { posted = slice_set s.posted t.0 false }
slept Queued s t key ticks sig =
    record s { sleepers = s.sleepers ++ new_sleeper s t key ticks sig ∷ [] }

abbrev pub behind_sleep : TickState → ThreadNo → ℕ → Option ℕ → Bool → TickState
behind_sleep s t key ticks sig = slept (sleep_answer s t.0 sig) s t key ticks sig

-- 3. Waking

-- as its sleep queue has it
abbrev pub waiter_of : TickSleeper → Waiter
waiter_of s = record { thread = s.t.0; kept = s.prio.0 }

-- who is woken of a key: the least priority number, and of equals the one that has slept longest
abbrev pub woken_one : TickState → ℕ → Option ℕ
woken_one s key = option_map (λ w. w.thread) (best_of (map waiter_of (on_key key s.sleepers)))

abbrev pub behind_wake_one : TickState → ℕ → TickState
behind_wake_one s key = record s { sleepers = without_some (woken_one s key) s.sleepers }

-- all sleepers of a key, as a set of bits
abbrev pub woken_all : TickState → ℕ → ℕ
woken_all s key = bits_of_threads (map (λ r. r.t.0) (on_key key s.sleepers))

abbrev pub behind_wake_all : TickState → ℕ → TickState
behind_wake_all s key = record s { sleepers = off_key key s.sleepers }

-- 4. Signals

-- whether a signal ends a thread's sleep, if it sleeps
abbrev pub is_ended_by_signal : Option TickSleeper → Bool
is_ended_by_signal None = false
is_ended_by_signal (Some s) = s.sig

abbrev pub is_interruptible : ℕ → List TickSleeper → Bool
is_interruptible t ss = is_ended_by_signal (find (is_of t) ss)

-- it takes an interruptible sleeper off, and else it is posted
abbrev pub behind_post : TickState → ℕ → TickState
behind_post s t =
    if is_interruptible t s.sleepers
    then record s { sleepers = without t s.sleepers }
    else record s { posted = slice_set s.posted t true }

-- 5. Ticks

abbrev pub is_reached : ℕ → Option ℕ → Bool
is_reached now None = false
is_reached now (Some due) = nat_le due now

-- a sleeper's due tick is reached
abbrev pub is_due : ℕ → TickSleeper → Bool
is_due now s = is_reached now s.due

-- the due tick of one that has one
abbrev pub due_of : TickSleeper → ℕ
due_of s = unwrap_or s.due 0

-- no due tick is reached
abbrev pub NoneIsDue : TickState → Type 0
NoneIsDue s = filter (is_due s.tick) s.sleepers ≡ []

-- before the first that isn't due earlier
abbrev pub insert_by_due : TickSleeper → List TickSleeper → List TickSleeper
insert_by_due s [] = s ∷ []
insert_by_due s (r ∷ rs) =
    if nat_lt (due_of r) (due_of s) then r ∷ insert_by_due s rs else s ∷ r ∷ rs

-- by due tick, and else as they are
abbrev pub by_due : List TickSleeper → List TickSleeper
by_due [] = []
by_due (s ∷ ss) = insert_by_due s (by_due ss)

-- those whose due tick is reached, by due tick and then by arrival
abbrev pub expired : ℕ → List TickSleeper → List TickSleeper
expired now ss = by_due (filter (is_due now) ss)

-- the others
abbrev pub unexpired : ℕ → List TickSleeper → List TickSleeper
unexpired now ss = filter (λ s. not (is_due now s)) ss

abbrev pub advanced : TickState → ℕ → TickState
advanced s n = record s { tick = s.tick + n }

-- the next sleeper whose due tick is reached timed out
pub record TimesOut (old new : TickState) (t : ThreadNo) (due : ℕ) : Type 0 where
  pub sleeper : TickSleeper
  pub of : sleeper.t ≡ t
  pub at : sleeper.due ≡ Some due
  -- it is the first of those, and the others wait
  pub next : expired old.tick old.sleepers ≡ sleeper ∷ expired new.tick new.sleepers
  pub left : new ≡ record old { sleepers = without t.0 old.sleepers }
  pub others : unexpired new.tick new.sleepers ≡ unexpired old.tick old.sleepers

abbrev pub behind_tick : TickState → ℕ → TickState
behind_tick s n = record (advanced s n) { sleepers = unexpired (s.tick + n) s.sleepers }

-- 6. Events

abbrev pub behind : TickState → TickEvent → TickState
behind s (Sleep t key ticks sig) = behind_sleep s t key ticks sig
behind s (WakeOne key) = behind_wake_one s key
behind s (WakeAll key) = behind_wake_all s key
behind s (Post t) = behind_post s t.0
behind s (Tick n) = behind_tick s n
