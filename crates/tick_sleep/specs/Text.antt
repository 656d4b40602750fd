-- The text of a run of ticks: a line for each event, one for each sleep that times out, one for each thread that still
-- sleeps, and `ok`. The lines of an event begin with its number, from 0.
use Rattle.std.specs.Prelude.{ℕ, suc, ◌+◌, Bool, true, false, List, [], ◌∷◌, ◌++◌, flat_map, find, option_map, codes, decimal, Option, None, Some}
use Rattle.lock_model.specs.Text.{line_of, names_at_bits, or_dash}
use Rattle.tick_sleep.specs.Plans.{sleeper_name, sleeper_names}
use Rattle.tick_sleep.specs.Ticks.{TickState, start, is_of, sleep_answer, woken_one, woken_all, is_interruptible, due_of, expired, behind}
use Rattle.tick_sleep.specs.declared.plan.Slept.{Slept}
use Rattle.tick_sleep.specs.declared.plan.Slept.TheVariants.{Queued, Asleep, Interrupted}
use Rattle.tick_sleep.specs.declared.plan.SleeperDecl.{SleeperDecl}
use Rattle.tick_sleep.specs.declared.plan.TickEvent.{TickEvent}
use Rattle.tick_sleep.specs.declared.plan.TickEvent.TheVariants.{Sleep, WakeOne, WakeAll, Post, Tick}
use Rattle.tick_sleep.specs.declared.plan.TickPlan.{TickPlan}
use Rattle.tick_sleep.specs.declared.plan.TickSleeper.{TickSleeper}

-- 1. What an event says

abbrev pub slept_words : Slept → ℕ → List (List ℕ)
slept_words Queued key = codes "sleeps" ∷ decimal key ∷ []
slept_words Asleep key = codes "asleep" ∷ []
slept_words Interrupted key = codes "interrupted" ∷ []

-- the name of a thread, if there is one, or a dash
abbrev pub name_or_dash : List SleeperDecl → Option ℕ → List ℕ
name_or_dash ds None = codes "-"
name_or_dash ds (Some t) = sleeper_name ds t

-- a signal that ended a sleep, or was posted
abbrev pub posted_words : Bool → List ℕ → List (List ℕ)
posted_words true name = name ∷ codes "interrupted" ∷ []
posted_words false name = codes "signal" ∷ name ∷ []

-- the words behind the event's number
abbrev pub event_words : List SleeperDecl → TickState → TickEvent → List (List ℕ)
event_words ds s (Sleep t key ticks sig) =
    sleeper_name ds t.0 ∷ slept_words (sleep_answer s t.0 sig) key
event_words ds s (WakeOne key) =
    codes "wakeone" ∷ decimal key ∷ name_or_dash ds (woken_one s key) ∷ []
event_words ds s (WakeAll key) =
    codes "wakeup" ∷ decimal key ∷ or_dash (names_at_bits (sleeper_names ds) (woken_all s key))
event_words ds s (Post t) =
    posted_words (is_interruptible t.0 s.sleepers) (sleeper_name ds t.0)
event_words ds s (Tick n) = codes "tick" ∷ decimal (s.tick + n) ∷ []

-- 2. Lines

-- a sleep that timed out, behind the number of the event
abbrev pub timeout_line : List SleeperDecl → ℕ → TickSleeper → List ℕ
timeout_line ds e s = line_of (decimal e)
    (sleeper_name ds s.t.0 ∷ codes "timedout" ∷ decimal (due_of s) ∷ [])

-- those that time out at an event
abbrev pub timeouts : List SleeperDecl → ℕ → TickState → TickEvent → List ℕ
timeouts ds e s (Sleep t key ticks sig) = []
timeouts ds e s (WakeOne key) = []
timeouts ds e s (WakeAll key) = []
timeouts ds e s (Post t) = []
timeouts ds e s (Tick n) = flat_map (timeout_line ds e) (expired (s.tick + n) s.sleepers)

abbrev pub event_lines : List SleeperDecl → ℕ → TickState → TickEvent → List ℕ
event_lines ds e s v = line_of (decimal e) (event_words ds s v) ++ timeouts ds e s v

-- the key on which a thread sleeps, if it does
abbrev pub key_of : ℕ → List TickSleeper → Option ℕ
key_of t ss = option_map (λ s. s.key) (find (is_of t) ss)

abbrev pub sleeping_line : List ℕ → Option ℕ → List ℕ
sleeping_line name None = []
sleeping_line name (Some key) = line_of (codes "sleeping") (name ∷ decimal key ∷ [])

-- the threads that still sleep, by number from t on, with these names
abbrev pub sleeping_lines : ℕ → List SleeperDecl → List TickSleeper → List ℕ
sleeping_lines t [] ss = []
sleeping_lines t (d ∷ ds) ss =
    sleeping_line d.name (key_of t ss) ++ sleeping_lines (suc t) ds ss

-- 3. The whole text

-- events in order, from that number on, and how it ends
unfoldable pub text_from : List SleeperDecl → ℕ → TickState → List TickEvent → List ℕ
text_from ds e s [] = sleeping_lines 0 ds s.sleepers ++ line_of (codes "ok") []
text_from ds e s (v ∷ vs) = event_lines ds e s v ++ text_from ds (suc e) (behind s v) vs

unfoldable pub tick_run : TickPlan → List ℕ
tick_run plan = text_from plan.sleepers 0 (start plan.sleepers) plan.events
