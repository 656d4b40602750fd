-- What the lines so far have made known, and what a line without a fault adds to it.
use Rattle.std.specs.Prelude.{ℕ, Bool, true, false, nat_lt, if◌then◌else◌, List, [], ◌∷◌, ◌++◌, position, option_map, unwrap_or, Option, Some, None}
use Rattle.std.specs.List.{list_any}
use Rattle.lock_model.specs.Names.{is_name}
use Rattle.lock_model.specs.Script.Lines.{is_same, number_up_to, priority_of}
use Rattle.lock_model.specs.declared.numbers.ThreadNo.{ThreadNo}
use Rattle.tick_sleep.specs.Limits.{greatest_key, most_sleep_ticks, most_ticks}
use Rattle.tick_sleep.specs.Statements.{Statement, Declares, Sleeps, WakesOne, WakesAll, Signals, Ticks, IsDone}
use Rattle.tick_sleep.specs.declared.plan.SleeperDecl.{SleeperDecl}
use Rattle.tick_sleep.specs.declared.plan.TickEvent.{TickEvent}
use Rattle.tick_sleep.specs.declared.plan.TickEvent.TheVariants.{Sleep, WakeOne, WakeAll, Post, Tick}

-- 1. What is known

pub record Known : Type 0 where
  -- the sleepers' names, in order of declaration
  pub names : List (List ℕ)
  pub sleepers : List SleeperDecl
  pub events : List TickEvent
  pub is_done : Bool

-- what the header makes known
abbrev pub nothing_known : Known
nothing_known = record { names = []; sleepers = []; events = []; is_done = false }

-- 2. Words

-- the number of the sleeper of that name, where it is declared
abbrev pub declared_as : Known → List ℕ → Option ℕ
declared_as k name = position (is_same name) k.names

-- whether a sleeper of that name is declared
abbrev pub is_declared : Known → List ℕ → Bool
is_declared k name = list_any (is_same name) k.names

-- the sleeper of that name
abbrev pub sleeper_named : Known → List ℕ → Option ThreadNo
sleeper_named k name =
    if is_name name then option_map (λ n. record { 0 = n }) (declared_as k name) else None

-- the key that a word spells
abbrev pub key_of : List ℕ → Option ℕ
key_of = number_up_to greatest_key

-- a number that isn't 0
abbrev pub some_of : Option ℕ → Option ℕ
some_of None = None
some_of (Some n) = if nat_lt 0 n then Some n else None

-- the number of ticks that a word spells: at least one, up to a bound
abbrev pub ticks_up_to : ℕ → List ℕ → Option ℕ
ticks_up_to bound word = some_of (number_up_to bound word)

-- those of a sleep, and those of a line
abbrev pub sleep_ticks_of : List ℕ → Option ℕ
sleep_ticks_of = ticks_up_to most_sleep_ticks

abbrev pub ticks_of : List ℕ → Option ℕ
ticks_of = ticks_up_to most_ticks

-- 3. Events

-- a sleep with its ticks, where it has any and these are readable
abbrev pub timed : (Option ℕ → TickEvent) → Option (List ℕ) → Option TickEvent
timed f None = Some (f None)
timed f (Some word) = option_map (λ n. f (Some n)) (sleep_ticks_of word)

-- of a sleeper and a key, where both are readable
abbrev pub sleep_of : Bool → Option (List ℕ) → Option ThreadNo → Option ℕ → Option TickEvent
sleep_of sig ticks (Some t) (Some key) =
    timed (λ n. Sleep t key n sig) ticks
sleep_of sig ticks (Some t) None = None
sleep_of sig ticks None key = None

-- the event that a statement says, where each of its words is readable
abbrev pub event_of : Known → Statement → Option TickEvent
event_of k (Declares name prio) = None
event_of k (Sleeps sig name key ticks) = sleep_of sig ticks (sleeper_named k name) (key_of key)
event_of k (WakesOne key) = option_map (λ n. WakeOne n) (key_of key)
event_of k (WakesAll key) = option_map (λ n. WakeAll n) (key_of key)
event_of k (Signals name) =
    option_map (λ t. Post t) (sleeper_named k name)
event_of k (Ticks ticks) = option_map (λ n. Tick n) (ticks_of ticks)
event_of k IsDone = None

-- 4. What a line adds

-- one sleeper more
abbrev pub with_sleeper : Known → List ℕ → ℕ → Known
with_sleeper k name prio = record k {
  names = k.names ++ name ∷ [];
  sleepers = k.sleepers ++ (record { name = name; prio = record { 0 = prio } }) ∷ [];
}

-- one event more
abbrev pub with_event : Known → Option TickEvent → Known
with_event k None = k
with_event k (Some v) = record k { events = k.events ++ v ∷ [] }

-- what is known behind a statement; where a word isn't readable, nothing rests on it
abbrev pub learned : Known → Statement → Known
learned k (Declares name prio) = with_sleeper k name (unwrap_or (priority_of prio) 0)
learned k (Sleeps sig name key ticks) = with_event k (event_of k (Sleeps sig name key ticks))
learned k (WakesOne key) = with_event k (event_of k (WakesOne key))
learned k (WakesAll key) = with_event k (event_of k (WakesAll key))
learned k (Signals name) = with_event k (event_of k (Signals name))
learned k (Ticks ticks) = with_event k (event_of k (Ticks ticks))
learned k IsDone = record k { is_done = true }
