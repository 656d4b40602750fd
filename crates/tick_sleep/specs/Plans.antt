-- What a plan says of a sleeper by its number, and which plans scripts give.
use Rattle.std.specs.Prelude.{◌≡◌, ℕ, ◌≤◌, Bool, true, ◌&&◌, nat_le, nat_lt, List, [], Option, None, Some, length, map, slice_get, unwrap_or}
use Rattle.std.specs.List.{list_all}
use Rattle.tick_sleep.specs.Limits.{most_sleepers, most_events, greatest_key, most_sleep_ticks, most_ticks}
use Rattle.tick_sleep.specs.declared.plan.SleeperDecl.{SleeperDecl}
use Rattle.tick_sleep.specs.declared.plan.TickEvent.{TickEvent}
use Rattle.tick_sleep.specs.declared.plan.TickEvent.TheVariants.{Sleep, WakeOne, WakeAll, Post, Tick}
use Rattle.tick_sleep.specs.declared.plan.TickPlan.{TickPlan}

abbrev pub sleeper_names : List SleeperDecl → List (List ℕ)
sleeper_names ds = map (λ d. d.name) ds

abbrev pub sleeper_name : List SleeperDecl → ℕ → List ℕ
sleeper_name ds t = unwrap_or (slice_get (sleeper_names ds) t) []

-- so many ticks, where a sleep has any, are within their range
abbrev pub can_time_out : Option ℕ → Bool
can_time_out None = true
can_time_out (Some n) = nat_le 1 n && nat_le n most_sleep_ticks

-- an event of so many threads names one of them, and its key and its ticks are within their ranges
abbrev pub can_happen : ℕ → TickEvent → Bool
can_happen threads (Sleep t key ticks sig) =
    nat_lt t.0 threads && nat_le key greatest_key && can_time_out ticks
can_happen threads (WakeOne key) = nat_le key greatest_key
can_happen threads (WakeAll key) = nat_le key greatest_key
can_happen threads (Post t) = nat_lt t.0 threads
can_happen threads (Tick n) = nat_le 1 n && nat_le n most_ticks

-- what is true of each plan that a script gives
pub record IsProper (plan : TickPlan) : Type 0 where
  pub few_sleepers : length plan.sleepers ≤ most_sleepers
  pub few_events : length plan.events ≤ most_events
  pub events : list_all (can_happen (length plan.sleepers)) plan.events ≡ true
