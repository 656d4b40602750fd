-- What is told of the sleepers: that each thread is there once, and who is the next to time out at a tick.
use Rattle.std.specs.Prelude.{ℕ, ◌≤◌, Bool, false, ◌==◌, List, find, map, option_map, Option, None, Some}
use Rattle.lock_model.specs.Queues.{times_waiting}
use Rattle.tick_sleep.specs.Ticks.{waiter_of}
use Rattle.lock_model.specs.declared.numbers.ThreadNo.{ThreadNo}
use Rattle.tick_sleep.specs.declared.plan.TickSleeper.{TickSleeper}

abbrev pub is_tick : ℕ → Option ℕ → Bool
is_tick tick None = false
is_tick tick (Some due) = due == tick

-- the thread that has slept longest of those that are due at a tick
abbrev pub first_at : ℕ → List TickSleeper → Option ThreadNo
first_at tick ss = option_map (λ s. s.t) (find (λ s. is_tick tick s.due) ss)

-- each thread sleeps once
abbrev pub IsOnce : List TickSleeper → Type 0
IsOnce ss = (t : ℕ) → times_waiting t (map waiter_of ss) ≤ 1
