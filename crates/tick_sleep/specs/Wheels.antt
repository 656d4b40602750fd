-- The wheel: a bucket for each tick of a round, with the callouts of the ticks that share it, in order of arrival.
use Rattle.std.specs.Prelude.{◌≡◌, ℕ, ◌%◌, ◌<◌, ◌==◌, if◌then◌else◌, List, [], ◌∷◌, flat_map, slice_get, unwrap_or, Option, None, Some}
use Rattle.lock_model.specs.declared.numbers.ThreadNo.{ThreadNo}
use Rattle.tick_sleep.specs.Limits.{round}
use Rattle.tick_sleep.specs.Ticks.{without_first}
use Rattle.tick_sleep.specs.declared.plan.TickSleeper.{TickSleeper}
use Rattle.tick_sleep.specs.declared.wheel.Callout.{Callout}

-- the bucket of a tick
abbrev pub bucket_at : ℕ → List (List Callout) → List Callout
bucket_at tick wheel = unwrap_or (slice_get wheel (tick % round)) []

-- all but the callout of a thread
abbrev pub without_callout : ℕ → List Callout → List Callout
without_callout t cs = without_first (λ c. c.t.0 == t) cs

-- the callout of a sleeper, where it falls into the bucket
abbrev pub callout_due : ℕ → ThreadNo → Option ℕ → List Callout
callout_due bucket t None = []
callout_due bucket t (Some due) =
    if due % round == bucket then (record { t = t; due = due }) ∷ [] else []

abbrev pub callout_in : ℕ → TickSleeper → List Callout
callout_in bucket s = callout_due bucket s.t s.due

-- those of all sleepers
abbrev pub callouts_in : ℕ → List TickSleeper → List Callout
callouts_in bucket ss = flat_map (callout_in bucket) ss

-- each bucket has the callouts of the sleepers that fall into it, in order of arrival
abbrev pub ShowsSleepers : List (List Callout) → List TickSleeper → Type 0
ShowsSleepers wheel ss =
    (bucket : ℕ) → bucket < round → slice_get wheel bucket ≡ Some (callouts_in bucket ss)
