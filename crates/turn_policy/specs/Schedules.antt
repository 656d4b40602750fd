-- The schedule that a policy makes of a plan: what the plan's own says comes first, as who arrives when, and behind it
-- the turns that the policy chose, until it chooses nobody.
use Rattle.std.specs.Prelude.{◌≡◌, ℕ, ◌-◌, ◌<◌, List, ◌++◌, length, map, option_map, reverse, slice_get, take, Option, Some, None}
use Rattle.lock_model.specs.Limits.{most_scheduled}
use Rattle.lock_model.specs.declared.numbers.ThreadNo.{ThreadNo}
use Rattle.lock_model.specs.declared.plan.Plan.{Plan}
use Rattle.lock_state.specs.Run.{Run, after_turns}
use Rattle.turn_policy.specs.Policies.{choice}
use Rattle.turn_policy.specs.declared.policy.Policy.{Policy}

-- 1. Behind a list of turns, the first of them first

abbrev pub run_by : Plan → List ThreadNo → Run
run_by plan ts = after_turns plan (reverse (map (λ t. t.0) ts))

-- who had the last of them
abbrev pub last_of : List ThreadNo → Option ℕ
last_of ts = option_map (λ t. t.0) (slice_get ts (length ts - 1))

-- 2. Schedules

-- whom the policy chooses behind the plan's schedule and those that it has chosen already
abbrev pub next_by : Policy → Plan → List ThreadNo → Option ℕ
next_by policy plan chosen =
    choice policy plan (run_by plan (plan.schedule ++ chosen)) (last_of (plan.schedule ++ chosen))
    (length chosen)

-- The turns are those of the plan's schedule, and behind them some that the policy chose, one by one.
pub record IsBegun (policy : Policy) (plan : Plan) (ts : List ThreadNo) : Type 0 where
  pub chosen : List ThreadNo
  pub behind : ts ≡ plan.schedule ++ chosen
  pub each : (n : ℕ) (t : ThreadNo) → slice_get chosen n ≡ Some t
      → next_by policy plan (take n chosen) ≡ Some t.0

-- The schedule that the policy makes: behind it the policy chooses nobody.
pub record IsPlanned (policy : Policy) (plan : Plan) (ts : List ThreadNo) : Type 0 where
  pub begun : IsBegun policy plan ts
  pub over : next_by policy plan begun.chosen ≡ None

-- it has more entries than a script may have
abbrev pub IsTooLong : Policy → Plan → Type 0
IsTooLong policy plan =
    (ts : List ThreadNo) × IsBegun policy plan ts × (most_scheduled < length ts)

-- 3. The plan that is made

-- the same plan with another schedule
abbrev pub with_schedule : Plan → List ThreadNo → Plan
with_schedule plan ts = record plan { schedule = ts }
