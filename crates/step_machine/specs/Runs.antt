-- Which run of a plan a machine represents.
use Rattle.std.specs.Prelude.{◌≡◌, ℕ, ◌+◌, ◌*◌, ◌<◌, List, length, Some, IsSomeAnd, IsTrue}
use Rattle.std.specs.List.{Contains}
use Rattle.lock_model.specs.Plans.{config_of, operations_of}
use Rattle.lock_model.specs.Holds.{NotHeld, Holds}
use Rattle.lock_model.specs.Keys.{plan_names}
use Rattle.lock_model.specs.Operations.{held_of, hold_in, operations_in_all}
use Rattle.lock_state.specs.Run.{Run, lock_of_wait, held_now, held_before}
use Rattle.lock_model.specs.declared.event.Held.{Held}
use Rattle.lock_model.specs.declared.plan.Plan.{Plan}
use Rattle.step_machine.specs.declared.machine.Machine.{Machine}
use Rattle.step_machine.specs.Represents.{Represents}
use Rattle.step_machine.specs.Steps.{Progress, progress}

-- what a thread's operations before the n-th lead to
abbrev pub held_at : Plan → ℕ → ℕ → List Held
held_at plan t n = held_of (operations_of plan t) n

-- A thread is as far as the run says: it comes to its next operation, and holds what its operations so far and the wait
-- that it is in lead to. Where it has released the lock of its wait, that is the lock that it released last.
pub record IsAsFar (plan : Plan) (r : Run) (t : ℕ) (a : Progress) : Type 0 where
  pub next_op : a.next_op ≡ r.next_op t
  pub held : a.held ≡ held_now plan r t
  pub left : (l : ℕ) → lock_of_wait (config_of plan) r.state t ≡ Some l
      → r.state.held t l ≡ NotHeld → hold_in (held_before plan r t) l ≡ Holds a.left

-- there is room for two entries of each operation,
abbrev pub HasRoom : Plan → Machine → Type 0
HasRoom plan m = length m.log.entries + m.log.spare ≡ 2 * operations_in_all plan

-- and for each key that the plan names
abbrev pub HasKeys : Plan → Machine → Type 0
HasKeys plan m = (l key : ℕ) → IsTrue (plan_names plan l key) → Contains m.tables.places (l, key)

-- The machine represents the run: its objects represent the run's state, each thread is as far as the run says, and
-- there is room.
pub record RepresentsRun (plan : Plan) (m : Machine) (r : Run) : Type 0 where
  pub shows : Represents (config_of plan) m r.state
  pub progress : (t : ℕ) → t < length plan.threads → IsSomeAnd (progress m t) (IsAsFar plan r t)
  pub room : HasRoom plan m
  pub keys : HasKeys plan m
