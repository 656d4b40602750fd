-- How far a worker has come in its thread's operations.
use Rattle.std.specs.Prelude.{◌≡◌, ℕ, ◌+◌, ◌*◌, ◌<◌, ◌≤◌, length, reverse, take}
use Rattle.lock_model.specs.Law.{LeadsTo, Before, Cut}
use Rattle.lock_model.specs.Operations.{held_of}
use Rattle.lock_model.specs.Plans.{config_of, operations_of}
use Rattle.lock_model.specs.declared.plan.Plan.{Plan}
use Rattle.floor_table.specs.declared.description.Description.{Description}
use Rattle.floor_table.specs.Views.{Knowledge}
use Rattle.lock_floor.specs.Floors.{Floor, Pass}
use Rattle.lock_floor.specs.Passes.{IsReady, IsFinished, first_pass}
use Rattle.floor_run.specs.Workers.{WereStamped, IsWhole}

-- The operation n is a thread's next in the plan. Its pass is ready and holds what the operations before lead to; its
-- log leads there, and a step of the floor made each entry; and it has room for two entries for each operation that is
-- left.
pub record IsBefore (plan : Plan) (f : Floor Description) (t n : ℕ) (p : Pass Knowledge) : Type 0
  where
    pub ready : IsReady f p
    pub thread : p.view.thread ≡ t
    pub within : n ≤ length (operations_of plan t)
    pub held : p.view.share.held ≡ held_of (operations_of plan t) n
    pub leads : LeadsTo (config_of plan).kind (operations_of plan t) p.view.share.log (Before n)
    pub stamped : WereStamped f.description t p.view.share.log
    pub room : 2 * length (operations_of plan t) ≤ p.view.spare + 2 * n

-- A thread was cut short by a refusal or a halt, and gives back what it holds, the lock that it gained last first. Its
-- pass is ready; of the locks to which the operations before n lead it holds so many of the first; its log leads there,
-- and a step of the floor made each entry; and it has room for an entry for each lock that is left.
pub record IsCut (plan : Plan) (f : Floor Description) (t : ℕ) (p : Pass Knowledge) : Type 0 where
  pub ready : IsReady f p
  pub thread : p.view.thread ≡ t
  pub n : ℕ
  pub left : ℕ
  pub held : p.view.share.held ≡ take left (held_of (operations_of plan t) n)
  pub leads : LeadsTo (config_of plan).kind (operations_of plan t) p.view.share.log
      (Cut (reverse p.view.share.held))
  pub stamped : WereStamped f.description t p.view.share.log
  pub room : length p.view.share.held ≤ p.view.spare

-- the pass of a thread as it is made
pub record IsNew (f : Floor Description) (t : ℕ) (p : Pass Knowledge) : Type 0 where
  pub thread : t < length f.description.threads
  pub first : p ≡ first_pass f.table f.description t

-- a worker has come to its thread's end in the plan
pub record IsDone (plan : Plan) (f : Floor Description) (t : ℕ) (p : Pass Knowledge) : Type 0 where
  pub finished : IsFinished f p
  pub thread : p.view.thread ≡ t
  pub whole : IsWhole plan f.description t p.view.share.log
