-- What a worker leaves of its thread's log.
use Rattle.std.specs.Prelude.{◌≡◌, ℕ, List, [], ◌∷◌, ⊤}
use Rattle.lock_model.specs.Law.{LeadsTo, Point, IsAtEnd}
use Rattle.lock_model.specs.Plans.{config_of, operations_of}
use Rattle.lock_model.specs.declared.event.Entry.{Entry}
use Rattle.lock_model.specs.declared.plan.Plan.{Plan}
use Rattle.lock_state.specs.Steps.{Stamps}
use Rattle.floor_table.specs.declared.description.Description.{Description}
use Rattle.floor_table.specs.Steps.{Makes}
use Rattle.floor_table.specs.Views.{Knowledge}

-- a step of the floor, by the thread, made the entry behind these ones of its log
pub record WasStamped (floor : Description) (t : ℕ) (e : Entry) (es : List Entry) : Type 0 where
  pub before : Knowledge
  pub behind : Knowledge
  pub thread : before.thread ≡ t
  pub step : Makes floor (Stamps t e.event ∷ []) before behind
  pub was : before.share.log ≡ es
  pub is : behind.share.log ≡ e ∷ es

-- so was each entry of the log
abbrev pub WereStamped : Description → ℕ → List Entry → Type 0
WereStamped floor t [] = ⊤
WereStamped floor t (e ∷ es) = WasStamped floor t e es × WereStamped floor t es

-- The entries of a thread's log, whose newest is first, lead from its first operation in the plan to its end, and each
-- was made by a step of the floor.
pub record IsWhole (plan : Plan) (floor : Description) (t : ℕ) (log : List Entry) : Type 0 where
  pub point : Point
  pub leads : LeadsTo (config_of plan).kind (operations_of plan t) log point
  pub at_end : IsAtEnd (operations_of plan t) point
  pub stamped : WereStamped floor t log
