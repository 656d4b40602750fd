-- Histories of runs of a plan.
use Rattle.std.specs.Prelude.{Bool, List, reverse}
use Rattle.lock_model.specs.Legal.{IsLegal}
use Rattle.lock_model.specs.declared.event.Entry.{Entry}
use Rattle.lock_model.specs.declared.plan.Plan.{Plan}

-- The entries, in order of their tickets, are a legal history of a run of the plan: of one whose threads ran, or of a
-- scheduled one, and cut short or not.
pub record IsHistoryOf (plan : Plan) (history : List Entry) : Type 0 where
  pub is_run : Bool
  pub cut_short : Bool
  pub legal : IsLegal plan is_run cut_short (reverse history)
