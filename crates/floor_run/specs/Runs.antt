-- What a run of a plan's threads leaves to be printed.
use Rattle.std.specs.Prelude.{◌≡◌, ℕ, Bool, true, false, if◌then◌else◌, List, [], map, reverse}
use Rattle.std.specs.FinMap.{entries}
use Rattle.std.specs.List.{list_any}
use Rattle.lock_model.specs.History.{base_in, tables_of}
use Rattle.lock_model.specs.Law.{is_halt}
use Rattle.lock_model.specs.Legal.{IsLegal}
use Rattle.lock_model.specs.Plans.{config_of}
use Rattle.lock_model.specs.Text.{Outcome, Ending, IsStuck}
use Rattle.lock_model.specs.declared.event.Entry.{Entry}
use Rattle.lock_model.specs.declared.plan.Plan.{Plan}
use Rattle.lock_state.specs.Run.{threads_of, whole_ending}
use Rattle.floor_table.specs.Descriptions.{description_of}
use Rattle.lock_floor.specs.Closings.{IsClosing}
use Rattle.lock_floor.specs.declared.closing.Closing.{Closing}

-- whether an entry tells of a halt
abbrev pub has_halt : List Entry → Bool
has_halt history = list_any (λ e. is_halt e.event) history

-- how a run of threads ended, by its history: stuck where somebody was halted, or else reversed where a take was
-- refused
abbrev pub ending_of_run : List Entry → Ending
ending_of_run history = if has_halt history then IsStuck else whole_ending history

-- what is printed of a run of threads that has a history, whose newest entry is first: no queue, and for each thread
-- its last base twice
abbrev pub outcome_of : Plan → List Entry → Outcome
outcome_of plan history = record {
  history = reverse history;
  queues = [];
  finals = map (λ t. (base_in (config_of plan) history t, base_in (config_of plan) history t)) (threads_of plan);
  tables = entries (tables_of history);
  ending = ending_of_run history;
}

-- an outcome of a run of a plan's threads: that of some legal history, in which each thread came to its end
pub record IsOutcome (plan : Plan) (o : Outcome) : Type 0 where
  pub history : List Entry
  pub legal : IsLegal plan true false history
  pub outcome : o ≡ outcome_of plan history

-- The run left its floor so, which the plan gave with so many chains, and its history is that of the floor. Where it
-- ended stuck, the halt word was set
pub record IsRunOf (plan : Plan) (chains : ℕ) (o : Outcome) (x : Closing) : Type 0 where
  pub run : IsOutcome plan o
  pub closing : IsClosing (description_of plan chains) (threads_of plan) x
  pub same : closing.history ≡ run.history
  pub halted : o.ending ≡ IsStuck → x.halted ≡ true
