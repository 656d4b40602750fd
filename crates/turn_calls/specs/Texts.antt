-- The text of a run as it stands.
use Rattle.std.specs.Prelude.{◌≡◌, ℕ, Bool, not, ◌&&◌, List, [], map, reverse}
use Rattle.std.specs.FinMap.{entries}
use Rattle.std.specs.List.{list_all}
use Rattle.lock_history.specs.Books.{Slots}
use Rattle.lock_history.specs.Endings.{ending_of, numbers_of}
use Rattle.lock_history.specs.Outcomes.{line_seen}
use Rattle.lock_model.specs.Plans.{config_of}
use Rattle.lock_model.specs.Text.{Outcome, text_of}
use Rattle.lock_model.specs.declared.plan.Plan.{Plan}
use Rattle.lock_state.specs.Run as run
use Rattle.lock_state.specs.Run.{Run, Course, has_ended, is_idle, outcome_of, queue_lines, threads_of, turn_of}
use Rattle.turn_calls.specs.declared.text.Shown.{Shown}

-- 1. What is promised

-- a thread goes on where it hasn't ended, and its turn wouldn't be idle
abbrev pub goes_on : Plan → Run → ℕ → Bool
goes_on plan r t = not (has_ended plan r t) && not (is_idle (turn_of plan r t).answer)

-- none does: a whole round would be idle
abbrev pub nobody_goes_on : Plan → Run → Bool
nobody_goes_on plan r = list_all (λ t. not (goes_on plan r t)) (threads_of plan)

-- the run as the scheduled one has it where nobody comes any more: it is stuck where a whole round would be idle
abbrev pub as_it_stands : Plan → Run → Course
as_it_stands plan r = record { run = r; coming = []; idle = nobody_goes_on plan r }

-- so its text, with so many chains of each sort
abbrev pub text_of_run : Plan → ℕ → Run → List ℕ
text_of_run plan chains r = text_of plan (outcome_of plan chains (as_it_stands plan r))

-- 2. Its parts

-- what is printed of the run beside its tables
pub record IsShown (plan : Plan) (chains : ℕ) (r : Run) (shown : Shown) : Type 0 where
  pub history : shown.history ≡ reverse r.state.history
  pub queues : map line_seen shown.queues.items ≡ queue_lines chains (config_of plan) r.state
  pub finals : numbers_of shown.finals.items
      ≡ map (λ t. (r.state.base t, r.state.effective t)) (threads_of plan)
  pub ending : ending_of shown.last ≡ run.ending_of plan (as_it_stands plan r)

-- with tables
abbrev pub outcome_with : Shown → Slots → Outcome
outcome_with shown tables = record {
  history = shown.history;
  queues = map line_seen shown.queues.items;
  finals = numbers_of shown.finals.items;
  tables = entries tables.present;
  ending = ending_of shown.last;
}
