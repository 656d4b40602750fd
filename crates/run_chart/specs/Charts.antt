-- What a chart shows of the scheduled run of its plan. Row n is the run behind n turns, and turn n leads from row n to
-- row n + 1. A bar covers a row, and an arrow stands at a turn, exactly where what it says is so in the run.
use Rattle.std.specs.Prelude.{◌≡◌, ◌≤◌, ◌<◌, ℕ, ◌+◌, All, List, find, length, map, option_map, Option}
use Rattle.std.specs.List.{filter_map, range_with_len}
use Rattle.chart_layout.specs.declared.layout.Chart.{Chart}
use Rattle.chart_layout.specs.declared.layout.Lane.{Lane}
use Rattle.chart_layout.specs.declared.sentence.End.{End}
use Rattle.chart_layout.specs.declared.sentence.End.TheVariants as end
use Rattle.lock_model.specs.Text as text
use Rattle.lock_model.specs.declared.numbers.ThreadNo.{ThreadNo}
use Rattle.lock_model.specs.declared.plan.Plan.{Plan}
use Rattle.lock_model.specs.declared.plan.QueueName.{QueueName}
use Rattle.lock_state.specs.Run.{course_after, ending_of, has_ended, threads_of}
use Rattle.run_chart.specs.Bars.{kinds_at, kinds_in, standing, IsBarOf}
use Rattle.run_chart.specs.Steps.{prios_at, prios_in, IsStepOf}
use Rattle.run_chart.specs.Turns.{arrows_shown, in_turns, mark_shown, sentence_shown}
use Rattle.run_tracks.specs.Rows.{run_in}

-- 1. Lanes

-- the first row of so many turns in which a thread has come to its end, if there is one
abbrev pub ended_in : Plan → ℕ → ℕ → Option ℕ
ended_in plan turns t =
    find (λ n. has_ended plan (run_in plan n) t) (range_with_len 0 (turns + 1))

-- the lane of a thread ends there
abbrev pub lane_in : Plan → ℕ → ℕ → Lane
lane_in plan turns t = record { thread = record { 0 = t }; ended = ended_in plan turns t }

-- 2. The end

-- a thread that stands on a queue in a row, with its queue
abbrev pub wait_in : Plan → ℕ → ℕ → Option (ThreadNo × QueueName)
wait_in plan n t = option_map (λ q. (record { 0 = t }, q)) (standing (run_in plan n).state t)

-- who stands on one, by number
abbrev pub waits_in : Plan → ℕ → List (ThreadNo × QueueName)
waits_in plan n = filter_map (wait_in plan n) (threads_of plan)

-- the end is that of a run of so many turns, and where it is stuck, these wait
abbrev pub IsEnd : Plan → ℕ → End → Type 0
IsEnd plan turns end.Done = ending_of plan (course_after plan turns) ≡ text.IsDone
IsEnd plan turns (end.Stuck waits) = (ending_of plan (course_after plan turns) ≡ text.IsStuck)
    × (waits ≡ waits_in plan turns)
IsEnd plan turns end.Reversed = ending_of plan (course_after plan turns) ≡ text.IsReversed
IsEnd plan turns end.TooLong = ending_of plan (course_after plan turns) ≡ text.IsTooLong

-- 3. Charts

-- the rows of a chart
abbrev pub IsRow : Chart → ℕ → Type 0
IsRow chart n = (chart.first ≤ n) × (n ≤ chart.last)

-- Each thread has a lane, in order. In each row the bars that cover it say just what is so of their thread, and the one
-- step that covers it is its effective priority there, beside the base; none lies outside of the window. Arrows, marks
-- and sentences are just those of the turns that lead from the first row to the last, in order. The end is that of the
-- whole run.
pub record IsChartOf (plan : Plan) (chart : Chart) : Type 0 where
  pub lanes : chart.lanes ≡ map (lane_in plan chart.turns) (threads_of plan)
  pub bars : (t n : ℕ) → t < length plan.threads → IsRow chart n
      → kinds_at t n chart.bars ≡ kinds_in plan (run_in plan n).state t
  pub bars_within : All (IsBarOf (length plan.threads) chart.first chart.last) chart.bars
  pub steps : (t n : ℕ) → t < length plan.threads → IsRow chart n
      → prios_at t n chart.steps ≡ prios_in (run_in plan n).state t
  pub steps_within : All (IsStepOf (length plan.threads) chart.first chart.last) chart.steps
  pub arrows : chart.arrows ≡ in_turns arrows_shown plan chart.first chart.last
  pub marks : chart.marks ≡ in_turns mark_shown plan chart.first chart.last
  pub sentences : chart.sentences ≡ in_turns sentence_shown plan chart.first chart.last
  pub ended : IsEnd plan chart.turns chart.end
