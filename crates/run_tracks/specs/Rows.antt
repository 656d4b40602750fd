-- What the rows of a run tell: who had each turn and what it answered, and what the state's columns were between turns.
use Rattle.std.specs.Prelude.{◌≡◌, ◌↔◌, ℕ, ◌+◌, ◌<◌, ◌≤◌, nat_lt, if◌then◌else◌, true, false, List, length, map, slice_get, Option, Some, None}
use Rattle.lock_history.specs.Outcomes.{line_seen, outcome_seen}
use Rattle.lock_history.specs.declared.outcome.QueueLine.{QueueLine}
use Rattle.lock_model.specs.Plans.{config_of}
use Rattle.lock_model.specs.Queues.{stands}
use Rattle.lock_model.specs.Words.{word_of}
use Rattle.lock_model.specs.declared.event.Entry.{Entry}
use Rattle.lock_model.specs.declared.plan.Plan.{Plan}
use Rattle.lock_model.specs.declared.plan.QueueName.{QueueName}
use Rattle.lock_objects.specs.Represents.{walk_of, hold_of, wait_of}
use Rattle.lock_state.specs.Run.{Run, course_after, has_ended, is_over, queue_lines, scheduled_run, HasLegalHistory, next_turn}
use Rattle.lock_state.specs.State.{State}
use Rattle.run_tracks.specs.Tracks.{EachAt, EachTells, Tells}
use Rattle.run_tracks.specs.declared.threads.ThreadRow.{ThreadRow}
use Rattle.run_tracks.specs.declared.threads.ThreadRows.{ThreadRows}
use Rattle.run_tracks.specs.declared.rows.Rows.{Rows}
use Rattle.run_tracks.specs.declared.rows.TurnRow.{TurnRow}

-- 1. Turns

-- the run of a plan in row n, behind n turns
abbrev pub run_in : Plan → ℕ → Run
run_in plan n = (course_after plan n).run

-- the history in a row, its newest entry first
abbrev pub history_in : Plan → ℕ → List Entry
history_in plan n = (run_in plan n).state.history

-- the newest entry of a history that has become longer
abbrev pub newest : List Entry → List Entry → Option Entry
newest before behind = if nat_lt (length before) (length behind) then slice_get behind 0 else None

-- the entry that the n-th turn made, if it made one
abbrev pub entry_in : Plan → ℕ → Option Entry
entry_in plan n = newest (history_in plan n) (history_in plan (n + 1))

-- The n-th turn of a run, from 0: the run wasn't over, the thread that comes next had the turn, with that answer, and
-- it made that entry.
pub record IsTurn (plan : Plan) (n : ℕ) (turn : TurnRow) : Type 0 where
  pub going : is_over plan (course_after plan n) ≡ false
  pub made : next_turn plan (course_after plan n) ≡ Some (turn.who.0, turn.answer)
  pub thread : turn.who.0 < length plan.threads
  pub entry : turn.entry ≡ entry_in plan n

-- 2. Columns, where row n is what the n-th of a row of runs is

-- the queue on which a thread stands; it stands on no other
abbrev pub IsWhereItStands : State → ℕ → Option QueueName → Type 0
IsWhereItStands s t on = (q : QueueName) → on ≡ Some q ↔ 0 < stands t (s.lists q)

-- what a thread was in a run, but for what it held
pub record IsThread (plan : Plan) (run : Run) (t : ℕ) (row : ThreadRow) : Type 0 where
  pub base : row.base.0 ≡ run.state.base t
  pub effective : row.effective.0 ≡ run.state.effective t
  pub wait : wait_of row.wait ≡ run.state.wait t
  pub blocked_on : row.blocked_on ≡ run.state.blocked_on t
  pub stands_on : IsWhereItStands run.state t row.stands_on
  pub walk : walk_of row.walk ≡ run.state.walk t
  pub ended : row.ended ≡ has_ended plan run t

-- the track of a thread's rows, and that of each lock that it may hold
pub record TellsThread (plan : Plan) (runs : ℕ → Run) (rows t : ℕ) (thread : ThreadRows) : Type 0
  where
    pub row : Tells thread.row rows (λ n row. IsThread plan (runs n) t row)
    pub locks : length thread.held ≡ length plan.locks
    pub held : EachTells thread.held rows (λ l n mode. hold_of mode ≡ (runs n).state.held t l)

-- the tracks of all threads, of the locks' words, and of the queues
pub record TellsColumns (plan : Plan) (chains : ℕ) (runs : ℕ → Run) (rows : ℕ)
    (threads : List ThreadRows) (words : List (List (ℕ × ℕ)))
    (queues : List (ℕ × List QueueLine)) : Type 0 where
  pub thread_each : length threads ≡ length plan.threads
  pub of_threads : EachAt (TellsThread plan runs rows) threads
  pub word_each : length words ≡ length plan.locks
  pub of_words : EachTells words rows (λ l n w. word_of w ≡ (runs n).state.word l)
  pub of_queues : Tells queues rows
      (λ n lines. map line_seen lines ≡ queue_lines chains (config_of plan) (runs n).state)

-- 3. Runs

-- The rows tell the scheduled run of a plan with so many chains, and at most so many turns.
pub record TellsRun (plan : Plan) (chains turns : ℕ) (rows : Rows) : Type 0 where
  -- no more turns were made than were allowed, and fewer only where the run then was over
  pub few : length rows.turns ≤ turns
  pub ends : length rows.turns < turns
      → is_over plan (course_after plan (length rows.turns)) ≡ true
  -- each is a turn of the run
  pub each : EachAt (IsTurn plan) rows.turns
  -- the tracks tell of the begin and of what was behind each turn
  pub columns : TellsColumns plan chains (run_in plan) (length rows.turns + 1) rows.threads
      rows.words rows.queues
  -- what the run left is that of the definition, and has a legal history
  pub outcome : outcome_seen rows.outcome ≡ scheduled_run plan chains turns
  pub legal : HasLegalHistory plan (outcome_seen rows.outcome)
