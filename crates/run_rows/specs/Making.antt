-- A run under way, whose rows are made turn by turn.
use Rattle.std.specs.Prelude.{◌≡◌, ◌≢◌, ℕ, ◌+◌, ◌<◌, ◌≤◌, true, List, length, Option, Some, None}
use Rattle.lock_model.specs.declared.plan.Plan.{Plan}
use Rattle.lock_state.specs.Run.{Run, course_after, is_over}
use Rattle.step_world.specs.Courses.{Course, IsCourse}
use Rattle.run_tracks.specs.Rows.{IsTurn, TellsColumns, run_in}
use Rattle.run_tracks.specs.Tracks.{EachAt}
use Rattle.run_rows.specs.declared.columns.Columns.{Columns}
use Rattle.run_tracks.specs.declared.rows.TurnRow.{TurnRow}

-- in a row each thread but the one that had the turn before it holds what it held
pub record OthersHoldOn (runs : ℕ → Run) (row who : ℕ) : Type 0 where
  pub before : ℕ
  pub is : row ≡ before + 1
  pub held : (t : ℕ) → t ≢ who → (runs row).state.held t ≡ (runs before).state.held t

-- the course is that of the plan behind n turns, and the tracks tell of the rows up to there
pub record IsAt (plan : Plan) (chains n : ℕ) (course : Course) (columns : Columns) : Type 0 where
  pub plan_is : course.world.plan ≡ plan
  pub chains_are : course.world.chains ≡ chains
  pub course_is : IsCourse course (course_after plan n)
  pub tells : TellsColumns plan chains (run_in plan) (n + 1) columns.threads.items
      columns.words.items columns.queues

-- the run was over and stays where it is, or its n-th turn was made
abbrev pub GoesOn : Plan → ℕ → ℕ → Option TurnRow → Course → Columns → Type 0
GoesOn plan chains n None course columns =
    (is_over plan (course_after plan n) ≡ true) × IsAt plan chains n course columns
GoesOn plan chains n (Some turn) course columns =
    IsTurn plan n turn × IsAt plan chains (n + 1) course columns

-- these turns were made: as many as were allowed, or up to where the run was over
pub record HasMade (plan : Plan) (chains turns : ℕ) (made : List TurnRow) (course : Course)
    (columns : Columns) : Type 0 where
  pub few : length made ≤ turns
  pub ends : length made < turns → is_over plan (course_after plan (length made)) ≡ true
  pub each : EachAt (IsTurn plan) made
  pub at : IsAt plan chains (length made) course columns
