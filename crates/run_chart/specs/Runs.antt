-- The run of which a chart is made.
use Rattle.std.specs.Prelude.{◌<◌, ◌≤◌, ℕ, length}
use Rattle.lock_model.specs.Operations.{IsProper}
use Rattle.lock_model.specs.declared.plan.Plan.{Plan}
use Rattle.lock_model.specs.declared.turn.Turn.{Turn}
use Rattle.run_chart.specs.declared.rows.ThreadOf.{ThreadOf}
use Rattle.run_chart.specs.declared.rows.TurnOf.{TurnOf}
use Rattle.run_tracks.specs.Rows.{TellsRun}
use Rattle.run_tracks.specs.declared.rows.Rows.{Rows}

-- the rows tell a scheduled run of the plan, which is one that some script gives
pub record IsRunOf (plan : Plan) (rows : Rows) : Type 0 where
  pub proper : IsProper plan
  pub chains : ℕ
  pub most : ℕ
  pub told : TellsRun plan chains most rows
  pub few : length rows.turns ≤ 1000000

-- the turn is one of that run, and a thread of it has the turn
pub record IsTurnOf (at : TurnOf) : Type 0 where
  pub run : IsRunOf at.plan.now at.rows.now
  pub turn : at.turn < length at.rows.now.turns
  pub thread : at.who.0 < length at.rows.now.threads

-- a thread of that run, in a window of its rows
pub record IsThreadOf (at : ThreadOf) : Type 0 where
  pub run : IsRunOf at.plan.now at.rows.now
  pub thread : at.who.0 < length at.rows.now.threads
  pub in_order : at.from ≤ at.to
  pub within : at.to ≤ length at.rows.now.turns

-- what is so of such a turn, by what it answered
abbrev pub of_turn : {A : Type 0} → (Plan → ℕ → ℕ → Turn → A) → TurnOf → Turn → A
of_turn shown at answer = shown at.plan.now at.turn at.who.0 answer
