-- The rule of a floor's table: between any two steps it represents a state that is lawful on a running floor, to
-- which the steps that were made so far led. What each seat has seen of them is of that one list.
use Rattle.std.specs.Prelude.{List}
use Rattle.floor_table.specs.declared.description.Description.{Description}
use Rattle.lock_state.specs.State.{State}
use Rattle.lock_state.specs.Steps.{Step}
use Rattle.floor_table.specs.Past.{AreSeen}
use Rattle.floor_table.specs.Represents.{Board, Represents}
use Rattle.floor_table.specs.Steps.{IsSound}

pub record FloorHolds (floor : Description) (b : Board) : Type 0 where
  pub past : List Step
  pub state : State
  pub sound : IsSound floor past state
  pub represents : Represents floor b state
  pub seen : AreSeen b.views past
