-- The floor of the count, and how its passes have to be.
use Rattle.std.specs.Prelude.{◌≡◌, ℕ, ◌≤◌, ◌<◌, [], length}
use Rattle.std.specs.List.{Contains}
use Rattle.adaptive_mutex.specs.Mutexes.{IsMutex}
use Rattle.floor_table.specs.Descriptions.{IsSized, room_for}
use Rattle.floor_table.specs.declared.description.Description.{Description}
use Rattle.floor_table.specs.Views.{Knowledge}
use Rattle.lock_floor.specs.Floors.{Floor, Pass}
use Rattle.lock_floor.specs.Passes.{IsReady}

-- two threads with room for 3,000 entries each, a mutex whose table has the key 7, and one chain of each sort
pub record IsCounter (floor : Description) : Type 0 where
  pub sized : IsSized floor
  pub threads : length floor.threads ≡ 2
  pub room : (t : ℕ) → t < 2 → room_for floor t ≡ 3000
  pub mutex : IsMutex floor 0
  pub key : Contains floor.keys (0, 7)
  pub one_chain : floor.chains ≡ 1

-- a pass that is ready, holds nothing, and has room for so many entries
pub record IsReadyFor (f : Floor Description) (entries : ℕ) (p : Pass Knowledge) : Type 0 where
  pub ready : IsReady f p
  pub unheld : p.view.share.held ≡ []
  pub room : entries ≤ p.view.spare
