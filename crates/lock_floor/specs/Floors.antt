-- A floor, a pass and the keeper, as contracts see them.
use Rattle.std.specs.Prelude.{Bool}
use Rattle.atomic_table.specs.Seated.{TableId}
use Rattle.floor_table.specs.Views.{Knowledge}
use Rattle.lock_floor.specs.declared.calls.Call.{Call}

-- which table a floor has, and what it was made for
pub record Floor (K : Type 0) : Type 0 where
  pub table : TableId
  pub description : K

-- which table a pass has a seat at, what its seat knows, whether it is finished, and the call that it is in the middle
-- of
pub record Pass (V : Type 0) : Type 0 where
  pub table : TableId
  pub view : V
  pub finished : Bool
  pub call : Call

-- which table the keeper has a seat at, and what its seat knows
pub record Keeper : Type 0 where
  pub table : TableId
  pub view : Knowledge
