-- Cells of locks' tables, as they are found.
use Rattle.std.specs.Prelude.{◌≡◌, ℕ, Some}
use Rattle.std.specs.List.{Contains}
use Rattle.lock_model.specs.declared.numbers.LockNo.{LockNo}
use Rattle.lock_state.specs.Steps.Items.{CellOf}
use Rattle.floor_table.specs.declared.description.Description.{Description}
use Rattle.floor_table.specs.Places.{slot_of}
use Rattle.lock_floor.specs.declared.tables.TableCell.{TableCell}

-- the cell is one of the floor's: it lies where the floor has the value at that key of that lock's
-- table
abbrev pub IsCellOf : Description → TableCell → Type 0
IsCellOf floor cell = slot_of floor (CellOf cell.l.0 cell.key) ≡ Some cell.slot

-- it is that at a key of a lock's table, which is one of the floor's
pub record IsCellAt (floor : Description) (l : LockNo) (key : ℕ) (cell : TableCell) : Type 0 where
  pub named : Contains floor.keys (l.0, key)
  pub its_lock : cell.l ≡ l
  pub its_key : cell.key ≡ key
  pub place : IsCellOf floor cell
