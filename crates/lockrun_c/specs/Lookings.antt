-- What C is told of the cells of a floor's tables.
use Rattle.std.specs.Prelude.{◌≡◌, ℕ, Option, Some}
use Rattle.std.specs.List.{Contains}
use Rattle.floor_calls.specs.Threads.{Thread}
use Rattle.lock_floor.specs.Cells.{IsCellAt}
use Rattle.lockrun_c.specs.Codes.{byte_of, cell_of}
use Rattle.lockrun_c.specs.declared.codes.Cell.{Cell}
use Rattle.lockrun_c.specs.declared.content.Content.{Content}
use Rattle.lockrun_c.specs.declared.content.Content.TheVariants as content

-- it is the cell of that key, on the thread's floor
abbrev pub HasFoundCell : Option Content → ℕ → ℕ → Cell → Type 0
HasFoundCell home lock key cell =
    (x : Thread) × (home ≡ Some (content.Thread x))
    × IsCellAt x.floor.description (record { 0 = byte_of lock }) key (cell_of cell)

-- the thread's floor has no such key
abbrev pub HasNoSuchKey : Option Content → ℕ → ℕ → Type 0
HasNoSuchKey home lock key =
    (x : Thread) × (home ≡ Some (content.Thread x))
    × (Contains x.floor.description.keys (byte_of lock, key) → ⊥)
