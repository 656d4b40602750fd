-- What a thread takes out of its home, or finds out.
use Rattle.std.specs.Prelude.{◌≡◌, ℕ, [], ◌∷◌, Some, ⊤}
use mathlib.Core.Option.{some}
use Rattle.lock_state.specs.Steps.{TakesItem}
use Rattle.lock_state.specs.Steps.Items.{Item, TurnstileChain, SleepChain, RecordOf, CellOf, ClassGraph, item_with}
use Rattle.floor_table.specs.declared.description.Description.{Description}
use Rattle.floor_table.specs.declared.slot.Slot.{Slot}
use Rattle.floor_table.specs.declared.slot.Slot.TheVariants.{Record, Cell, Turnstiles, SleepQueues, Graph}
use Rattle.floor_table.specs.Places.{slot_of}
use Rattle.floor_table.specs.Shelves.{found}
use Rattle.floor_table.specs.Steps.{Makes}
use Rattle.floor_table.specs.Views.{Knowledge, seeing}
use Rattle.lock_floor.specs.Views.{took}

-- what a value of an item is: a chain of turnstiles, a chain of sleep queues, the record of the thread, a cell of a
-- lock's table, or the class graph
abbrev pub IsOfKind : Item → Slot → Type 0
IsOfKind (TurnstileChain k) (Record b) = ⊥
IsOfKind (TurnstileChain k) (Cell value) = ⊥
IsOfKind (TurnstileChain k) (Turnstiles chain) = ⊤
IsOfKind (TurnstileChain k) (SleepQueues chain) = ⊥
IsOfKind (TurnstileChain k) (Graph b) = ⊥
IsOfKind (SleepChain k) (Record b) = ⊥
IsOfKind (SleepChain k) (Cell value) = ⊥
IsOfKind (SleepChain k) (Turnstiles chain) = ⊥
IsOfKind (SleepChain k) (SleepQueues chain) = ⊤
IsOfKind (SleepChain k) (Graph b) = ⊥
IsOfKind (RecordOf t) (Record b) = b.value.thread ≡ t
IsOfKind (RecordOf t) (Cell value) = ⊥
IsOfKind (RecordOf t) (Turnstiles chain) = ⊥
IsOfKind (RecordOf t) (SleepQueues chain) = ⊥
IsOfKind (RecordOf t) (Graph b) = ⊥
IsOfKind (CellOf l key) (Record b) = ⊥
IsOfKind (CellOf l key) (Cell value) = ⊤
IsOfKind (CellOf l key) (Turnstiles chain) = ⊥
IsOfKind (CellOf l key) (SleepQueues chain) = ⊥
IsOfKind (CellOf l key) (Graph b) = ⊥
IsOfKind ClassGraph (Record b) = ⊥
IsOfKind ClassGraph (Cell value) = ⊥
IsOfKind ClassGraph (Turnstiles chain) = ⊥
IsOfKind ClassGraph (SleepQueues chain) = ⊥
IsOfKind ClassGraph (Graph b) = ⊤

-- the seat itself has out what the item's place has
abbrev pub HasItOut : Description → Item → Knowledge → Type 0
HasItOut floor i v =
    (j : ℕ) × (slot_of floor i ≡ Some j) × ((x : Slot) × (found j v.out ≡ some x))

-- The thread found the item out. It made no step; at that moment, in the state to which all steps led that had been
-- made by then, a thread had the item out, and the seat has seen these steps. It was the thread itself only where its
-- own seat has the item.
pub record FindsOut (floor : Description) (i : Item) (old new : Knowledge) : Type 0 where
  pub taker : ℕ
  pub moment : Makes floor [] old new
  pub out : item_with moment.state i ≡ Some taker
  pub itself : taker ≡ old.thread → HasItOut floor i old

-- the thread took the item out of its place
pub record Takes (floor : Description) (i : Item) (j : ℕ) (old new : Knowledge) : Type 0 where
  pub value : Slot
  pub view : new ≡ seeing new.seen (took old i j value)
  pub step : Makes floor (TakesItem old.thread i ∷ []) old new
  pub kind : IsOfKind i value
