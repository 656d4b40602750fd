-- What a change of a value of a lock's table says in a log, and what such an entry, or that of a base priority, makes
-- of the value that it is about.
use Rattle.std.specs.Prelude.{◌≡◌, ℕ, List, [], ◌∷◌, ◌++◌, Option, Some}
use Rattle.std.specs.Box.{with_value}
use Rattle.lock_model.specs.Config.{Config}
use Rattle.lock_model.specs.Events.{OfPrio, NoPrio, NewBase, ShowsPrios, facets, new_base}
use Rattle.lock_model.specs.History.{added}
use Rattle.lock_model.specs.declared.event.Entry.{Entry}
use Rattle.lock_model.specs.declared.event.Event.{Event}
use Rattle.lock_model.specs.declared.event.Event.TheVariants as event
use Rattle.lock_model.specs.declared.event.OfTable.{OfTable}
use Rattle.lock_model.specs.declared.event.OfTable.TheVariants.{NoTable, SetsTo, AddsTo, Reads}
use Rattle.lock_model.specs.declared.numbers.LockNo.{LockNo}
use Rattle.lock_state.specs.Steps.Items.{Item, RecordOf, CellOf}
use Rattle.thread_records.specs.Records.{Record, with_given_base}
use Rattle.floor_table.specs.declared.slot.Slot.{Slot}
use Rattle.floor_table.specs.declared.slot.Slot.TheVariants as slot
use Rattle.floor_table.specs.Views.{Knowledge}
use Rattle.lock_floor.specs.declared.tables.Change.{Change}
use Rattle.lock_floor.specs.declared.tables.Change.TheVariants.{Set, Add}
use Rattle.lock_floor.specs.Views.{stamped}

-- the event of a change at a key of a lock's table
abbrev pub event_of : LockNo → ℕ → Change → Event
event_of l key (Set value) = event.Set l key value
event_of l key (Add amount) = event.Added l key amount

-- the items whose values each column of an event changes: an edit changes a cell of a table,
abbrev pub changed_by_table : OfTable → List Item
changed_by_table NoTable = []
changed_by_table (SetsTo l key value) = CellOf l.0 key ∷ []
changed_by_table (AddsTo l key amount) = CellOf l.0 key ∷ []
changed_by_table (Reads l key found) = []

-- and a new base priority the thread's record
abbrev pub changed_by_prio : ℕ → OfPrio → List Item
changed_by_prio t NoPrio = []
changed_by_prio t (NewBase base) = RecordOf t ∷ []
changed_by_prio t (ShowsPrios base effective) = []

-- the one item whose value an event of a thread changes
abbrev pub IsChangeOf : ℕ → Event → Item → Type 0
IsChangeOf t e i =
    (changed_by_table (facets e).table ++ changed_by_prio t (facets e).prio) ≡ (i ∷ [])

-- the value at a key after an event about it
abbrev pub value_with : OfTable → Option ℕ → Option ℕ
value_with NoTable before = before
value_with (SetsTo l key value) before = Some value
value_with (AddsTo l key amount) before = Some (added before amount)
value_with (Reads l key found) before = before

abbrev pub cell_after : Event → Option ℕ → Option ℕ
cell_after e before = value_with (facets e).table before

-- a thread's record after an event of the thread
abbrev pub record_after : Event → Record → Record
record_after e before = with_given_base (new_base e) before

-- what lies behind a latch, after an event about it: no event is about a chain or the class graph
abbrev pub changed : Event → Slot → Slot
changed e (slot.Cell before) = slot.Cell (cell_after e before)
changed e (slot.Record before) = slot.Record (with_value before (record_after e before.value))
changed e (slot.Turnstiles before) = slot.Turnstiles before
changed e (slot.SleepQueues before) = slot.SleepQueues before
changed e (slot.Graph before) = slot.Graph before

-- the values that are out, after an event about the one that was taken last
abbrev pub last_changed : Event → List (ℕ × Slot) → List (ℕ × Slot)
last_changed e [] = []
last_changed e (x ∷ xs) = (x.0, changed e x.1) ∷ xs

-- after a stamp that made the entry, and changed the value that was taken last
abbrev pub stamped_change : Config → Knowledge → Entry → Knowledge
stamped_change c v entry = record (stamped c v entry) { out = last_changed entry.event v.out }
