use Rattle.std.proofs.Common.{◌≡◌, ℕ, ◌||◌, take, is_some}
use Rattle.std.specs.List.{list_any}
use Rattle.indexmap.specs.IndexMap.{get}
use Rattle.lock_model.specs.Keys.{op_names}
use Rattle.lock_history.specs.Books.{place_eq, HasNoValue}
use Rattle.lock_history.proofs.tables.add_slots.Given as goal

-- the places of the operations so far have room
abbrev pub invariant-loop-op : goal.invariant-loop-op
invariant-loop-op l = HasNoValue l.slots
    × ((i key : ℕ) → is_some (get place_eq l.slots (i, key)) ≡
    (is_some (get place_eq l.initial.slots (i, key)) || list_any (op_names i key) (take l.op-index l.ops)))
