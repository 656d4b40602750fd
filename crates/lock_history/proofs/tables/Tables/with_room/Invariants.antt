use Rattle.std.proofs.Common.{◌≡◌, ℕ, take, is_some}
use Rattle.std.specs.List.{list_any}
use Rattle.indexmap.specs.IndexMap.{get}
use Rattle.lock_history.specs.Books.{place_eq, HasNoValue}
use Rattle.lock_history.proofs.tables.Tables.with_room.Given as goal

-- the keys so far have room
abbrev pub invariant-loop-key : goal.invariant-loop-key
invariant-loop-key l = HasNoValue l.slots
    × ((i k : ℕ) → is_some (get place_eq l.slots (i, k)) ≡ list_any (place_eq (i, k)) (take l.key-index l.keys))
