use Rattle.std.proofs.Common.{◌≡◌, ℕ, take, is_some}
use Rattle.std.specs.List.{list_any}
use Rattle.indexmap.specs.IndexMap.{get}
use Rattle.lock_model.specs.Keys.{op_names}
use Rattle.lock_history.specs.Books.{place_eq, HasNoValue}
use Rattle.lock_history.proofs.tables.Tables.make.Given as goal

-- the places of the threads so far have room
abbrev pub invariant-loop-thread : goal.invariant-loop-thread
invariant-loop-thread l = HasNoValue l.slots
    × ((i key : ℕ) → is_some (get place_eq l.slots (i, key)) ≡ list_any (λ d. list_any (op_names i key) d.ops)
    (take l.thread-index l.plan.threads))
