use Rattle.lock_floor.proofs.Names.{ℕ, Option, false, get_or, length, slots_items, slots_filled, slots_len, Filled}
use Rattle.lock_floor.proofs.Names.{Cell}
use Rattle.std.proofs.Common.{◌≡◌, ◌+◌, ◌<◌}
use mathlib.Core.Option.{some}
use lib.ListN.{get_elem?}
use Rattle.lock_floor.proofs.Emptying.{Shows}
use Rattle.lock_floor.proofs.closing.take_cells.Given as goal

abbrev pub invariant-loop-i : goal.invariant-loop-i
invariant-loop-i l = record {
  values : (column : ℕ → ℕ → Option ℕ)
      → ((i : ℕ) (d : ℕ × ℕ) → i < length l.keys
      → get_elem? (slots_items l.initial.closed.slots) (l.threads + i) ≡ some
      (Cell (column (get_or l.keys i d).0 (get_or l.keys i d).1)))
      → Shows l.keys l.i column l.tables.present;
  room : l.tables.places ≡ l.initial.tables.places;
  items : slots_items l.closed.slots ≡ slots_items l.initial.closed.slots;
  places : slots_len l.closed.slots ≡ slots_len l.initial.closed.slots;
  taken : (k : ℕ) → k < l.threads + l.i → get_or (slots_filled l.closed.slots) k false ≡ false;
  left : Filled (slots_filled l.closed.slots) (l.threads + l.i) (slots_len l.closed.slots);
}
