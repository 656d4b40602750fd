use Rattle.lock_floor.proofs.Names.{ℕ, false, get_or, length, vec_capacity, slots_items, slots_filled, slots_len}
use Rattle.lock_floor.proofs.Names.{Filled, Global, Box, ThreadRec, Record}
use Rattle.std.proofs.Common.{◌≡◌, ◌<◌}
use mathlib.Core.Option.{some}
use lib.ListN.{get_elem?}
use Rattle.lock_floor.proofs.closing.take_records.Given as goal

abbrev pub invariant-loop-t : goal.invariant-loop-t
invariant-loop-t l = record {
  count : length l.recs.items ≡ l.t;
  room : vec_capacity l.recs ≡ vec_capacity l.initial.recs;
  records : (k : ℕ) (d : Box ThreadRec Global) → k < l.t
      → get_elem? (slots_items l.initial.closed.slots) k ≡ some (Record (get_or l.recs.items k d));
  items : slots_items l.closed.slots ≡ slots_items l.initial.closed.slots;
  places : slots_len l.closed.slots ≡ slots_len l.initial.closed.slots;
  taken : (k : ℕ) → k < l.t → get_or (slots_filled l.closed.slots) k false ≡ false;
  left : Filled (slots_filled l.closed.slots) l.t (slots_len l.closed.slots);
}
