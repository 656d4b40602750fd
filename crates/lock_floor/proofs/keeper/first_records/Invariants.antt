use Rattle.lock_floor.proofs.Names.{ℕ, get_or, length, Slot, IsFirst}
use Rattle.std.proofs.Common.{◌≡◌, ◌<◌}
use Rattle.lock_floor.proofs.keeper.first_records.Given as goal

abbrev pub invariant-loop-t : goal.invariant-loop-t
invariant-loop-t l = record {
  count : length l.slots.items ≡ l.t;
  each : (j : ℕ) (d : Slot) → j < l.t → IsFirst l.description j (get_or l.slots.items j d);
}
