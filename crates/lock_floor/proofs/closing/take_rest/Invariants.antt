use Rattle.lock_floor.proofs.Names.{ℕ, false, get_or, slots_filled, slots_len, Filled}
use Rattle.std.proofs.Common.{◌≡◌, ◌<◌}
use Rattle.lock_floor.proofs.closing.take_rest.Given as goal

abbrev pub invariant-loop-i : goal.invariant-loop-i
invariant-loop-i l = record {
  places : slots_len l.closed.slots ≡ slots_len l.initial.closed.slots;
  taken : (k : ℕ) → k < l.i → get_or (slots_filled l.closed.slots) k false ≡ false;
  left : Filled (slots_filled l.closed.slots) l.i (slots_len l.closed.slots);
}
