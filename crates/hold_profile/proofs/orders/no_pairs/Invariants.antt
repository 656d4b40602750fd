use Rattle.std.proofs.Common.{◌≡◌, ℕ, ◌<◌, replicate, length, get_or}
use Rattle.hold_profile.proofs.orders.no_pairs.Given as goal

abbrev pub invariant-loop : goal.invariant-loop
invariant-loop l = record {
  len : length l.rows.items ≡ l.counter;
  zeros : (b : ℕ) (d : _) → b < l.counter → (get_or l.rows.items b d).items ≡ replicate l.classes 0;
}
