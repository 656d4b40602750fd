use Rattle.std.proofs.Common.{◌≡◌, ℕ, ◌<◌, [], length, get_or}
use Rattle.hold_profile.proofs.held.no_locks.Given as goal

abbrev pub invariant-loop : goal.invariant-loop
invariant-loop l = record {
  len : length l.lists.items ≡ l.counter;
  empty : (t : ℕ) (d : _) → t < l.counter → (get_or l.lists.items t d).items ≡ [];
}
