use Rattle.std.proofs.Common.{◌≡◌, ℕ, ◌<◌, [], length, get_or}
use Rattle.hold_profile.specs.Counting.{no_line}
use Rattle.hold_profile.specs.declared.tally.Tally.{Tally}
use Rattle.hold_profile.proofs.counting.no_tallies.Given as goal

abbrev pub invariant-loop : goal.invariant-loop
invariant-loop l = record {
  len : length l.tallies.items ≡ l.counter;
  line : (k : ℕ) (d : Tally) → k < l.counter → (get_or l.tallies.items k d).line ≡ no_line;
  sections : (k : ℕ) (d : Tally) → k < l.counter → (get_or l.tallies.items k d).sections.items ≡ [];
}
