use Rattle.std.proofs.Common.{◌≡◌, length, Ok}
use Rattle.run_tracks.specs.Tracks.{EachAt}
use Rattle.run_rows.proofs.each.make_each.Given as goal

-- as many as were asked for so far
abbrev pub invariant-loop-i : goal.invariant-loop-i
invariant-loop-i g l = record {
  number : length l.all.items ≡ l.i;
  each : EachAt (λ i x. goal.F-post g l.make i (Ok x)) l.all.items;
}
