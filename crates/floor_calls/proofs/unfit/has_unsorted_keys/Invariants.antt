use Rattle.floor_calls.proofs.Names.{ℕ, slice_index_or, Less, place_cmp}
use Rattle.std.proofs.Common.{◌≡◌, ◌+◌, ◌<◌}
use Rattle.floor_calls.proofs.unfit.has_unsorted_keys.Given as goal

-- each key below comes before the next
abbrev pub invariant-loop-i : goal.invariant-loop-i
invariant-loop-i l =
    (k : ℕ) (d : ℕ × ℕ) → k + 1 < l.i → place_cmp (slice_index_or l.keys k d) (slice_index_or l.keys (k + 1) d) ≡ Less
