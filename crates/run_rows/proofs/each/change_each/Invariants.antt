use Rattle.std.proofs.Common.{◌≡◌, slice_get, Ok, Some}
use Rattle.run_rows.proofs.Noting.{AreChanged}
use Rattle.run_rows.proofs.each.change_each.Given as goal

-- the first of them were changed
abbrev pub invariant-loop-i : goal.invariant-loop-i
invariant-loop-i g l =
    AreChanged (λ i x. (old new : _) × slice_get l.initial.all.items i ≡ Some old.now × (new.now ≡ x)
    × goal.F-post g l.change i old (Ok tt) new)
    l.initial.all.items l.all.items l.i
