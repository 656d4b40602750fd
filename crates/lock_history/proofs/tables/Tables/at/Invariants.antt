use Rattle.std.proofs.Common.{◌≡◌}
use Rattle.std.specs.FinMap.{entries}
use Rattle.std.specs.List.{slice_get}
use Rattle.lock_history.specs.Books.{filled}
use Rattle.lock_history.proofs.tables.Tables.at.Given as goal

-- the place counted from the keys that are left
abbrev pub invariant-loop-l : goal.invariant-loop-l
invariant-loop-l l = slice_get (filled l.l-iterator) l.left ≡ slice_get (entries l.self.present) l.i
