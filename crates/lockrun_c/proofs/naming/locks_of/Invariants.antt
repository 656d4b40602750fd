use Rattle.std.proofs.Common.{◌≡◌, length, map, take}
use Rattle.lockrun_c.specs.Naming.{AreClassed, AreOfKinds, lock_decl}
use Rattle.lockrun_c.proofs.naming.locks_of.Given as goal

abbrev pub invariant-loop-row : goal.invariant-loop-row
invariant-loop-row l =
    (l.locks.items ≡ map (lock_decl l.classes) (take l.row-index l.rows))
    × AreClassed (length l.classes) l.locks.items × AreOfKinds (take l.row-index l.rows) l.locks.items
