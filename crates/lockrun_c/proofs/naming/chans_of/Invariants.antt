use Rattle.std.proofs.Common.{◌≡◌, map, take}
use Rattle.lockrun_c.specs.Naming.{AreOnLocks, chan_decl}
use Rattle.lockrun_c.proofs.naming.chans_of.Given as goal

abbrev pub invariant-loop-row : goal.invariant-loop-row
invariant-loop-row l =
    (l.chans.items ≡ map chan_decl (take l.row-index l.rows)) × AreOnLocks l.locks l.chans.items
