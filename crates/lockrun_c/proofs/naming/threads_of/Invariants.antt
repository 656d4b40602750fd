use Rattle.std.proofs.Common.{◌≡◌, map, take}
use Rattle.lockrun_c.specs.Naming.{thread_decl}
use Rattle.lockrun_c.proofs.naming.threads_of.Given as goal

abbrev pub invariant-loop-row : goal.invariant-loop-row
invariant-loop-row l = l.threads.items ≡ map thread_decl (take l.row-index l.rows)
