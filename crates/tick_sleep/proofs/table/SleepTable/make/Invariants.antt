use Rattle.std.proofs.Common.{◌≡◌}
use Rattle.tick_sleep.specs.Tables.{homes_of}
use Rattle.tick_sleep.proofs.table.SleepTable.make.Given as goal

abbrev pub invariant-loop-t : goal.invariant-loop-t
invariant-loop-t l = l.homes.items ≡ homes_of l.t
