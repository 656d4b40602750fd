use Rattle.std.proofs.Common.{◌≡◌, length}
use Rattle.tick_sleep.specs.Tables.{homes_with, CanGoHome}
use Rattle.tick_sleep.proofs.table.go_home.Given as goal

abbrev pub invariant-loop-node : goal.invariant-loop-node
invariant-loop-node l = record {
  goes : homes_with l.taken l.homes.items ≡ homes_with l.fn.taken l.fn.homes.items;
  can : CanGoHome l.taken l.homes.items;
}

abbrev pub decreases-loop-node : goal.decreases-loop-node
decreases-loop-node l = length l.taken
