use Rattle.lock_floor.proofs.Names.{replicate, None, Cell}
use Rattle.std.proofs.Common.{◌≡◌, ◌++◌}
use Rattle.lock_floor.proofs.keeper.push_cells.Given as goal

abbrev pub invariant-loop : goal.invariant-loop
invariant-loop l = l.slots.items ≡ l.initial.slots.items ++ replicate l.counter (Cell None)
