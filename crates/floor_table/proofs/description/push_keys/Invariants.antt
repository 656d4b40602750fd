use Rattle.std.proofs.Common.{◌≡◌, ◌++◌, take}
use Rattle.floor_table.specs.Descriptions.{keys_named}
use Rattle.floor_table.proofs.description.push_keys.Given as goal

abbrev pub invariant-loop-op : goal.invariant-loop-op
invariant-loop-op l = l.keys.items ≡ l.initial.keys.items ++ keys_named (take l.op-index l.ops)
