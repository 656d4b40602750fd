use Rattle.std.proofs.Common.{◌≡◌, take, flat_map}
use Rattle.lock_model.specs.declared.plan.ThreadDecl.{ThreadDecl}
use Rattle.floor_table.specs.Descriptions.{keys_named}
use Rattle.floor_table.proofs.description.keys_of.Given as goal

abbrev pub invariant-loop-thread : goal.invariant-loop-thread
invariant-loop-thread l = l.keys.items ≡ flat_map (λ (d : ThreadDecl). keys_named d.ops) (take l.thread-index l.threads)
