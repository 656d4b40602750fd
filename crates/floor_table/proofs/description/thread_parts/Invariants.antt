use Rattle.std.proofs.Common.{◌≡◌, map, take}
use Rattle.floor_table.specs.Descriptions.{thread_part}
use Rattle.floor_table.proofs.description.thread_parts.Given as goal

abbrev pub invariant-loop-thread : goal.invariant-loop-thread
invariant-loop-thread l = l.parts.items ≡ map thread_part (take l.thread-index l.threads)
