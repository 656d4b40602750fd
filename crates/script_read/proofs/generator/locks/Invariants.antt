use Rattle.std.proofs.Common.{◌≡◌, map}
use Rattle.std.specs.List.{range_with_len}
use Rattle.script_read.specs.Generator.{mutex}
use Rattle.script_read.proofs.generator.locks.Given as goal

abbrev pub invariant-loop-n : goal.invariant-loop-n
invariant-loop-n l = l.locks.items ≡ map mutex (range_with_len 0 l.n)
