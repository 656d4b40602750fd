use Rattle.std.proofs.Common.{◌≡◌, map}
use Rattle.std.specs.List.{range_with_len}
use Rattle.script_read.specs.Generator.{numbered}
use Rattle.script_read.proofs.generator.classes.Given as goal

abbrev pub invariant-loop-n : goal.invariant-loop-n
invariant-loop-n l = l.names.items ≡ map (numbered 99) (range_with_len 0 l.n)
