use Rattle.std.proofs.Common.{◌≡◌, ◌++◌, map, take}
use Rattle.remarks.specs.Remarks.{shown_byte}
use Rattle.remarks.proofs.shape.push_shown.Given as goal

-- those so far
abbrev pub invariant-loop-b : goal.invariant-loop-b
invariant-loop-b l = l.out.items ≡ l.fn.out.items ++ map shown_byte (take l.b-index l.bytes)
