use Rattle.std.proofs.Common.{◌≡◌, flat_map, map, take}
use Rattle.std.specs.String.{string_bytes}
use Rattle.remarks.specs.Remarks.{shown_line}
use Rattle.remarks.proofs.shape.shaped.Given as goal

-- those so far
abbrev pub invariant-loop-line : goal.invariant-loop-line
invariant-loop-line l = l.text.items ≡ flat_map shown_line (map string_bytes (take l.line-index l.few))
