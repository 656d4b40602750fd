use Rattle.std.proofs.Common.{◌≡◌, ◌++◌, drop, map}
use Rattle.chart_text.specs.Lines.{shown_byte}
use Rattle.chart_text.proofs.lines.push_shown.Given as goal

-- what is left to push
abbrev pub invariant-loop-byte : goal.invariant-loop-byte
invariant-loop-byte l =
    l.out.items ++ map shown_byte (drop l.byte-index l.title) ≡ l.fn.out.items ++ map shown_byte l.title
