use Rattle.std.proofs.Common.{◌≡◌, ◌++◌, take}
use Rattle.chart_escape.specs.Markup.{escaped}
use Rattle.chart_escape.proofs.markup.push_text.Given as goal

abbrev pub invariant-loop-byte : goal.invariant-loop-byte
invariant-loop-byte l = l.out.items ≡ l.initial.out.items ++ escaped (take l.byte-index l.text)
