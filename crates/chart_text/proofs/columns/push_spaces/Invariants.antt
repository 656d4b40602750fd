use Rattle.std.proofs.Common.{◌≡◌, ◌++◌}
use Rattle.chart_text.specs.Lines.{spaces}
use Rattle.chart_text.proofs.columns.push_spaces.Given as goal

abbrev pub invariant-loop : goal.invariant-loop
invariant-loop l = l.out.items ≡ l.fn.out.items ++ spaces l.counter
