use Rattle.std.proofs.Common.{◌≡◌, ◌++◌, drop, flat_map}
use Rattle.chart_trace.specs.Events.{next_lines}
use Rattle.chart_trace.proofs.told.push_each.Given as goal

-- what is left to push
abbrev pub invariant-loop-one : goal.invariant-loop-one
invariant-loop-one g l =
    l.out.items ++ next_lines (flat_map (g.T.Told.events l.plan) (drop l.one-index l.each))
    ≡ l.fn.out.items ++ next_lines (flat_map (g.T.Told.events l.plan) l.each)
