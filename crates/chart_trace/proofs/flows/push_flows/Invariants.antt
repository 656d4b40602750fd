use Rattle.std.proofs.Common.{◌≡◌, ◌++◌, drop}
use Rattle.chart_trace.specs.Events.{next_lines, arrow_events}
use Rattle.chart_trace.proofs.flows.push_flows.Given as goal

-- what is left to push
abbrev pub invariant-loop-id : goal.invariant-loop-id
invariant-loop-id l =
    l.out.items ++ next_lines (arrow_events l.sentences l.id (drop l.id l.arrows))
    ≡ l.fn.out.items ++ next_lines (arrow_events l.sentences 0 l.arrows)
