use Rattle.std.proofs.Common.{subst, sym}
use Rattle.chart_escape.specs.Values.{IsJson}
use Rattle.chart_trace.proofs.Traces.{trace_is, trace_is_json}
use Rattle.chart_trace.proofs.tracing.trace.Goals as goal

pub returns-clause-told : goal.returns-clause-told
returns-clause-told c =
    rw (c.in_ok-push_tokens.ensures, c.in_ok-push_others.ensures, c.in_ok-push_begin.ensures, c.new-out.ensures.items)
    (trace_is c.args.plan.now c.args.chart.now c.args.title.now)

pub returns-clause-json : goal.returns-clause-json
returns-clause-json c =
    subst IsJson (sym (returns-clause-told c)) (trace_is_json c.args.plan.now c.args.chart.now c.args.title.now)
