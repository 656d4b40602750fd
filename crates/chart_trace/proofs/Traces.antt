-- What a trace is made of, and that it is JSON.
use Rattle.std.proofs.Common.{ℕ, ◌+◌, ◌≡◌, ◌∙◌, ◌++◌, ap, refl, sym, true, false, List, [], ◌∷◌, append_assoc, codes, arith}
use Rattle.std.proofs.lemmas.Grind.{flat_map-append}
use Rattle.chart_escape.proofs.Written.{is_json, numbered_is_shallow, IsShallow}
use Rattle.chart_escape.specs.Json.{json_string}
use Rattle.chart_escape.specs.Values.{items, items_bytes, told_from, value_bytes, IsJson}
use Rattle.chart_layout.specs.declared.layout.Chart.{Chart}
use Rattle.chart_trace.specs.Events.{Event, Process, beginning, end_event, event_value, next_line, next_lines, other_events, trace_bytes, trace_value}
use Rattle.lock_model.specs.declared.plan.Plan.{Plan}

-- events that are pushed behind others
pub lines_more : (o : List ℕ) (xs ys : List Event) → o ++ next_lines (xs ++ ys) ≡ o ++ next_lines xs ++ next_lines ys
lines_more o xs ys = ap (λ w. o ++ w) (flat_map-append next_line xs ys)
    ∙ sym (append_assoc o (next_lines xs) (next_lines ys))

lines_end : (i : ℕ) (es : List Event)
    → items_bytes false (items true (told_from (λ n. event_value) i es)) ≡ next_lines es ++ codes "]"
lines_end i [] = refl
lines_end i (e ∷ es) = ap (λ w. next_line e ++ w) (lines_end (i + 1) es)
    ∙ sym (append_assoc (next_line e) (next_lines es) (codes "]"))

in_a_row : (j v n : List ℕ) → (j ++ (codes "},\"traceEvents\":[\n" ++ v)) ++ n ++ codes "]}\n"
    ≡ (j ++ codes "}") ++ (codes ",\"traceEvents\":[\n" ++ ((v ++ (n ++ codes "]")) ++ codes "}")) ++ codes "\n"
in_a_row j v n = simp append_assoc refl

pub trace_is : (plan : Plan) (chart : Chart) (title : List ℕ)
    → beginning chart title ++ next_lines (other_events plan chart) ++ codes "]}\n" ≡ trace_bytes plan chart title
trace_is plan chart title =
    let j = json_string title in
    let v = value_bytes (event_value (end_event chart)) in
    let titled = codes "{\"displayTimeUnit\":\"ms\",\"otherData\":{\"title\":" in
    ap (λ w. titled ++ w) (in_a_row j v (next_lines (other_events plan chart)))
    ∙ ap (λ is. titled ++ ((j ++ codes "}") ++ (codes ",\"traceEvents\":[\n" ++ ((v ++ is) ++ codes "}")) ++ codes "\n"))
    (sym (lines_end 1 (other_events plan chart)))

event_is_shallow : (e : Event) → IsShallow 2 (event_value e)
unfolding event_value
event_is_shallow (Process pid name) = omega arith
event_is_shallow other = omega arith

pub trace_is_json : (plan : Plan) (chart : Chart) (title : List ℕ) → IsJson (trace_bytes plan chart title)
trace_is_json plan chart title =
    is_json (trace_value plan chart title) (omega (
      arith,
      numbered_is_shallow (λ i. event_value) 2 (λ i. event_is_shallow) 0 (end_event chart ∷ other_events plan chart),
    ))
