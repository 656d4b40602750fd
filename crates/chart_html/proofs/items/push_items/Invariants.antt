use Rattle.std.proofs.Common.{◌≡◌, ◌++◌, ◌==◌, drop, true}
use Rattle.chart_escape.specs.Values.{items, items_bytes, numbered, told_from, value_bytes}
use Rattle.chart_html.proofs.items.push_items.Given as goal

abbrev pub invariant-loop-i : goal.invariant-loop-i
invariant-loop-i g l =
    let told = g.T.Listed.value l.known in
    l.out.items ++ items_bytes (l.i == 0) (items true (told_from told l.i (drop l.i l.items)))
    ≡ l.fn.out.items ++ l.name ++ value_bytes (numbered told l.items)
