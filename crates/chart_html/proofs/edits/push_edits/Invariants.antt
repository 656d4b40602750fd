use Rattle.std.proofs.Common.{◌≡◌, ◌++◌, drop, true}
use Rattle.chart_escape.specs.Values.{items, items_bytes, value_bytes, Array}
use Rattle.chart_html.specs.Data.{edits_behind}
use Rattle.chart_html.proofs.edits.push_edits.Given as goal

-- what is left: the edits of the turns that come
abbrev pub invariant-loop-turn : goal.invariant-loop-turn
invariant-loop-turn l =
    l.out.items ++ items_bytes l.first (items true (edits_behind l.turn (drop l.turn l.turns)))
    ≡ l.fn.out.items ++ value_bytes (Array (items true (edits_behind 0 l.turns)))
