use Rattle.std.proofs.Common.{◌≡◌, ◌≤◌, ◌++◌, ◌==◌, drop, true}
use Rattle.std.specs.Prelude.{option_map}
use Rattle.chart_escape.specs.Values.{items, items_bytes, told_from, value_bytes}
use Rattle.chart_html.specs.Tracks.{cell, changed, column_track, pair, told}
use Rattle.chart_html.proofs.columns.push_column.Given as goal

-- what is left: the changes of the rows that come
abbrev pub invariant-loop-row : goal.invariant-loop-row
invariant-loop-row l =
    let left = changed (told l.plan l.column) (option_map (λ text. text.items) l.last) (drop l.row-index l.rows) in
    record {
      few : l.n ≤ l.row-index;
      pushed : l.out.items
          ++ items_bytes (l.n == 0) (items true (told_from (λ i. pair (cell l.plan l.column)) l.n left))
          ≡ l.fn.out.items ++ l.name ++ value_bytes (column_track l.plan l.column l.rows);
    }
