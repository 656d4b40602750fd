use Rattle.std.proofs.Common.{◌≡◌, ◌++◌, flat_map}
use Rattle.std.specs.FinMap.{entries}
use Rattle.lock_model.specs.Text.{table_line}
use Rattle.lock_history.specs.Books.{filled}
use Rattle.lock_history.proofs.text.push_tables.Given as goal

abbrev pub invariant-loop-l : goal.invariant-loop-l
invariant-loop-l l =
    l.out.items ++ flat_map (table_line l.plan) (filled l.l-iterator)
    ≡ l.initial.out.items ++ flat_map (table_line l.plan) (entries l.tables.present)
