-- The tables that a floor left are those that its logs, merged, leave.
use Rattle.std.proofs.Common.{◌≡◌, ℕ, List, reverse, sym, ap, ◌∙◌}
use Rattle.std.specs.FinMap.{entries}
use Rattle.std.proofs.lemmas.List.{reverse-reverse}
use Rattle.lock_model.specs.History.{tables_of}
use Rattle.lock_model.specs.declared.event.Entry.{Entry}
use Rattle.floor_table.specs.declared.description.Description.{Description}
use Rattle.lock_floor.specs.Closings.{IsClosing}
use Rattle.lock_floor.specs.declared.closing.Closing.{Closing}
use Rattle.floor_ends.specs.Outcomes.{IsMerged}
use Rattle.floor_ends.proofs.Merging.{logs_merged}

pub replayed : (floor : Description) (threads : List ℕ) (x : Closing) → IsClosing floor threads x
    → (history : List Entry) → IsMerged x.logs.items history
    → entries x.tables.present ≡ entries (tables_of (reverse history))
replayed floor threads x k history m =
    let all = logs_merged threads x.logs.items k.history k.logs k.legal.tickets_run in
    let merged : history ≡ reverse k.history = all history m.long m.placed in
    let back : reverse history ≡ k.history = ap reverse merged ∙ reverse-reverse k.history in
    ap entries (k.tables ∙ ap tables_of (sym back))
