-- The data is JSON: its values nest no deeper than a reader goes.
use Rattle.std.proofs.Common.{ℕ, ◌+◌, List, [], ◌∷◌, Option, Some, None, true, arith}
use Rattle.std.specs.Prelude.{slice_get, unwrap_or}
use Rattle.chart_escape.proofs.Written.{is_json, numbered_is_shallow, IsShallow}
use Rattle.chart_escape.specs.Values.{items, object, Array, IsJson, Number, Value}
use Rattle.chart_html.specs.Data.{data_bytes, data_value, done, edits_behind, lane_end, lock, mark, queue, queues_from, sentence, table_of, thread, thread_called, waiter, with_edit}
use Rattle.chart_html.specs.Tracks.{cell, changed, column_track, hold, pair, told, track}
use Rattle.chart_html.specs.declared.columns.Column.{Column}
use Rattle.chart_html.specs.declared.columns.Column.TheVariants as columns
use Rattle.chart_layout.specs.declared.layout.Chart.{Chart}
use Rattle.lock_history.specs.declared.outcome.QueueLine.{QueueLine}
use Rattle.lock_model.specs.declared.event.OfTable.{OfTable}
use Rattle.lock_model.specs.declared.event.OfTable.TheVariants.{NoTable, SetsTo, AddsTo, Reads}
use Rattle.lock_model.specs.declared.plan.LockDecl.{LockDecl}
use Rattle.lock_model.specs.declared.plan.Mode.{Mode}
use Rattle.lock_model.specs.declared.plan.Mode.TheVariants.{Excl, Shared}
use Rattle.lock_model.specs.declared.plan.Plan.{Plan}
use Rattle.run_tracks.specs.declared.rows.Rows.{Rows}
use Rattle.run_tracks.specs.declared.rows.TurnRow.{TurnRow}
use Rattle.run_tracks.specs.declared.threads.ThreadRow.{ThreadRow}
use Rattle.run_tracks.specs.declared.threads.ThreadRows.{ThreadRows}

track_is : {T : Type 0} (told : T → Value) → ((x : T) → IsShallow 0 (told x)) → (changes : List (ℕ × T))
    → IsShallow 2 (track told changes)
track_is told each changes =
    let pairs = numbered_is_shallow (λ i. pair told) 1
    (λ i change. let e = each change.1 in omega (arith, e)) 0 changes in
    omega (arith, pairs)

hold_is : (mode : Option Mode) → IsShallow 0 (hold mode)
hold_is None = omega arith
hold_is (Some Excl) = omega arith
hold_is (Some Shared) = omega arith

cell_is : (plan : Plan) (column : Column) (row : ThreadRow) → IsShallow 0 (cell plan column row)
cell_is plan columns.Base row = omega arith
cell_is plan other row = omega arith

column_is : (plan : Plan) (column : Column) (rows : List (ℕ × ThreadRow)) → IsShallow 2 (column_track plan column rows)
column_is plan column rows = track_is (cell plan column) (cell_is plan column) (changed (told plan column) None rows)

queue_is : (plan : Plan) (line : QueueLine) → IsShallow 3 (queue plan line)
queue_is plan line =
    let free = numbered_is_shallow (λ i. thread_called plan) 0 (λ i t. omega arith) 0 line.free in
    let excl = numbered_is_shallow (λ i. waiter plan) 1 (λ i w. omega arith) 0 line.excl in
    let shared = numbered_is_shallow (λ i. waiter plan) 1 (λ i w. omega arith) 0 line.shared in
    omega (arith, free, excl, shared)

queues_are : (plan : Plan) (change : ℕ × List QueueLine) → IsShallow 5 (queues_from plan change)
queues_are plan change =
    let lines = numbered_is_shallow (λ i. queue plan) 3 (λ i. queue_is plan) 0 change.1 in omega (arith, lines)

done_is : (ended : Option ℕ) → IsShallow 1 (object (done ended))
done_is None = omega arith
done_is (Some row) = omega arith

thread_is : (plan : Plan) (chart : Chart) (t : ℕ) (its : ThreadRows) → IsShallow 4 (thread plan chart t its)
thread_is plan chart t its =
    let held = numbered_is_shallow (λ l. track hold) 2 (λ l. track_is hold hold_is) 0 its.held in
    omega (
      arith,
      column_is plan columns.Base its.row,
      column_is plan columns.Runs its.row,
      column_is plan columns.Wait its.row,
      column_is plan columns.On its.row,
      column_is plan columns.Stands its.row,
      column_is plan columns.Walk its.row,
      held,
      done_is (lane_end chart t),
    )

lock_is : (words : List (List (ℕ × ℕ))) (l : ℕ) (its : LockDecl) → IsShallow 3 (lock words l its)
lock_is words l its =
    let word = track_is Number (λ n. omega arith) (unwrap_or (slice_get words l) []) in omega (arith, word)

edits_are : (row : ℕ) (turns : List TurnRow) → IsShallow 2 (Array (items true (edits_behind row turns)))
edits_are row [] = omega arith
edits_are row (turn ∷ turns) = go (table_of turn) (edits_are (row + 1) turns)
  where
    go : (its : OfTable) → IsShallow 2 (Array (items true (edits_behind (row + 1) turns)))
        → IsShallow 2 (Array (items true (with_edit (row + 1) its (edits_behind (row + 1) turns))))
    go NoTable later = later
    go (SetsTo l key value) later = omega (arith, later)
    go (AddsTo l key amount) later = omega (arith, later)
    go (Reads l key found) later = later

pub data_is_json : (plan : Plan) (rows : Rows) (chart : Chart) → IsJson (data_bytes plan rows chart)
data_is_json plan rows chart =
    let marks = numbered_is_shallow (λ i. mark plan) 1 (λ i its. omega arith) 0 chart.marks in
    let said = numbered_is_shallow (λ i. sentence plan) 1 (λ i its. omega arith) 0 chart.sentences in
    let threads = numbered_is_shallow (thread plan chart) 4 (thread_is plan chart) 0 rows.threads in
    let locks = numbered_is_shallow (lock rows.words) 3 (lock_is rows.words) 0 plan.locks in
    let queues = numbered_is_shallow (λ i. queues_from plan) 5 (λ i. queues_are plan) 0 rows.queues in
    let edits = edits_are 0 rows.turns in
    is_json (data_value plan rows chart) (omega (arith, marks, said, threads, locks, queues, edits))
