-- What the page knows of a run: its data, as values of JSON.
use Rattle.std.specs.Prelude.{ℕ, ◌+◌, true, false, List, [], ◌∷◌, ◌++◌, codes, decimal, slice_get, Option, Some, None, unwrap_or, option_map, option_and_then}
use Rattle.chart_escape.specs.Values.{items, list, numbered, object, text_bytes, tuple, Array, Member, NoMembers, Number, Object, String, Value}
use Rattle.chart_html.specs.Tracks.{column_track, hold, track}
use Rattle.chart_html.specs.declared.columns.Column.TheVariants as columns
use Rattle.chart_layout.specs.declared.layout.Chart.{Chart}
use Rattle.chart_layout.specs.declared.layout.MarkKind.{MarkKind}
use Rattle.chart_layout.specs.declared.layout.MarkKind.TheVariants.{Noted, Did, Idle}
use Rattle.chart_layout.specs.declared.layout.TurnMark.{TurnMark}
use Rattle.chart_layout.specs.declared.sentence.Sentence.{Sentence}
use Rattle.chart_words.specs.Sentences.{sentence_words}
use Rattle.chart_words.specs.Words.{mark_words, note_words, queue_name}
use Rattle.lock_history.specs.declared.outcome.QueueLine.{QueueLine}
use Rattle.lock_model.specs.Events.{facets}
use Rattle.lock_model.specs.Plans.{thread_name}
use Rattle.lock_model.specs.declared.event.OfTable.{OfTable}
use Rattle.lock_model.specs.declared.event.OfTable.TheVariants.{NoTable, SetsTo, AddsTo, Reads}
use Rattle.lock_model.specs.declared.numbers.LockNo.{LockNo}
use Rattle.lock_model.specs.declared.numbers.Prio.{Prio}
use Rattle.lock_model.specs.declared.numbers.ThreadNo.{ThreadNo}
use Rattle.lock_model.specs.declared.plan.Kind.{Kind}
use Rattle.lock_model.specs.declared.plan.Kind.TheVariants.{Mtx, Rw, Sx}
use Rattle.lock_model.specs.declared.plan.LockDecl.{LockDecl}
use Rattle.lock_model.specs.declared.plan.Plan.{Plan}
use Rattle.run_tracks.specs.declared.threads.ThreadRows.{ThreadRows}
use Rattle.run_tracks.specs.declared.rows.Rows.{Rows}
use Rattle.run_tracks.specs.declared.rows.TurnRow.{TurnRow}

-- 1. Queues

-- a thread, by its name
abbrev pub thread_called : Plan → ThreadNo → Value
thread_called plan t = String (thread_name plan t.0)

-- a waiter: its name, and the priority that is kept for it
abbrev pub waiter : Plan → ThreadNo × Prio → Value
waiter plan w = tuple (thread_called plan w.0 ∷ Number w.1.0 ∷ [])

-- a queue: its name and slot, its head, its free list, and its waiters from the front
abbrev pub queue : Plan → QueueLine → Value
queue plan line = object
    ((codes "name", String (queue_name plan line.q))
    ∷ (codes "slot", Number line.slot)
    ∷ (codes "head", thread_called plan line.head)
    ∷ (codes "free", list (thread_called plan) line.free)
    ∷ (codes "excl", list (waiter plan) line.excl)
    ∷ (codes "shared", list (waiter plan) line.shared) ∷ [])

-- a row, and the queues that from it on weren't empty
abbrev pub queues_from : Plan → ℕ × List QueueLine → Value
queues_from plan change = object
    ((codes "row", Number change.0) ∷ (codes "lines", list (queue plan) change.1) ∷ [])

-- 2. Threads

-- the row in which a lane of the chart ends, if it does
abbrev pub lane_end : Chart → ℕ → Option ℕ
lane_end chart t = option_and_then (λ lane. lane.ended) (slice_get chart.lanes t)

-- the member that tells it
abbrev pub done : Option ℕ → List (List ℕ × Value)
done None = []
done (Some row) = (codes "done", Number row) ∷ []

-- The thread of a number: its name, the tracks of its base, of the priority it runs as, of its wait
-- word, of its queue, of where it stands, of its walk and of how it held each lock, and its end.
abbrev pub thread : Plan → Chart → ℕ → ThreadRows → Value
thread plan chart t its = object
    ((codes "name", String (thread_name plan t))
    ∷ (codes "base", column_track plan columns.Base its.row)
    ∷ (codes "runs", column_track plan columns.Runs its.row)
    ∷ (codes "wait", column_track plan columns.Wait its.row)
    ∷ (codes "on", column_track plan columns.On its.row)
    ∷ (codes "stands", column_track plan columns.Stands its.row)
    ∷ (codes "walk", column_track plan columns.Walk its.row)
    ∷ (codes "held", list (track hold) its.held) ∷ done (lane_end chart t))

-- 3. Locks

-- what a kind of lock is called
abbrev pub kind_word : Kind → List ℕ
kind_word Mtx = codes "mutex"
kind_word Rw = codes "rw"
kind_word Sx = codes "sx"

-- the lock of a number: its name, its kind, and of these tracks that of its word
abbrev pub lock : List (List (ℕ × ℕ)) → ℕ → LockDecl → Value
lock words l its = object
    ((codes "name", String its.name)
    ∷ (codes "kind", String (kind_word its.kind))
    ∷ (codes "word", track Number (unwrap_or (slice_get words l) [])) ∷ [])

-- 4. Turns

-- what was done in a turn, with all that its event tells
abbrev pub done_words : Plan → MarkKind → List ℕ
done_words plan (Noted event) = mark_words plan (Noted event) ++ note_words plan event
done_words plan (Did kind) = mark_words plan (Did kind)
done_words plan Idle = codes "idle"

-- a turn: its number, its thread, and what was done
abbrev pub mark : Plan → TurnMark → Value
mark plan its =
    tuple (Number its.turn ∷ Number its.thread.0 ∷ String (done_words plan its.what) ∷ [])

-- a sentence: the number of its turn, and its words
abbrev pub sentence : Plan → Sentence → Value
sentence plan said = tuple (Number said.turn ∷ String (sentence_words plan said) ∷ [])

-- 5. Edits

-- what a turn did in a lock's table
abbrev pub table_of : TurnRow → OfTable
table_of turn = unwrap_or (option_map (λ entry. (facets entry.event).table) turn.entry) NoTable

-- an edit of a lock's table: its row, the lock, the key, whether it adds, as 1 or 0, and what; key
-- and amount may have 64 bits, so they are strings
abbrev pub edit : ℕ → LockNo → ℕ → ℕ → ℕ → Value
edit row l key adds amount = tuple (Number row ∷ Number l.0 ∷ String (decimal key)
    ∷ Number adds ∷ String (decimal amount) ∷ [])

-- what was set or added, before other edits
abbrev pub with_edit : ℕ → OfTable → List Value → List Value
with_edit row NoTable others = others
with_edit row (SetsTo l key value) others = edit row l key 0 value ∷ others
with_edit row (AddsTo l key amount) others = edit row l key 1 amount ∷ others
with_edit row (Reads l key found) others = others

-- the edits of the turns behind a row, each with the row behind its turn
abbrev pub edits_behind : ℕ → List TurnRow → List Value
edits_behind row [] = []
edits_behind row (turn ∷ turns) =
    with_edit (row + 1) (table_of turn) (edits_behind (row + 1) turns)

-- 6. The data

-- the rows of the window, and all that is known of the run
abbrev pub data_value : Plan → Rows → Chart → Value
data_value plan rows chart = Object
    (Member false (codes "first") (Number chart.first)
    (Member false (codes "last") (Number chart.last)
    (Member true (codes "marks") (list (mark plan) chart.marks)
    (Member true (codes "said") (list (sentence plan) chart.sentences)
    (Member true (codes "threads") (numbered (thread plan chart) rows.threads)
    (Member true (codes "locks") (numbered (lock rows.words) plan.locks)
    (Member true (codes "queues") (list (queues_from plan) rows.queues)
    (Member true (codes "edits") (Array (items true (edits_behind 0 rows.turns))) NoMembers))))))))

-- as it is written
abbrev pub data_bytes : Plan → Rows → Chart → List ℕ
data_bytes plan rows chart = text_bytes (data_value plan rows chart)
