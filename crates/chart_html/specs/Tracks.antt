-- How the page tells tracks, and of a thread's rows a column each as a track.
use Rattle.std.specs.Prelude.{ℕ, Bool, false, if◌then◌else◌, List, [], ◌∷◌, codes, Option, Some, None}
use Rattle.std.specs.Str.{bytes_eq}
use Rattle.chart_escape.specs.Values.{list, tuple, value_bytes, Number, String, Value}
use Rattle.chart_words.specs.Words.{queue_name, queue_words}
use Rattle.chart_html.specs.declared.columns.Column.{Column}
use Rattle.chart_html.specs.declared.columns.Column.TheVariants as columns
use Rattle.lock_model.specs.Plans.{lock_name, thread_name}
use Rattle.lock_model.specs.declared.plan.Mode.{Mode}
use Rattle.lock_model.specs.declared.plan.Mode.TheVariants.{Excl, Shared}
use Rattle.lock_model.specs.declared.plan.Plan.{Plan}
use Rattle.lock_model.specs.declared.plan.QueueName.{QueueName}
use Rattle.prio_lending.specs.declared.walk.Walk.{Walk}
use Rattle.prio_lending.specs.declared.walk.Walk.TheVariants as walk
use Rattle.lock_objects.specs.declared.wait.Wait.{Wait}
use Rattle.lock_objects.specs.declared.wait.Wait.TheVariants.{Running, Queued, Woken}
use Rattle.run_tracks.specs.declared.threads.ThreadRow.{ThreadRow}

-- 1. Tracks

-- a row and what holds from it on, which is told so
abbrev pub pair : {T : Type 0} → (T → Value) → ℕ × T → Value
pair told change = tuple (Number change.0 ∷ told change.1 ∷ [])

-- a track: its changes
abbrev pub track : {T : Type 0} → (T → Value) → List (ℕ × T) → Value
track told changes = list (pair told) changes

-- how a lock is held: exclusive, shared, or not
abbrev pub hold : Option Mode → Value
hold None = String []
hold (Some Excl) = String (codes "x")
hold (Some Shared) = String (codes "s")

-- 2. Columns of a thread's rows

-- whether a thread runs, is queued or was woken
abbrev pub wait_word : Wait → List ℕ
wait_word Running = codes "running"
wait_word Queued = codes "queued"
wait_word (Woken q) = codes "woken"

-- the name of a queue, or of none
abbrev pub name_of : Plan → Option QueueName → List ℕ
name_of plan None = []
name_of plan (Some q) = queue_name plan q

-- what waiting on a queue is called; on none, nothing
abbrev pub standing_words : Plan → Option QueueName → List ℕ
standing_words plan None = []
standing_words plan (Some q) = queue_words plan q

-- the name of the lock or thread that a walk stands at
abbrev pub walk_name : Plan → Walk → List ℕ
walk_name plan walk.None = []
walk_name plan (walk.AtLock l) = lock_name plan l.0
walk_name plan (walk.AtThread t) = thread_name plan t.0

-- what a column tells of a row
abbrev pub cell : Plan → Column → ThreadRow → Value
cell plan columns.Base row = Number row.base.0
cell plan columns.Runs row = Number row.effective.0
cell plan columns.Wait row = String (wait_word row.wait)
cell plan columns.On row = String (name_of plan row.blocked_on)
cell plan columns.Stands row = String (standing_words plan row.stands_on)
cell plan columns.Walk row = String (walk_name plan row.walk)

-- as it is written
abbrev pub told : Plan → Column → ThreadRow → List ℕ
told plan column row = value_bytes (cell plan column row)

-- whether it is what was told last
abbrev pub is_told : Option (List ℕ) → List ℕ → Bool
is_told None text = false
is_told (Some last) text = bytes_eq last text

-- the changes at which something else is told than was told last
abbrev pub changed : {T : Type 0} → (T → List ℕ) → Option (List ℕ) → List (ℕ × T) → List (ℕ × T)
changed tells last [] = []
changed tells last (row ∷ rows) =
    if is_told last (tells row.1) then changed tells last rows
    else row ∷ changed tells (Some (tells row.1)) rows

-- a column: the track of these
abbrev pub column_track : Plan → Column → List (ℕ × ThreadRow) → Value
column_track plan column rows = track (cell plan column) (changed (told plan column) None rows)
