-- What a trace tells: its events, which of them a chart has, and how each is written, in the format that Chrome's
-- tracing and Perfetto read. A thread of the plan is a process there, and a turn lasts a millisecond.
use Rattle.std.specs.Prelude.{ℕ, ◌+◌, ◌-◌, ◌*◌, ◌==◌, Bool, true, not, ◌&&◌, if◌then◌else◌, List, [], ◌∷◌, ◌++◌, fold, flat_map, codes, Option, Some, None, option_map}
use Rattle.std.specs.Option.{option_or}
use Rattle.lock_model.specs.Text.{thread_name, lock_name}
use Rattle.lock_model.specs.declared.numbers.LockNo.{LockNo}
use Rattle.lock_model.specs.declared.numbers.ThreadNo.{ThreadNo}
use Rattle.lock_model.specs.declared.plan.Plan.{Plan}
use Rattle.chart_escape.specs.Json.{json_string}
use Rattle.chart_escape.specs.Values.{Value, Number, String, list, object, text_bytes, value_bytes}
use Rattle.chart_layout.specs.declared.layout.Arrow.{Arrow}
use Rattle.chart_layout.specs.declared.layout.ArrowKind.{ArrowKind}
use Rattle.chart_layout.specs.declared.layout.ArrowKind.TheVariants as arrow
use Rattle.chart_layout.specs.declared.layout.Bar.{Bar}
use Rattle.chart_layout.specs.declared.layout.BarKind.{BarKind}
use Rattle.chart_layout.specs.declared.layout.BarKind.TheVariants as bar
use Rattle.chart_layout.specs.declared.layout.Chart.{Chart}
use Rattle.chart_layout.specs.declared.layout.Lane.{Lane}
use Rattle.chart_layout.specs.declared.layout.MarkKind.{MarkKind}
use Rattle.chart_layout.specs.declared.layout.MarkKind.TheVariants as mark
use Rattle.chart_layout.specs.declared.layout.PrioSpan.{PrioSpan}
use Rattle.chart_layout.specs.declared.layout.TurnMark.{TurnMark}
use Rattle.chart_layout.specs.declared.sentence.Saying.{Saying}
use Rattle.chart_layout.specs.declared.sentence.Saying.TheVariants as saying
use Rattle.chart_layout.specs.declared.sentence.Sentence.{Sentence}
use Rattle.chart_trace.specs.declared.tracks.Place.{Place}
use Rattle.chart_words.specs.Sentences.{headline, sentence_words}
use Rattle.chart_words.specs.Words.{arrow_words, bar_words, lost_words, mark_words, note_words}

-- 1. Events

-- an event; times are microseconds
pub data Event : Type 0 where
  -- the name of a process
  Process : (pid : ℕ) (name : List ℕ) → Event
  -- it stands among the others by its number
  Order : (pid : ℕ) → Event
  -- the name of a track of a process
  Track : (pid tid : ℕ) (name : List ℕ) → Event
  -- something that begins and lasts
  Slice : (at : Place) (name : List ℕ) (lasts : ℕ) → Event
  -- how important a process is from a time on
  Counter : (pid time height : ℕ) → Event
  -- the two ends of an arrow
  From : (id : ℕ) (name : List ℕ) (at : Place) → Event
  To : (id : ℕ) (name : List ℕ) (at : Place) → Event
  -- something that is said, of a turn by the scope `t`, and of the whole run by `g`
  Said : (scope name : List ℕ) (at : Place) → Event

-- an event of that phase and name
abbrev pub named : List ℕ → List ℕ → List (List ℕ × Value) → Value
named phase name rest =
    object ((codes "ph", String phase) ∷ (codes "name", String name) ∷ rest)

abbrev pub at_place : Place → List (List ℕ × Value)
at_place at =
    (codes "pid", Number at.pid) ∷ (codes "tid", Number at.tid) ∷ (codes "ts", Number at.time) ∷ []

abbrev pub linked : ℕ → Place → List (List ℕ × Value)
linked id at = (codes "cat", String (codes "lock")) ∷ (codes "id", Number id) ∷ at_place at

abbrev pub args : List ℕ → Value → List (List ℕ × Value)
args name v = (codes "args", object ((name, v) ∷ [])) ∷ []

-- as a value of JSON
unfoldable pub event_value : Event → Value
event_value (Process pid name) = named (codes "M") (codes "process_name")
    ((codes "pid", Number pid) ∷ args (codes "name") (String name))
event_value (Order pid) = named (codes "M") (codes "process_sort_index")
    ((codes "pid", Number pid) ∷ args (codes "sort_index") (Number pid))
event_value (Track pid tid name) = named (codes "M") (codes "thread_name")
    ((codes "pid", Number pid) ∷ (codes "tid", Number tid) ∷ args (codes "name") (String name))
event_value (Slice at name lasts) =
    named (codes "X") name (at_place at ++ (codes "dur", Number lasts) ∷ [])
event_value (Counter pid time height) = named (codes "C") (codes "priority")
    ((codes "pid", Number pid) ∷ (codes "ts", Number time)
    ∷ args (codes "255 - runs as") (Number height))
event_value (From id name at) = named (codes "s") name (linked id at)
event_value (To id name at) = object ((codes "ph", String (codes "f"))
    ∷ (codes "bp", String (codes "e")) ∷ (codes "name", String name) ∷ linked id at)
event_value (Said scope name at) = object ((codes "ph", String (codes "i"))
    ∷ (codes "s", String scope) ∷ (codes "name", String name) ∷ at_place at)

-- an event behind others: a comma, and a line of its own
abbrev pub next_line : Event → List ℕ
next_line event = codes ",\n" ++ value_bytes (event_value event)

-- events behind others
abbrev pub next_lines : List Event → List ℕ
next_lines events = flat_map next_line events

-- 2. Where slices lie, and when

-- the number of a thread's process
abbrev pub process_of : ThreadNo → ℕ
process_of t = t.0 + 1

-- the tracks of a thread's turns, of its waits and of its walks, and that of its holds of a lock
abbrev pub turns_track : ℕ
turns_track = 1

abbrev pub waits_track : ℕ
waits_track = 2

abbrev pub walks_track : ℕ
walks_track = 3

abbrev pub holds_track : LockNo → ℕ
holds_track l = 10 + l.0

-- the track of a bar, by what it says
abbrev pub track_of : BarKind → ℕ
track_of (bar.Holds l mode) = holds_track l
track_of (bar.Waits q) = waits_track
track_of (bar.TakenOff q) = waits_track
track_of (bar.Woken q) = waits_track
track_of bar.Walks = walks_track

-- the time of a turn, in microseconds: that of its number, in milliseconds
abbrev pub time_of : ℕ → ℕ
time_of turn = turn * 1000

-- the time from which a row is shown: that of the turn that led to it, and 0 for the first row
abbrev pub begin_of : ℕ → ℕ
begin_of row = time_of (row - 1)

-- a track of a thread's process, and a time
abbrev pub place : ThreadNo → ℕ → ℕ → Place
place t tid time = record { pid = process_of t; tid = tid; time = time }

-- 3. The events of a chart

-- a thread is a process with a track for its turns, one for its waits and one for its walks
abbrev pub lane_events : Plan → Lane → List Event
lane_events plan lane =
    Process (process_of lane.thread) (thread_name plan lane.thread.0)
    ∷ Order (process_of lane.thread)
    ∷ Track (process_of lane.thread) turns_track (codes "turns")
    ∷ Track (process_of lane.thread) waits_track (codes "waits")
    ∷ Track (process_of lane.thread) walks_track (codes "walks") ∷ []

-- whether a bar is the first on its track: the one before it lies on another, or there is none
abbrev pub is_first_there : Option Bar → Bar → Bool
is_first_there None bar = true
is_first_there (Some before) bar =
    not (before.thread.0 == bar.thread.0 && track_of before.what == track_of bar.what)

-- the track of a lock that a thread holds
abbrev pub hold_track : Plan → ThreadNo → BarKind → List Event
hold_track plan t (bar.Holds l mode) =
    Track (process_of t) (holds_track l) (lock_name plan l.0) ∷ []
hold_track plan t (bar.Waits q) = []
hold_track plan t (bar.TakenOff q) = []
hold_track plan t (bar.Woken q) = []
hold_track plan t bar.Walks = []

-- that of a bar, unless the bar before it lies there too
abbrev pub lock_track : Plan → Option Bar → Bar → List Event
lock_track plan before bar =
    if is_first_there before bar then hold_track plan bar.thread bar.what else []

-- a track for each lock that a thread holds, whose bars follow upon each other
abbrev pub lock_tracks : Plan → Option Bar → List Bar → List Event
lock_tracks plan before [] = []
lock_tracks plan before (bar ∷ bars) =
    lock_track plan before bar ++ lock_tracks plan (Some bar) bars

-- a bar is a slice on its thread's process and its kind's track, from the turn that began it to
-- the turn that ended it
abbrev pub bar_events : Plan → Bar → List Event
bar_events plan bar = Slice (place bar.thread (track_of bar.what) (begin_of bar.first))
    (bar_words plan bar.what) (time_of bar.last - begin_of bar.first) ∷ []

-- where a turn's slice lies, and what is said of the turn
abbrev pub at_turn : ThreadNo → ℕ → Place
at_turn t turn = place t turns_track (time_of turn)

-- a turn is a slice of a millisecond
abbrev pub turn_slice : TurnMark → List ℕ → Event
turn_slice m name = Slice (at_turn m.thread m.turn) name 1000

-- its name is its word and what its event tells, with a lost wake; an idle turn has no slice
abbrev pub turn_events : Plan → TurnMark → MarkKind → List Event
turn_events plan m (mark.Noted event) = turn_slice m
    (mark_words plan (mark.Noted event) ++ note_words plan event ++ lost_words event) ∷ []
turn_events plan m (mark.Did kind) = turn_slice m (mark_words plan (mark.Did kind)) ∷ []
turn_events plan m mark.Idle = []

-- the slice of a mark, if its turn has one
abbrev pub mark_events : Plan → TurnMark → List Event
mark_events plan m = turn_events plan m m.what

-- a sentence is said at its turn, of the thread whose turn it was
abbrev pub sentence_events : Plan → Sentence → List Event
sentence_events plan s = Said (codes "t") (sentence_words plan s) (at_turn s.thread s.turn) ∷ []

-- A step of priorities is how important its thread is from then on: the smaller the priority by which it runs, the
-- higher.
abbrev pub step_events : Plan → PrioSpan → List Event
step_events plan step =
    Counter (process_of step.thread) (begin_of step.first) (255 - step.effective.0) ∷ []

-- the lock for which a sentence says that its thread lent
abbrev pub lock_lent : Saying → Option LockNo
lock_lent (saying.Waits l holders behind) = None
lock_lent (saying.Lends to l before prio goes_on) = Some l
lock_lent (saying.Sorts other l) = None
lock_lent (saying.Claims l before prio) = None
lock_lent (saying.Frees l before prio takes_off) = None
lock_lent (saying.Sleeps c l) = None
lock_lent (saying.Wakes c takes_off) = None
lock_lent (saying.Refused l class held) = None

-- that of a sentence of the turn
abbrev pub lent_in : Sentence → ℕ → Option LockNo
lent_in s turn = if s.turn == turn then lock_lent s.saying else None

-- the lock for which a turn's thread lent, as the turn's sentence says, or the last of them
abbrev pub loan_lock : List Sentence → ℕ → Option LockNo
loan_lock sentences turn = fold (λ found s. option_or (lent_in s turn) found) None sentences

-- where an arrow ends: a wake on the track of waits, and a loan on that of the lock that it is for
abbrev pub end_of : Option LockNo → ArrowKind → Option ℕ
end_of l (arrow.Lends before prio) = option_map holds_track l
end_of l arrow.Wakes = Some waits_track
end_of l arrow.BlockedOn = None
end_of l arrow.Behind = None
end_of l arrow.Refused = None

-- an arrow that ends on a track begins on that of turns
abbrev pub flow_to : ℕ → Arrow → Option ℕ → List Event
flow_to id arrow None = []
flow_to id arrow (Some track) =
    From id (arrow_words arrow) (at_turn arrow.from arrow.turn)
    ∷ To id (arrow_words arrow) (place arrow.to track (time_of arrow.turn)) ∷ []

-- wakes and loans are flows, by the numbers of their arrows
abbrev pub arrow_events : List Sentence → ℕ → List Arrow → List Event
arrow_events sentences id [] = []
arrow_events sentences id (arrow ∷ arrows) =
    flow_to id arrow (end_of (loan_lock sentences arrow.turn) arrow.kind)
    ++ arrow_events sentences (id + 1) arrows

-- how the run ended is said at the time of the last row
abbrev pub end_event : Chart → Event
end_event chart =
    Said (codes "g") (headline chart.end) (record { pid = 1; tid = 1; time = time_of chart.last })

-- the others: names of processes and tracks, and then bars, turns, sentences, priorities and arrows
unfoldable pub other_events : Plan → Chart → List Event
other_events plan chart =
    flat_map (lane_events plan) chart.lanes ++ lock_tracks plan None chart.bars
    ++ flat_map (bar_events plan) chart.bars ++ flat_map (mark_events plan) chart.marks
    ++ flat_map (sentence_events plan) chart.sentences ++ flat_map (step_events plan) chart.steps
    ++ arrow_events chart.sentences 0 chart.arrows

-- 4. The whole trace

-- the unit of times, the title, and the events, each on a line of its own
abbrev pub trace_value : Plan → Chart → List ℕ → Value
trace_value plan chart title = object (
    (codes "displayTimeUnit", String (codes "ms"))
    ∷ (codes "otherData", object ((codes "title", String title) ∷ []))
    ∷ (codes "traceEvents", list event_value (end_event chart ∷ other_events plan chart)) ∷ [])

abbrev pub trace_bytes : Plan → Chart → List ℕ → List ℕ
trace_bytes plan chart title = text_bytes (trace_value plan chart title)

-- what stands in it before the events behind the first
abbrev pub beginning : Chart → List ℕ → List ℕ
beginning chart title =
    codes "{\"displayTimeUnit\":\"ms\",\"otherData\":{\"title\":" ++ (json_string title
    ++ (codes "},\"traceEvents\":[\n" ++ value_bytes (event_value (end_event chart))))
