-- What the bars of a chart say: of which threads, in which rows, and by which of the run's states.
use Rattle.std.specs.Prelude.{ℕ, List, ◌++◌, nat_lt, if◌then◌else◌, length, option_and_then, option_map, option_to_list, Option, Some, None}
use Rattle.std.specs.List.{flat_map, range_with_len}
use Rattle.chart_layout.specs.declared.layout.Bar.{Bar}
use Rattle.chart_layout.specs.declared.layout.BarKind.{BarKind}
use Rattle.chart_layout.specs.declared.layout.BarKind.TheVariants as kinds
use Rattle.lock_model.specs.Holds.{Hold, Holds, NotHeld}
use Rattle.lock_model.specs.Queues.{BySignal, ByAbort, stands}
use Rattle.lock_model.specs.declared.numbers.ThreadNo.{ThreadNo}
use Rattle.lock_model.specs.declared.plan.Plan.{Plan}
use Rattle.lock_model.specs.declared.plan.QueueName.{QueueName}
use Rattle.lock_state.specs.State.{State, Wait, Walk, NoWalk, AtLock, AtThread, Running, Queued, Woken}
use Rattle.run_chart.specs.declared.bars.Shown.{Shown}
use Rattle.run_chart.specs.declared.spans.Span.{Span}
use Rattle.run_chart.specs.Spans.{drawn_at, Drawn, IsDrawnIn}

-- 1. Bars

-- a bar says its kind
abbrev pub bar_drawn : Bar → Drawn BarKind
bar_drawn bar =
    record { thread = bar.thread.0; first = bar.first; last = bar.last; value = bar.what }

-- what those bars say that are the thread's and cover the row
abbrev pub kinds_at : ℕ → ℕ → List Bar → List BarKind
kinds_at t n bars = drawn_at bar_drawn t n bars

-- the bar of a span over which something is shown
abbrev pub bar_of : ThreadNo → Span Shown → Option Bar
bar_of thread span =
    option_map (λ what. record {
      thread = thread;
      what = what;
      first = span.first;
      last = span.last;
    }) span.value.0

-- a bar is of one of the threads, and has rows, all of them in the window
abbrev pub IsBarOf : ℕ → ℕ → ℕ → Bar → Type 0
IsBarOf threads from to bar = IsDrawnIn threads from to (bar_drawn bar)

-- 2. What is so of a thread

-- the queue on which it stands: the one that its record names, where it is in the lists of that
abbrev pub standing : State → ℕ → Option QueueName
standing s t =
    option_and_then (λ q. if nat_lt 0 (stands t (s.lists q)) then Some q else None) (s.blocked_on t)

-- by how it holds a lock
abbrev pub held_kind : ℕ → Hold → Option BarKind
held_kind l NotHeld = None
held_kind l (Holds mode) = Some (kinds.Holds (record { 0 = l }) mode)

-- by where it stands
abbrev pub waited_kind : Option QueueName → Option BarKind
waited_kind stands = option_map (λ q. kinds.Waits q) stands

-- by the queue that its record names, and where it stands: it was taken off the one where it stands on none
abbrev pub taken_kind : Option QueueName → Option QueueName → Option BarKind
taken_kind None stands = None
taken_kind (Some q) None = Some (kinds.TakenOff q)
taken_kind (Some q) (Some r) = None

-- by its wait word too: it was woken, or else isn't yet
abbrev pub woken_kind : Wait → Option QueueName → Option QueueName → Option BarKind
woken_kind (Woken q BySignal) named stands = Some (kinds.Woken q)
woken_kind (Woken q ByAbort) named stands = taken_kind named stands
woken_kind Running named stands = taken_kind named stands
woken_kind Queued named stands = taken_kind named stands

-- by its walk
abbrev pub walked_kind : Walk → Option BarKind
walked_kind NoWalk = None
walked_kind (AtLock l) = Some kinds.Walks
walked_kind (AtThread t) = Some kinds.Walks

-- by how it holds the first locks, by number
abbrev pub held_kinds : State → ℕ → ℕ → List BarKind
held_kinds s t locks =
    flat_map (λ l. option_to_list (held_kind l (s.held t l))) (range_with_len 0 locks)

-- What bars say of a thread: the locks that it holds, by number; the queue on which it stands; the one off which it was
-- taken, or from which it was woken; and its walk.
abbrev pub kinds_in : Plan → State → ℕ → List BarKind
kinds_in plan s t =
    ((held_kinds s t (length plan.locks) ++ option_to_list (waited_kind (standing s t)))
    ++ option_to_list (woken_kind (s.wait t) (s.blocked_on t) (standing s t)))
    ++ option_to_list (walked_kind (s.walk t))
