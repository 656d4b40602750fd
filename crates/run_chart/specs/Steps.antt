-- What the steps of a chart say: by which priorities threads run, in which rows.
use Rattle.std.specs.Prelude.{ℕ, List, [], ◌∷◌}
use Rattle.chart_layout.specs.declared.layout.PrioSpan.{PrioSpan}
use Rattle.lock_model.specs.declared.numbers.Prio.{Prio}
use Rattle.lock_model.specs.declared.numbers.ThreadNo.{ThreadNo}
use Rattle.lock_state.specs.State.{State}
use Rattle.run_chart.specs.declared.spans.Span.{Span}
use Rattle.run_chart.specs.Spans.{drawn_at, Drawn, IsDrawnIn}

-- a step says the effective priority and the base
abbrev pub step_drawn : PrioSpan → Drawn (ℕ × ℕ)
step_drawn step = record {
  thread = step.thread.0;
  first = step.first;
  last = step.last;
  value = (step.effective.0, step.base.0);
}

-- a step is of one of the threads, and has rows, all of them in the window
abbrev pub IsStepOf : ℕ → ℕ → ℕ → PrioSpan → Type 0
IsStepOf threads from to step = IsDrawnIn threads from to (step_drawn step)

-- by which priorities the steps say that a thread runs in a row, each with its own
abbrev pub prios_at : ℕ → ℕ → List PrioSpan → List (ℕ × ℕ)
prios_at t n steps = drawn_at step_drawn t n steps

-- by which it runs in a state, with its own
abbrev pub prios_in : State → ℕ → List (ℕ × ℕ)
prios_in s t = (s.effective t, s.base t) ∷ []

-- the step of a span over which both stay
abbrev pub step_of : ThreadNo → Span (Prio × Prio) → PrioSpan
step_of thread span = record {
  thread = thread;
  first = span.first;
  last = span.last;
  effective = span.value.0;
  base = span.value.1;
}
