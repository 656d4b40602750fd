-- What is drawn of a page: its arrows and marks, and the names and ends of its threads.
use Rattle.std.specs.Prelude.{◌≡◌, ⊤, ℕ, ◌+◌, ◌<◌, nat_lt, if◌then◌else◌, List, length, slice_get, codes, All, Option, Some, None}
use Rattle.std.specs.Option.{option_and_then}
use Rattle.chart_layout.specs.declared.layout.Arrow.{Arrow}
use Rattle.chart_layout.specs.declared.layout.PrioSpan.{PrioSpan}
use Rattle.chart_layout.specs.declared.layout.TurnMark.{TurnMark}
use Rattle.lock_model.specs.Plans.{thread_name}
use Rattle.lock_model.specs.declared.numbers.Prio.{Prio}
use Rattle.chart_svg.specs.Drawn.{line_bytes, pixels, prio_words, row_begin, words_bytes, ArrowIsDrawn, MarkIsDrawn, Stands}
use Rattle.chart_svg.specs.Lanes.{scale_of, BarsAreDrawn, Fits, LoansAreDrawn}
use Rattle.chart_svg.specs.declared.drawing.Layer.{Layer}
use Rattle.chart_svg.specs.declared.drawing.Layer.TheVariants.{Frame, Strip, Bars, Labels}
use Rattle.chart_svg.specs.declared.page.LaneBand.{LaneBand}
use Rattle.chart_svg.specs.declared.page.Page.{Page}
use Rattle.chart_svg.specs.declared.pixels.Px.{Px}

-- 1. Arrows

-- a lane with room for what stands in it, whatever its priorities
abbrev pub HasPlaces : LaneBand → Type 0
HasPlaces lane = (prios : List Prio) × Fits prios lane

-- the arrow is drawn if the lanes from which and to which it goes are there
abbrev pub ArrowIsOn : Page → List ℕ → List ℕ → Arrow → Type 0
ArrowIsOn page lines heads arrow =
    arrow.from.0 < length page.lanes.items → arrow.to.0 < length page.lanes.items
    → ArrowIsDrawn page.plan.now page.chart.now (scale_of page) lines heads arrow

-- 2. Marks

-- the mark of a thread that has a lane is drawn
abbrev pub MarkIsOn : Page → List ℕ → TurnMark → Type 0
MarkIsOn page picture mark = mark.thread.0 < length page.lanes.items
    → MarkIsDrawn page.plan.now page.chart.now (scale_of page) picture mark

-- 3. Names and ends of threads

-- the priority that the name of a thread has below it: where a strip shows the others its own one alone
abbrev pub shown_words : Option Px → PrioSpan → List ℕ
shown_words None step = prio_words step.effective.0 step.base.0
shown_words (Some y) step = prio_words step.base.0 step.base.0

-- that of the first step of a lane stands there
abbrev pub PrioIsOn : List ℕ → LaneBand → Type 0
PrioIsOn picture lane = (step : PrioSpan) → slice_get lane.steps.items 0 ≡ Some step
    → Stands picture (words_bytes (codes "gray") 24 (pixels (pixels (lane.begin.0 + 36) + 20))
    (shown_words lane.strip step))

-- where the line of a thread stops, if it ends in a row of the window
abbrev pub stop_at : Page → ℕ → Option ℕ
stop_at page t =
    let chart = page.chart.now in
    option_and_then (λ row. if nat_lt chart.last row then None
    else Some (row_begin (scale_of page) chart row))
    (option_and_then (λ lane. lane.ended) (slice_get chart.lanes t))

-- the line stops there by a stroke from 11 above it to 11 below
abbrev pub StopsAt : List ℕ → LaneBand → Option ℕ → Type 0
StopsAt picture lane None = ⊤
StopsAt picture lane (Some x) = Stands picture
    (line_bytes (codes "stops") x (pixels (lane.begin.0 + 25)) (pixels (lane.begin.0 + 47)))

-- the name of a lane's thread beside its line, its priority, and the end of its line
pub record FrameIsOn (page : Page) (picture : List ℕ) (lane : LaneBand) : Type 0 where
  pub name : Stands picture (words_bytes (codes "name") 24
      (pixels (pixels (lane.begin.0 + 36) + 4)) (thread_name page.plan.now lane.thread.0))
  pub prio : PrioIsOn picture lane
  pub stop : StopsAt picture lane (stop_at page lane.thread.0)

-- 4. Lanes

-- a layer of a lane is drawn; nothing is said of the words of its loans
abbrev pub LayerIsOn : Layer → Page → List ℕ → LaneBand → Type 0
LayerIsOn Frame page picture lane = FrameIsOn page picture lane
LayerIsOn Strip page picture lane = LoansAreDrawn page picture lane
LayerIsOn Bars page picture lane = BarsAreDrawn page picture lane
LayerIsOn Labels page picture lane = ⊤

-- what stands in the lanes and beside them is drawn
pub record LanesAreDrawn (page : Page) (picture : List ℕ) : Type 0 where
  pub frame : All (FrameIsOn page picture) page.lanes.items
  pub bars : All (BarsAreDrawn page picture) page.lanes.items
  pub loans : All (LoansAreDrawn page picture) page.lanes.items
  pub arrows : All (ArrowIsOn page picture picture) page.chart.now.arrows
  pub marks : All (MarkIsOn page picture) page.chart.now.marks
