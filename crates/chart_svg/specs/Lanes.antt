-- Where the lanes of a page are, and what stands in them.
use Rattle.std.specs.Prelude.{◌≡◌, ◌≢◌, ◌↔◌, ℕ, ◌+◌, ◌-◌, ◌*◌, ◌/◌, ◌≤◌, nat_lt, if◌then◌else◌, min, max, List, [], ◌∷◌, ◌++◌, length, count_by, slice_get, codes, decimal, Contains, All, Option, Some, None}
use Rattle.chart_layout.specs.declared.layout.Bar.{Bar}
use Rattle.chart_layout.specs.declared.layout.BarKind.{BarKind}
use Rattle.chart_layout.specs.declared.layout.Chart.{Chart}
use Rattle.chart_layout.specs.declared.layout.Lane.{Lane as ChartLane}
use Rattle.chart_layout.specs.declared.layout.PrioSpan.{PrioSpan}
use Rattle.lock_model.specs.declared.numbers.Prio.{Prio}
use Rattle.chart_svg.specs.Drawn.{bar_area, bar_class, bar_title, is_walk, loan_area, of_thread, pixels, rect_bytes, SaysAs, Scale, Stands}
use Rattle.chart_svg.specs.declared.packing.Packed.{Packed}
use Rattle.chart_svg.specs.declared.page.LaneBand.{LaneBand}
use Rattle.chart_svg.specs.declared.page.Page.{Page}
use Rattle.chart_svg.specs.declared.pixels.Px.{Px}

-- 1. The scale of a page

-- where a lane begins; where there is none, the lanes end
abbrev pub top_of : ℕ → Option LaneBand → ℕ
top_of bottom None = bottom
top_of bottom (Some lane) = lane.top.0

abbrev pub lane_top : Page → ℕ → ℕ
lane_top page t = top_of page.bottom.0 (slice_get page.lanes.items t)

-- where the strip of a lane begins, if it has one
abbrev pub begin_of : Option Px → ℕ
begin_of None = 0
begin_of (Some y) = y.0

abbrev pub strip_of : Option LaneBand → ℕ
strip_of None = 0
strip_of (Some lane) = begin_of lane.strip

-- how many of the priorities go before one
abbrev pub rank_in : List Prio → ℕ → ℕ
rank_in prios prio = count_by (λ other. nat_lt other.0 prio) prios

-- how far so many priorities lie apart in a strip
abbrev pub pitch_of : ℕ → ℕ
pitch_of prios = min (max (84 / max (prios - 1) 1) 2) 15

abbrev pub scale_of : Page → Scale
scale_of page = record {
  left = page.left.0;
  column = page.column;
  lane = lane_top page;
  strip = λ t. strip_of (slice_get page.lanes.items t);
  rank = rank_in page.prios.items;
  pitch = pitch_of (length page.prios.items);
}

-- 2. Places in a lane

-- the top and the bottom of the bars of a level
abbrev pub bar_top : LaneBand → ℕ → ℕ
bar_top lane level = pixels (pixels (lane.begin.0 + 27) + level * lane.pitch)

abbrev pub bar_bottom : LaneBand → ℕ → ℕ
bar_bottom lane level = pixels (bar_top lane level + 18)

-- the top of a bar on a level: a walk is a line below the wait from which it begins
abbrev pub bar_place : LaneBand → BarKind → ℕ → ℕ
bar_place lane what level =
    if is_walk what then pixels (bar_bottom lane level + 2) else bar_top lane level

-- a place in a lane
abbrev pub IsWithin : LaneBand → ℕ → Type 0
IsWithin lane y = (lane.top.0 ≤ y) × (pixels (y + 1) ≤ lane.bottom.0)

-- what stands in a lane stands between its top and its bottom: marks, the line of its thread, bars on all levels with a
-- walk below them, and each of the priorities in its strip
pub record Fits (prios : List Prio) (lane : LaneBand) : Type 0 where
  pub begins : lane.top.0 ≤ lane.begin.0
  pub begin_fits : lane.begin.0 ≤ 4294967295
  pub bottom_fits : lane.bottom.0 ≤ 4294967295
  pub has_room : pixels (lane.begin.0 + 48) ≤ lane.bottom.0
  pub bars : (level : ℕ) → level ≤ length lane.bars.ends.items - 1
      → pixels (bar_bottom lane level + 20) ≤ lane.bottom.0
  pub strip : (y : Px) (prio : ℕ) → lane.strip ≡ Some y
      → IsWithin lane (pixels (y.0 + rank_in prios prio * pitch_of (length prios)))

-- 3. What is of a thread

-- the bar lies on some level, or is a walk below one
abbrev pub IsLaid : Packed → Bar → Type 0
IsLaid packed bar = (level : ℕ) × (level ≤ length packed.ends.items - 1)
    × Contains packed.laid.items (bar, level)

-- all steps say the priorities of the first
abbrev pub AreSame : List PrioSpan → Type 0
AreSame steps = (first : PrioSpan) → slice_get steps 0 ≡ Some first → All (SaysAs first) steps

-- the t-th lane of a page with these priorities has room for what stands in it; it is that of the thread that the chart
-- names there, with the bars and the steps of this, and has no strip exactly where the steps are all the same
pub record IsLane (prios : List Prio) (chart : Chart) (t : ℕ) (lane : LaneBand) : Type 0 where
  pub fits : Fits prios lane
  pub thread : (own : ChartLane) → slice_get chart.lanes t ≡ Some own → lane.thread ≡ own.thread
  pub bars : All (IsLaid lane.bars) (of_thread (λ bar. bar.thread.0) t chart.bars)
  pub steps : lane.steps.items ≡ of_thread (λ step. step.thread.0) t chart.steps
  pub flat : lane.strip ≡ None ↔ AreSame lane.steps.items

-- the priority by which a thread runs in a step, and its own
abbrev pub prios_in : PrioSpan → List Prio
prios_in step = step.effective ∷ step.base ∷ []

-- the priorities by which the threads of a chart run, and their own, are among those of a page
abbrev pub HasPrios : List Prio → List PrioSpan → Type 0
HasPrios prios steps = All (λ step. Contains prios step.effective × Contains prios step.base) steps

-- a column of a page has room for a mark; each lane is laid out, and ends where the next begins; and the page has the
-- priorities of its chart
pub record IsLaidOut (page : Page) : Type 0 where
  pub wide : 9 ≤ page.column
  pub prios : HasPrios page.prios.items page.chart.now.steps
  pub lanes : (t : ℕ) (lane : LaneBand) → slice_get page.lanes.items t ≡ Some lane
      → IsLane page.prios.items page.chart.now t lane
  pub ends : (t : ℕ) (lane : LaneBand) → slice_get page.lanes.items t ≡ Some lane
      → lane.bottom.0 ≡ lane_top page (t + 1)
  pub bottom_fits : page.bottom.0 ≤ 4294967295

-- 4. Bars

-- what the bar is written as with its top there
abbrev pub bar_bytes : Page → ℕ → Bar → List ℕ
bar_bytes page top bar = rect_bytes (bar_class bar.what)
    (bar_area (scale_of page) page.chart.now bar top) (bar_title page.plan.now page.chart.now bar)

-- a bar on its level in a lane stands there
abbrev pub BarIsOn : Page → LaneBand → List ℕ → Bar × ℕ → Type 0
BarIsOn page lane picture at =
    Stands picture (bar_bytes page (bar_place lane at.0.what at.1) at.0)

-- all bars of a lane stand there
abbrev pub BarsAreDrawn : Page → List ℕ → LaneBand → Type 0
BarsAreDrawn page picture lane = All (BarIsOn page lane picture) lane.bars.laid.items

-- 5. Loans

-- a loan stands in the picture if the strip of its thread's lane begins there
abbrev pub IsLentAt : Page → ℕ → List ℕ → PrioSpan → Type 0
IsLentAt page strip picture step =
    (scale_of page).strip step.thread.0 ≡ strip → step.effective ≢ step.base
    → Stands picture (rect_bytes (codes "loan")
    (loan_area (scale_of page) page.chart.now step) (codes "runs as " ++ decimal step.effective.0))

-- all loans of a lane that has a strip stand in the picture
abbrev pub LoansAreDrawn : Page → List ℕ → LaneBand → Type 0
LoansAreDrawn page picture lane = (y : Px) → lane.strip ≡ Some y
    → All (IsLentAt page y.0 picture) lane.steps.items
