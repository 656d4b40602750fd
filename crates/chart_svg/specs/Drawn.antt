-- Where the names of threads and their ends, bars, loans, arrows and marks of a chart stand in its picture.
use Rattle.std.specs.Prelude.{◌≡◌, ◌≢◌, ◌⊎◌, ℕ, ◌+◌, ◌-◌, ◌*◌, ◌/◌, ◌<◌, ◌≤◌, ◌==◌, nat_lt, min, max, Bool, true, false, if◌then◌else◌, All, Any, List, [], ◌∷◌, ◌++◌, length, slice_get, Some, codes, decimal, Contains}
use Rattle.std.specs.List.{concat, filter}
use Rattle.chart_escape.specs.Markup.{escaped}
use Rattle.chart_layout.specs.Marks.{is_refusal}
use Rattle.chart_layout.specs.declared.layout.Arrow.{Arrow}
use Rattle.chart_layout.specs.declared.layout.ArrowKind.{ArrowKind}
use Rattle.chart_layout.specs.declared.layout.ArrowKind.TheVariants.{Lends, Wakes, BlockedOn, Behind, Refused}
use Rattle.chart_layout.specs.declared.layout.Bar.{Bar}
use Rattle.chart_layout.specs.declared.layout.BarKind.{BarKind}
use Rattle.chart_layout.specs.declared.layout.BarKind.TheVariants.{Holds, Waits, TakenOff, Woken, Walks}
use Rattle.chart_layout.specs.declared.layout.Chart.{Chart}
use Rattle.chart_layout.specs.declared.layout.Lane.{Lane}
use Rattle.chart_layout.specs.declared.layout.MarkKind.{MarkKind}
use Rattle.chart_layout.specs.declared.layout.MarkKind.TheVariants.{Noted, Did, Idle}
use Rattle.chart_layout.specs.declared.layout.PrioSpan.{PrioSpan}
use Rattle.chart_layout.specs.declared.layout.TurnMark.{TurnMark}
use Rattle.chart_words.specs.Words.{arrow_words, bar_words, mark_words, note_words}
use Rattle.lock_model.specs.Plans.{thread_name}
use Rattle.lock_model.specs.declared.plan.Mode.TheVariants.{Excl, Shared}
use Rattle.lock_model.specs.declared.plan.Plan.{Plan}
use Rattle.lock_model.specs.declared.plan.QueueName.TheVariants.{Lock, Chan}
use Rattle.chart_svg.specs.declared.shapes.Area.{Area}
use Rattle.chart_svg.specs.declared.shapes.Class.{Class}
use Rattle.chart_svg.specs.declared.shapes.Class.TheVariants.{None as NoClass, Word, OfLock}
use Rattle.chart_svg.specs.declared.shapes.Figure.{Figure}
use Rattle.chart_svg.specs.declared.shapes.Figure.TheVariants.{Up, Down, Cross}

-- 1. What stands in a text

-- the part stands somewhere in the text
pub record Stands (text part : List ℕ) : Type 0 where
  pub before : List ℕ
  pub behind : List ℕ
  pub is : text ≡ before ++ (part ++ behind)

-- 2. Shapes, each of a class. What a shape says is shown where it is pointed at.

-- a class: its word, and the number of its lock if it has one
abbrev pub class_bytes : Class → List ℕ
class_bytes NoClass = []
class_bytes (Word word) = word.now
class_bytes (OfLock word l) = word.now ++ decimal l.0

-- a rectangle, and what it says
unfoldable pub rect_bytes : List ℕ → Area → List ℕ → List ℕ
rect_bytes class area said = concat (codes "<rect class='" ∷ escaped class
    ∷ codes "' x='" ∷ decimal area.x.0 ∷ codes "' y='" ∷ decimal area.y.0
    ∷ codes "' width='" ∷ decimal area.width ∷ codes "' height='" ∷ decimal area.height
    ∷ codes "' rx='3'><title>" ∷ escaped said ∷ codes "</title></rect>\n" ∷ [])

-- a line from one point to another
unfoldable pub stroke_bytes : List ℕ → ℕ → ℕ → ℕ → ℕ → List ℕ
stroke_bytes class x1 y1 x2 y2 = concat (codes "<line class='" ∷ escaped class
    ∷ codes "' x1='" ∷ decimal x1 ∷ codes "' y1='" ∷ decimal y1
    ∷ codes "' x2='" ∷ decimal x2 ∷ codes "' y2='" ∷ decimal y2 ∷ codes "'></line>\n" ∷ [])

-- one straight up or down, from one height to another
abbrev pub line_bytes : List ℕ → ℕ → ℕ → ℕ → List ℕ
line_bytes class x begin end = stroke_bytes class x begin x end

-- a dot round a point, and what it says
unfoldable pub dot_bytes : List ℕ → ℕ → ℕ → List ℕ → List ℕ
dot_bytes class x y said = concat (codes "<circle class='" ∷ escaped class
    ∷ codes "' cx='" ∷ decimal x ∷ codes "' cy='" ∷ decimal y
    ∷ codes "' r='3'><title>" ∷ escaped said ∷ codes "</title></circle>\n" ∷ [])

-- the outline of a figure, from its point
abbrev pub outline : Figure → List ℕ
outline Up = codes "l-4 8h8z"
outline Down = codes "l-4-8h8z"
outline Cross = codes "m-5-5l10 10m0-10l-10 10"

-- a path, as SVG writes one, and what it says
unfoldable pub curve_bytes : List ℕ → List ℕ → List ℕ → List ℕ
curve_bytes class path said = concat (codes "<path class='" ∷ escaped class
    ∷ codes "' d='" ∷ escaped path
    ∷ codes "'><title>" ∷ escaped said ∷ codes "</title></path>\n" ∷ [])

-- a figure at its point, and what it says
abbrev pub figure_bytes : List ℕ → Figure → ℕ → ℕ → List ℕ → List ℕ
figure_bytes class figure x y said =
    curve_bytes class (codes "M" ++ decimal x ++ 32 ∷ decimal y ++ outline figure) said

-- words at a point
unfoldable pub words_bytes : List ℕ → ℕ → ℕ → List ℕ → List ℕ
words_bytes class x y words = concat (codes "<text class='" ∷ escaped class
    ∷ codes "' x='" ∷ decimal x ∷ codes "' y='" ∷ decimal y
    ∷ codes "'>" ∷ escaped words ∷ codes "</text>\n" ∷ [])

-- 3. Columns, lanes and priorities

-- The scale of a picture in pixels: where its columns begin, and how wide one is; where the lane of each thread begins,
-- which ends where the next begins; where the strip of priorities of each lane begins; how many places each priority is
-- below that, and how far two places lie apart.
pub record Scale : Type 0 where
  pub left : ℕ
  pub column : ℕ
  pub lane : ℕ → ℕ
  pub strip : ℕ → ℕ
  pub rank : ℕ → ℕ
  pub pitch : ℕ

-- a place, which stops at the greatest number of 32 bits: all that would lie beyond lies there
abbrev pub pixels : ℕ → ℕ
pixels n = min n 4294967295

-- the middle of a turn's column
abbrev pub turn_at : Scale → Chart → ℕ → ℕ
turn_at scale chart turn =
    pixels (scale.left + (turn - chart.first) * scale.column + scale.column / 2)

-- where the columns of the chart's window end
abbrev pub right_edge : Scale → Chart → ℕ
right_edge scale chart =
    pixels (scale.left + max (chart.last - chart.first) 1 * scale.column)

-- a row begins in the middle of the turn that led to it, or else where the columns begin
abbrev pub row_begin : Scale → Chart → ℕ → ℕ
row_begin scale chart row =
    if nat_lt chart.first row then turn_at scale chart (row - 1) else scale.left

-- a row ends in the middle of the turn behind it, or else where the columns end
abbrev pub row_end : Scale → Chart → ℕ → ℕ
row_end scale chart row =
    if nat_lt row chart.last then turn_at scale chart row else right_edge scale chart

-- a place in the lane of a thread, above the begin of the next
pub record IsInLane (scale : Scale) (t y : ℕ) : Type 0 where
  pub begins : scale.lane t ≤ y
  pub ends : pixels (y + 1) ≤ scale.lane (t + 1)

-- something stands in the lane of a thread, as it is written for its place there
pub record StandsIn (scale : Scale) (picture : List ℕ) (t : ℕ) (written : ℕ → List ℕ) : Type 0 where
  pub y : ℕ
  pub in_lane : IsInLane scale t y
  pub stands : Stands picture (written y)

-- where a priority is in the strip of a thread
abbrev pub prio_at : Scale → ℕ → ℕ → ℕ
prio_at scale t prio = pixels (scale.strip t + scale.rank prio * scale.pitch)

-- a thread runs as the priority in a step, or has it as its own
abbrev pub IsPrioOf : ℕ → PrioSpan → Type 0
IsPrioOf prio step = (step.effective.0 ≡ prio) ⊎ (step.base.0 ≡ prio)

-- 4. Names and ends of threads

-- the name of the thread that has the t-th lane stands in that lane
abbrev pub NameIsDrawn : Plan → Scale → List ℕ → ℕ → Lane → Type 0
NameIsDrawn plan scale picture t lane =
    StandsIn scale picture t (λ y. words_bytes (codes "name") 24 y (thread_name plan lane.thread.0))

-- a stroke stands in the t-th lane where the row begins
pub record StopIsDrawn (chart : Chart) (scale : Scale) (picture : List ℕ) (t row : ℕ)
    : Type 0 where
  pub begin : ℕ
  pub end : ℕ
  pub begins : IsInLane scale t begin
  pub ends : IsInLane scale t end
  pub stands : Stands picture (line_bytes (codes "stops") (row_begin scale chart row) begin end)

-- 5. Bars

-- the class of a bar
abbrev pub bar_class : BarKind → List ℕ
bar_class (Holds l Excl) = codes "holds" ++ decimal l.0
bar_class (Holds l Shared) = codes "reads" ++ decimal l.0
bar_class (Waits (Lock l)) = codes "waits" ++ decimal l.0
bar_class (Waits (Chan c)) = codes "chan"
bar_class (TakenOff (Lock l)) = codes "taken" ++ decimal l.0
bar_class (TakenOff (Chan c)) = codes "taken"
bar_class (Woken q) = codes "woken"
bar_class Walks = codes "walks"

abbrev pub is_walk : BarKind → Bool
is_walk (Holds l mode) = false
is_walk (Waits q) = false
is_walk (TakenOff q) = false
is_walk (Woken q) = false
is_walk Walks = true

-- a walk is a thin line
abbrev pub bar_height : BarKind → ℕ
bar_height what = if is_walk what then 3 else 18

-- a bar whose top is there, from the begin of its first row to the end of its last
abbrev pub bar_area : Scale → Chart → Bar → ℕ → Area
bar_area scale chart bar top = record {
  x = record { 0 = row_begin scale chart bar.first };
  y = record { 0 = top };
  width = row_end scale chart bar.last - row_begin scale chart bar.first;
  height = bar_height bar.what;
}

-- from which turn to which a bar lasts, as far as the window shows its begin and its end
abbrev pub lasting_words : Chart → Bar → List ℕ
lasting_words chart bar =
    if nat_lt chart.first bar.first
    then (if nat_lt bar.last chart.last
    then codes ", turn " ++ decimal (bar.first - 1) ++ codes " to " ++ decimal bar.last
    else codes ", from turn " ++ decimal (bar.first - 1) ++ codes " on")
    else (if nat_lt bar.last chart.last
    then codes ", up to turn " ++ decimal bar.last
    else codes ", throughout")

-- what a bar says: whose it is, what, and how long it lasts
abbrev pub bar_title : Plan → Chart → Bar → List ℕ
bar_title plan chart bar =
    thread_name plan bar.thread.0 ++ codes " " ++ bar_words plan bar.what
    ++ lasting_words chart bar

-- the bar stands in its thread's lane
pub record BarIsDrawn (plan : Plan) (chart : Chart) (scale : Scale) (picture : List ℕ) (bar : Bar)
    : Type 0 where
  pub top : ℕ
  pub in_lane : IsInLane scale bar.thread.0 top
  pub ends_in_lane : pixels (top + bar_height bar.what) ≤ scale.lane (bar.thread.0 + 1)
  pub stands : Stands picture (rect_bytes (bar_class bar.what) (bar_area scale chart bar top)
      (bar_title plan chart bar))

-- 6. Loans: steps in which a thread runs as another priority than its own

-- from the place of the priority as which it runs down to that of its own
abbrev pub loan_area : Scale → Chart → PrioSpan → Area
loan_area scale chart step = record {
  x = record { 0 = row_begin scale chart step.first };
  y = record { 0 = prio_at scale step.thread.0 step.effective.0 };
  width = row_end scale chart step.last - row_begin scale chart step.first;
  height = prio_at scale step.thread.0 step.base.0
      - prio_at scale step.thread.0 step.effective.0;
}

-- the loan stands in the strip of its thread's lane
pub record LoanIsDrawn (chart : Chart) (scale : Scale) (picture : List ℕ) (step : PrioSpan)
    : Type 0 where
  pub top_in_lane : IsInLane scale step.thread.0 (prio_at scale step.thread.0 step.effective.0)
  pub base_in_lane : IsInLane scale step.thread.0 (prio_at scale step.thread.0 step.base.0)
  pub stands : Stands picture (rect_bytes (codes "loan") (loan_area scale chart step)
      (codes "runs as " ++ decimal step.effective.0))

-- two steps say the same priorities
abbrev pub SaysAs : PrioSpan → PrioSpan → Type 0
SaysAs step other = (other.effective ≡ step.effective) × (other.base ≡ step.base)

-- the things of a thread, in order
abbrev pub of_thread : {X : Type 0} → (X → ℕ) → ℕ → List X → List X
of_thread number t things = filter (λ thing. number thing == t) things

-- the priorities of the step's thread don't change in the window
abbrev pub IsFlat : Chart → PrioSpan → Type 0
IsFlat chart step =
    All (SaysAs step) (of_thread (λ other. other.thread.0) step.thread.0 chart.steps)

abbrev pub Changes : Chart → PrioSpan → Type 0
Changes chart step = IsFlat chart step → ⊥

-- the priority by which a thread runs as a number, and its own one where that is another
abbrev pub prio_words : ℕ → ℕ → List ℕ
prio_words prio base =
    codes "priority " ++ decimal prio
    ++ (if prio == base then [] else codes " (base " ++ decimal base ++ codes ")")

-- the number stands in the thread's lane
abbrev pub PrioIsDrawn : Scale → List ℕ → PrioSpan → Type 0
PrioIsDrawn scale picture step = StandsIn scale picture step.thread.0
    (λ y. words_bytes (codes "gray") 24 y (prio_words step.effective.0 step.base.0))

-- 7. Arrows

-- the classes of its line and of its head; a loan that changes nothing is pale
abbrev pub arrow_classes : ArrowKind → List ℕ × List ℕ
arrow_classes (Lends before prio) =
    if before.0 == prio.0 then (codes "pale", codes "palehead")
    else (codes "lends", codes "lendhead")
arrow_classes Wakes = (codes "wakes", codes "wakehead")
arrow_classes BlockedOn = (codes "block", codes "blockhead")
arrow_classes Behind = (codes "block", codes "blockhead")
arrow_classes Refused = (codes "refused", codes "refusedhead")

-- the head points to the lane to which the arrow goes
abbrev pub head_figure : Scale → Arrow → Figure
head_figure scale arrow =
    if nat_lt (scale.lane arrow.to.0) (scale.lane arrow.from.0) then Up else Down

-- a loan is lent to somebody; the other words name whom they concern
abbrev pub to_word : ArrowKind → List ℕ
to_word (Lends before prio) = codes " to "
to_word Wakes = codes " "
to_word BlockedOn = codes " "
to_word Behind = codes " "
to_word Refused = codes " "

-- what an arrow says: from whom, what, and to whom
abbrev pub arrow_title : Plan → Arrow → List ℕ
arrow_title plan arrow =
    thread_name plan arrow.from.0 ++ codes " " ++ arrow_words arrow
    ++ to_word arrow.kind ++ thread_name plan arrow.to.0

-- the arrow stands in the column of its turn, and goes from the one lane to the other; of a picture in two parts its
-- line stands in the one, and its head in the other
pub record ArrowIsDrawn (plan : Plan) (chart : Chart) (scale : Scale) (lines heads : List ℕ)
    (arrow : Arrow) : Type 0 where
  pub begin : ℕ
  pub tip : ℕ
  pub begins : IsInLane scale arrow.from.0 begin
  pub ends : IsInLane scale arrow.to.0 tip
  pub line : Stands lines (line_bytes (arrow_classes arrow.kind).0
      (turn_at scale chart arrow.turn) begin tip)
  pub head : Stands heads (figure_bytes (arrow_classes arrow.kind).1 (head_figure scale arrow)
      (turn_at scale chart arrow.turn) tip (arrow_title plan arrow))

-- 8. Marks

-- what a mark says behind the word of what was done
abbrev pub note_of : Plan → MarkKind → List ℕ
note_of plan (Noted event) = note_words plan event
note_of plan (Did kind) = []
note_of plan Idle = codes "idle"

-- what a mark says: in which turn who did what
abbrev pub mark_title : Plan → TurnMark → List ℕ
mark_title plan mark =
    codes "turn " ++ decimal mark.turn ++ codes ", " ++ thread_name plan mark.thread.0
    ++ codes ": " ++ mark_words plan mark.what ++ note_of plan mark.what

abbrev pub dot_class : MarkKind → List ℕ
dot_class (Noted event) = codes "dot"
dot_class (Did kind) = codes "dot"
dot_class Idle = codes "idle"

-- what was refused has a cross, and all else a dot
abbrev pub mark_bytes : Plan → TurnMark → ℕ → ℕ → List ℕ
mark_bytes plan mark x y =
    if is_refusal mark.what
    then figure_bytes (codes "cross") Cross x y (mark_title plan mark)
    else dot_bytes (dot_class mark.what) x y (mark_title plan mark)

-- the mark stands in the column of its turn and in its thread's lane
abbrev pub MarkIsDrawn : Plan → Chart → Scale → List ℕ → TurnMark → Type 0
MarkIsDrawn plan chart scale picture mark = StandsIn scale picture mark.thread.0
    (λ y. mark_bytes plan mark (turn_at scale chart mark.turn) y)

-- 9. Pictures

-- the thread has a lane in the chart
abbrev pub HasLane : Chart → ℕ → Type 0
HasLane chart t = t < length chart.lanes

-- By one scale each name, end, bar, loan, arrow and mark of a chart stands in its picture, if those whom it concerns
-- have lanes; of a thread whose priorities don't change in the window a number stands there in place of its loans. A
-- column is at least 9 wide; lanes lie one below the other, each at least 45 high; and the more important of two
-- priorities lies at least 2 above the other. What else stands there isn't said.
pub record Draws (plan : Plan) (chart : Chart) (picture : List ℕ) : Type 0 where
  pub scale : Scale
  pub has_width : 9 ≤ scale.column
  pub has_height : 2 ≤ scale.pitch
  pub lanes : (t : ℕ) → HasLane chart t → pixels (scale.lane t + 45) ≤ scale.lane (t + 1)
  pub ranks : (p q : ℕ) → p < q → Any (IsPrioOf p) chart.steps → scale.rank p < scale.rank q
  pub names : (t : ℕ) (lane : Lane) → slice_get chart.lanes t ≡ Some lane
      → NameIsDrawn plan scale picture t lane
  pub stops : (t row : ℕ) (lane : Lane) → slice_get chart.lanes t ≡ Some lane
      → lane.thread.0 ≡ t → lane.ended ≡ Some row → row ≤ chart.last
      → StopIsDrawn chart scale picture t row
  pub bars : (bar : Bar) → Contains chart.bars bar → HasLane chart bar.thread.0
      → BarIsDrawn plan chart scale picture bar
  pub prios : (step : PrioSpan) → Contains chart.steps step → HasLane chart step.thread.0
      → IsFlat chart step → PrioIsDrawn scale picture step
  pub loans : (step : PrioSpan) → Contains chart.steps step → HasLane chart step.thread.0
      → Changes chart step → step.effective ≢ step.base → LoanIsDrawn chart scale picture step
  pub arrows : (arrow : Arrow) → Contains chart.arrows arrow
      → HasLane chart arrow.from.0 → HasLane chart arrow.to.0
      → ArrowIsDrawn plan chart scale picture picture arrow
  pub marks : (mark : TurnMark) → Contains chart.marks mark → HasLane chart mark.thread.0
      → MarkIsDrawn plan chart scale picture mark
