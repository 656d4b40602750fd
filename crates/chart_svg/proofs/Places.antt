-- What stands on a page draws its chart.
use Rattle.std.proofs.Common.{ℕ, suc, zero, ◌+◌, ◌<◌, ◌≤◌, ◌≡◌, ◌∙◌, ◌++◌, flat_map, ap, refl, Bool, true, false, cond, List, [], ◌∷◌, length, Contains, arith, ◌*◌, ◌≢◌, ◌==◌, ◌⊎◌, inl, inr, sym, subst, nat_lt, if◌then◌else◌, codes, All, Option, Some, None}
use Rattle.std.specs.Prelude.{nat_eq, remove, slice_get, Any}
use Rattle.std.specs.List.{filter}
use Rattle.std.proofs.lemmas.Bool.Decides.{nat_tests, Decides-eqb}
use Rattle.lock_model.specs.declared.numbers.Prio.{Prio}
use Rattle.std.proofs.lemmas.List.Elements.{All-cons, All-nil, All-weaker, Contains-append_right, All-contains}
use Rattle.chart_layout.specs.declared.layout.PrioSpan.{PrioSpan}
use Rattle.chart_svg.specs.Lanes.{prios_in, rank_in, HasPrios, bar_bottom, bar_place, bar_top, begin_of, lane_top, pitch_of, scale_of, strip_of, top_of, AreSame, BarIsOn, BarsAreDrawn, IsLaid, IsLaidOut, IsLentAt, IsWithin, LoansAreDrawn}
use Rattle.std.proofs.lemmas.Bool.{le-ltb}
use Rattle.std.proofs.lemmas.List.Sums.{sum_by-le-sum_by, sum_by-remove}
use Rattle.std.proofs.lemmas.Option.{get_or_from_slice_get, slice_get_cases, slice_get_within}
use Rattle.chart_layout.specs.declared.layout.Bar.{Bar}
use Rattle.chart_layout.specs.declared.layout.Chart.{Chart}
use Rattle.chart_layout.specs.declared.layout.Lane.{Lane as ChartLane}
use Rattle.lock_model.specs.Plans.{thread_name}
use Rattle.lock_model.specs.declared.numbers.ThreadNo.{ThreadNo}
use Rattle.lock_model.specs.declared.plan.Plan.{Plan}
use Rattle.chart_svg.proofs.Standing.{told}
use Rattle.chart_svg.specs.Drawn.{is_walk, of_thread, pixels, prio_words, row_begin, words_bytes, BarIsDrawn, Changes, Draws, HasLane, IsFlat, IsInLane, IsPrioOf, LoanIsDrawn, NameIsDrawn, PrioIsDrawn, SaysAs, StopIsDrawn}
use Rattle.chart_svg.specs.Pages.{shown_words, stop_at, ArrowIsOn, FrameIsOn, LanesAreDrawn, MarkIsOn, StopsAt}
use Rattle.chart_svg.specs.declared.page.LaneBand.{LaneBand}
use Rattle.chart_svg.specs.declared.page.Page.{Page}
use Rattle.chart_svg.specs.declared.pixels.Px.{Px}

-- 1. Lists

among : {X : Type 0} (xs : List X) (k : ℕ) (x : X) → slice_get xs k ≡ Some x → Contains xs x
among xs k x is = (k, slice_get_within xs k x is, get_or_from_slice_get xs k x x is)

some_or_none : {X : Type 0} (o : Option X) → ((x : X) × (o ≡ Some x)) ⊎ (o ≡ None)
some_or_none None = inr refl
some_or_none (Some x) = inl (x, refl)

passed : {X : Type 0} (b : Bool) (y x : X) (more : List X) → Contains more x → Contains (cond b (y ∷ more) more) x
passed true y x more (k, lt, is) = (suc k, omega arith, is)
passed false y x more has = has

filtered : {X : Type 0} (p : X → Bool) (xs : List X) (x : X) → Contains xs x → p x ≡ true → Contains (filter p xs) x
filtered p [] x (k, lt, is) t = absurd (omega arith)
filtered p (y ∷ ys) x (zero, lt, is) t = rw (ap p is ∙ t) (0, omega arith, is)
filtered p (y ∷ ys) x (suc k, lt, is) t = passed (p y) y x (filter p ys) (filtered p ys x (k, omega arith, is) t)

-- what is of a thread is among what is of it
of_own : {X : Type 0} (number : X → ℕ) (things : List X) (x : X) → Contains things x
    → Contains (of_thread number (number x) things) x
of_own {X} number things x has =
    filtered (λ (y : X). number y == number x) things x has ((Decides-eqb (number x) (number x)).1 refl)

-- 2. Priorities

test-le : (x p q : ℕ) → p < q → cond (nat_lt x p) 1 0 ≤ cond (nat_lt x q) 1 0
test-le x p q lt = grind (arith, nat_tests)

test-lt : (x p q : ℕ) → x ≡ p → p < q → cond (nat_lt x p) 1 0 + 1 ≡ cond (nat_lt x q) 1 0
test-lt x p q is lt = grind (arith, nat_tests)

rank-lt : (xs : List Prio) (prio : Prio) (p q : ℕ) → prio.0 ≡ p → p < q → Contains xs prio
    → rank_in xs p < rank_in xs q
rank-lt xs prio p q is lt (k, within, at) =
    let below : ℕ → Prio → ℕ = λ n x. cond (nat_lt x.0 n) 1 0 in
    omega (
      arith,
      sum_by-remove (below p) xs k prio within,
      sum_by-remove (below q) xs k prio within,
      sum_by-le-sum_by (below p) (below q) (remove xs k) (λ x. test-le x.0 p q lt),
      ap (below p) at,
      ap (below q) at,
      test-lt prio.0 p q is lt,
    )

pub same_prio : (x y : Prio) → nat_eq x.0 y.0 ≡ true → x ≡ y
same_prio x y e = let prio : ℕ → Prio = λ n. record { 0 = n } in ap prio ((Decides-eqb x.0 y.0).0 e)

pub has_prios : (steps : List PrioSpan) → HasPrios (flat_map prios_in steps) steps
has_prios [] = All-nil _
has_prios (step ∷ steps) =
    let own = prios_in step in
    let rest = flat_map prios_in steps in
    let Among : List Prio → PrioSpan → Type 0 = λ prios s. Contains prios s.effective × Contains prios s.base in
    All-cons (Among (own ++ rest)) step steps ((0, omega arith, refl), (1, omega arith, refl))
    (All-weaker (Among rest) (Among (own ++ rest)) (λ s has. (
      Contains-append_right own rest s.effective has.0,
      Contains-append_right own rest s.base has.1,
    )) steps (has_prios steps))

ranks_apart : (page : Page) → HasPrios page.prios.items page.chart.now.steps → (p q : ℕ) → p < q
    → Any (IsPrioOf p) page.chart.now.steps
    → rank_in page.prios.items p < rank_in page.prios.items q
ranks_apart page has p q lt (k, step, within, is, which) =
    let P : PrioSpan → Type 0 = λ s. Contains page.prios.items s.effective × Contains page.prios.items s.base in
    let both : P step = All-contains P page.chart.now.steps step has (k, within, is) in
    elim which [
      | inl e ↦ rank-lt page.prios.items step.effective p q e lt both.0
      | inr e ↦ rank-lt page.prios.items step.base p q e lt both.1
    ]

-- the first step of a lane that has one
first_of : (lane : LaneBand) (step : PrioSpan) → Contains lane.steps.items step
    → (first : PrioSpan) × (slice_get lane.steps.items 0 ≡ Some first)
first_of lane step has = elim (slice_get_cases lane.steps.items 0).1 [
  | inl (first, within, is, read) ↦ (first, is)
  | inr (past, none) ↦ (let some : has.0 < length lane.steps.items = has.1 in absurd (omega arith))
]

-- all steps say as one of them where all say as another
say_as : (steps : List PrioSpan) (step other : PrioSpan) → Contains steps other → All (SaysAs step) steps
    → All (SaysAs other) steps
say_as steps step other has all =
    let this = All-contains (SaysAs step) steps other all has in
    All-weaker (SaysAs step) (SaysAs other) (λ s that. (that.0 ∙ sym this.0, that.1 ∙ sym this.1)) steps all

-- 3. Bars and ends

low : (b : Bool) → (if b then 3 else 18) ≤ 18
low true = omega arith
low false = omega arith

bar_fits : (lane : LaneBand) (b : Bool) (level : ℕ) → lane.top.0 ≤ lane.begin.0 → lane.begin.0 ≤ 4294967295
    → pixels (bar_bottom lane level + 20) ≤ lane.bottom.0
    → (lane.top.0 ≤ (if b then pixels (bar_bottom lane level + 2) else bar_top lane level))
    × (pixels ((if b then pixels (bar_bottom lane level + 2) else bar_top lane level) + 18) ≤ lane.bottom.0)
bar_fits lane true level begins fits below = (omega arith, omega arith)
bar_fits lane false level begins fits below = (omega arith, omega arith)

stop_told : (page : Page) (t row : ℕ) (own : ThreadNo) (lane : ChartLane) → slice_get page.chart.now.lanes t ≡ Some lane
    → own ≡ lane.thread → lane.thread.0 ≡ t
    → lane.ended ≡ Some row → row ≤ page.chart.now.last
    → stop_at page own.0 ≡ Some (row_begin (scale_of page) page.chart.now row)
stop_told page t row own lane is same thread ended within =
    let at : own.0 ≡ t = ap (λ n. n.0) same ∙ thread in
    let late : nat_lt page.chart.now.last row ≡ false = le-ltb page.chart.now.last row within in
    rw (at, is, ended, late) refl

-- 4. Lanes

lane_begins : (page : Page) (t : ℕ) (lane : LaneBand) → slice_get page.lanes.items t ≡ Some lane
    → lane_top page t ≡ lane.top.0
lane_begins page t lane is = ap (top_of page.bottom.0) is

-- what stands between the top and the bottom of a lane
pub in_lane : (page : Page) → IsLaidOut page → (t : ℕ) (lane : LaneBand) (y : ℕ)
    → slice_get page.lanes.items t ≡ Some lane → IsWithin lane y → IsInLane (scale_of page) t y
in_lane page out t lane y is at = record {
  begins = omega (arith, at.0, lane_begins page t lane is);
  ends = omega (arith, at.1, out.ends t lane is);
}

module _ (page : Page) (picture : List ℕ) (out : IsLaidOut page)
    (long : length page.lanes.items ≡ length page.chart.now.lanes)
    (drawn : LanesAreDrawn page picture) where
  -- a thread that has a lane in the chart has one on the page
  at : (t : ℕ) → HasLane page.chart.now t → (lane : LaneBand) × (slice_get page.lanes.items t ≡ Some lane)
  at t lt = elim (slice_get_cases page.lanes.items t).1 [
    | inl (lane, within, is, read) ↦ (lane, is)
    | inr (past, none) ↦ absurd (omega arith)
  ]

  framed : (t : ℕ) (lane : LaneBand) → slice_get page.lanes.items t ≡ Some lane → FrameIsOn page picture lane
  framed t lane is =
      All-contains (FrameIsOn page picture) page.lanes.items lane drawn.frame (among page.lanes.items t lane is)

  apart : (t : ℕ) → HasLane page.chart.now t → pixels (lane_top page t + 45) ≤ lane_top page (t + 1)
  apart t lt =
      let (lane, is) = at t lt in
      let fit = (out.lanes t lane is).fits in
      omega (arith, lane_begins page t lane is, out.ends t lane is, fit.has_room, fit.begins)

  names : (t : ℕ) (own : ChartLane) → slice_get page.chart.now.lanes t ≡ Some own
      → NameIsDrawn page.plan.now (scale_of page) picture t own
  names t own of =
      let (lane, is) = at t (slice_get_within page.chart.now.lanes t own of) in
      let laid = out.lanes t lane is in
      let fit = laid.fits in
      let y = pixels (pixels (lane.begin.0 + 36) + 4) in
      record {
        y = y;
        in_lane = in_lane page out t lane y is
            (omega (arith, fit.begins, fit.begin_fits), omega (arith, fit.has_room));
        stands = told picture _ _ (ap (λ (thread : ThreadNo). words_bytes (codes "name") 24 y
            (thread_name page.plan.now thread.0)) (laid.thread own of)) (framed t lane is).name;
      }

  stops : (t row : ℕ) (own : ChartLane) → slice_get page.chart.now.lanes t ≡ Some own → own.thread.0 ≡ t
      → own.ended ≡ Some row → row ≤ page.chart.now.last → StopIsDrawn page.chart.now (scale_of page) picture t row
  stops t row own of thread ended within =
      let (lane, is) = at t (slice_get_within page.chart.now.lanes t own of) in
      let laid = out.lanes t lane is in
      let fit = laid.fits in
      let P : Option ℕ → Type 0 = λ x. StopsAt picture lane x in
      record {
        begin = pixels (lane.begin.0 + 25);
        end = pixels (lane.begin.0 + 47);
        begins = in_lane page out t lane _ is
            (omega (arith, fit.begins, fit.begin_fits), omega (arith, fit.has_room));
        ends = in_lane page out t lane _ is
            (omega (arith, fit.begins, fit.begin_fits), omega (arith, fit.has_room));
        stands = subst P (stop_told page t row lane.thread own of (laid.thread own of) thread ended within)
            (framed t lane is).stop;
      }

  bars_drawn : (bar : Bar) → Contains page.chart.now.bars bar → HasLane page.chart.now bar.thread.0
      → BarIsDrawn page.plan.now page.chart.now (scale_of page) picture bar
  bars_drawn bar in_chart lt =
      let (lane, is) = at bar.thread.0 lt in
      let laid = out.lanes bar.thread.0 lane is in
      let fit = laid.fits in
      let on : IsLaid lane.bars bar = All-contains (IsLaid lane.bars) _ bar laid.bars
      (of_own (λ (b : Bar). b.thread.0) page.chart.now.bars bar in_chart) in
      let (level, reached, has) = on in
      let top = bar_place lane bar.what level in
      let within : IsWithin lane top × (pixels (top + 18) ≤ lane.bottom.0) =
      (let (begins, ends) = bar_fits lane (is_walk bar.what) level fit.begins fit.begin_fits (fit.bars level reached) in
      ((begins, omega (arith, ends)), ends)) in
      record {
        top = top;
        in_lane = in_lane page out bar.thread.0 lane top is within.0;
        ends_in_lane = omega (arith, within.1, out.ends bar.thread.0 lane is, low (is_walk bar.what));
        stands = All-contains (BarIsOn page lane picture) lane.bars.laid.items (bar, level)
            (All-contains (BarsAreDrawn page picture) page.lanes.items lane drawn.bars
            (among page.lanes.items bar.thread.0 lane is)) has;
      }

  -- a thread's step is among those of its lane
  own_step : (lane : LaneBand) (step : PrioSpan) → slice_get page.lanes.items step.thread.0 ≡ Some lane
      → Contains page.chart.now.steps step → Contains lane.steps.items step
  own_step lane step is in_chart =
      let Own : List PrioSpan → Type 0 = λ xs. Contains xs step in
      subst Own (sym (out.lanes step.thread.0 lane is).steps)
      (of_own (λ (s : PrioSpan). s.thread.0) page.chart.now.steps step in_chart)

  prios_drawn : (step : PrioSpan) → Contains page.chart.now.steps step → HasLane page.chart.now step.thread.0
      → IsFlat page.chart.now step → PrioIsDrawn (scale_of page) picture step
  prios_drawn step in_chart lt flat =
      let (lane, is) = at step.thread.0 lt in
      let laid = out.lanes step.thread.0 lane is in
      let fit = laid.fits in
      let all : All (SaysAs step) lane.steps.items = subst (All (SaysAs step)) (sym laid.steps) flat in
      let same : AreSame lane.steps.items =
      λ other at. say_as lane.steps.items step other (among lane.steps.items 0 other at) all in
      let (first, at_first) = first_of lane step (own_step lane step is in_chart) in
      let this : SaysAs step first =
      All-contains (SaysAs step) lane.steps.items first all (among lane.steps.items 0 first at_first) in
      let below : pixels (bar_bottom lane 0 + 20) ≤ lane.bottom.0 = fit.bars 0 (omega arith) in
      let y : ℕ = pixels (pixels (lane.begin.0 + 36) + 20) in
      record {
        y = y;
        in_lane = in_lane page out step.thread.0 lane y is
            (omega (arith, fit.begins, fit.begin_fits), omega (arith, below));
        stands = told picture _ _ (ap (λ (o : Option Px). words_bytes (codes "gray") 24 y (shown_words o first))
            (laid.flat.1 same)
            ∙ ap (λ (p : Prio). words_bytes (codes "gray") 24 y (prio_words p.0 first.base.0)) this.0
            ∙ ap (λ (p : Prio). words_bytes (codes "gray") 24 y (prio_words step.effective.0 p.0)) this.1)
            ((framed step.thread.0 lane is).prio first at_first);
      }

  -- a step of a lane that has a strip
  loan_drawn : (lane : LaneBand) (strip : Px) (step : PrioSpan) → slice_get page.lanes.items step.thread.0 ≡ Some lane
      → lane.strip ≡ Some strip → Contains lane.steps.items step → step.effective ≢ step.base
      → LoanIsDrawn page.chart.now (scale_of page) picture step
  loan_drawn lane strip step is has_strip has lent =
      let fit = (out.lanes step.thread.0 lane is).fits in
      let here : strip_of (slice_get page.lanes.items step.thread.0) ≡ strip.0 =
      ap strip_of is ∙ ap begin_of has_strip in
      let place : (prio : ℕ) → IsInLane (scale_of page) step.thread.0
      (pixels (strip_of (slice_get page.lanes.items step.thread.0) + rank_in page.prios.items prio * pitch_of
      (length page.prios.items))) =
      λ prio. in_lane page out step.thread.0 lane _ is (subst (λ y. IsWithin lane
      (pixels (y + rank_in page.prios.items prio * pitch_of (length page.prios.items)))) (sym here)
      (fit.strip strip prio has_strip)) in
      record {
        top_in_lane = place step.effective.0;
        base_in_lane = place step.base.0;
        stands = All-contains (IsLentAt page strip.0 picture) lane.steps.items step
            (All-contains (LoansAreDrawn page picture) page.lanes.items lane drawn.loans
            (among page.lanes.items step.thread.0 lane is) strip has_strip) has here lent;
      }

  loans_drawn : (step : PrioSpan) → Contains page.chart.now.steps step → HasLane page.chart.now step.thread.0
      → Changes page.chart.now step → step.effective ≢ step.base
      → LoanIsDrawn page.chart.now (scale_of page) picture step
  loans_drawn step in_chart lt changes lent =
      let (lane, is) = at step.thread.0 lt in
      let laid = out.lanes step.thread.0 lane is in
      let has = own_step lane step is in_chart in
      let (first, at_first) = first_of lane step has in
      elim (some_or_none lane.strip) [
        | inl (strip, is_strip) ↦ loan_drawn lane strip step is is_strip has lent
        | inr none ↦ absurd (changes (subst (All (SaysAs step)) laid.steps
            (say_as lane.steps.items first step has (laid.flat.0 none first at_first))))
      ]

  page_drawn : Draws page.plan.now page.chart.now picture
  page_drawn = record {
    scale = scale_of page;
    has_width = out.wide;
    has_height = omega arith;
    lanes = apart;
    ranks = ranks_apart page out.prios;
    names = names;
    stops = stops;
    bars = bars_drawn;
    prios = prios_drawn;
    loans = loans_drawn;
    arrows = λ arrow in_chart from to. All-contains (ArrowIsOn page picture picture) page.chart.now.arrows arrow
        drawn.arrows in_chart (omega (arith, from)) (omega (arith, to));
    marks = λ mark in_chart on. All-contains (MarkIsOn page picture) page.chart.now.marks mark drawn.marks in_chart
        (omega (arith, on));
  }

pub picture_draws : (page : Page) (plan : Plan) (chart : Chart) (picture : List ℕ) → page.plan.now ≡ plan
    → page.chart.now ≡ chart → IsLaidOut page → length page.lanes.items ≡ length chart.lanes
    → LanesAreDrawn page picture → Draws plan chart picture
picture_draws page plan chart picture ep ec out long drawn =
    let draws : Draws page.plan.now page.chart.now picture = page_drawn page picture out
    (subst (λ (c : Chart). length page.lanes.items ≡ length c.lanes) (sym ec) long) drawn in
    subst (λ (c : Chart). Draws plan c picture) ec (subst (λ (p : Plan). Draws p page.chart.now picture) ep draws)
