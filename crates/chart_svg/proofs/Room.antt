-- Each lane of a page has room for what stands in it.
use Rattle.std.proofs.Common.{ℕ, suc, zero, ◌+◌, ◌-◌, ◌*◌, ◌<◌, ◌≤◌, ◌≡◌, ◌∙◌, ◌++◌, inl, inr, ap, subst, sym, refl, List, [], ◌∷◌, length, arith, Some, ◌⊎◌}
use Rattle.std.specs.Global.{Vec}
use Rattle.std.specs.Prelude.{slice_get, nat_lt}
use Rattle.std.proofs.Math.Nat.{mul-le-mul_right}
use Rattle.std.proofs.lemmas.Option.{none-some, same_Some, slice_get_past, slice_get_within}
use Rattle.std.proofs.lemmas.List.{length-append}
use Rattle.std.proofs.lemmas.List.Sums.{count_by-le-length}
use Rattle.lock_model.specs.declared.numbers.Prio.{Prio}
use Rattle.chart_svg.specs.Drawn.{pixels}
use Rattle.chart_svg.specs.Lanes.{bar_bottom, lane_top, pitch_of, rank_in, top_of, Fits, HasPrios, IsLaidOut, IsLane}
use Rattle.chart_svg.specs.declared.page.LaneBand.{LaneBand}
use Rattle.chart_svg.specs.declared.page.Page.{Page}
use Rattle.chart_svg.specs.declared.pixels.Px.{Px}

-- 1. Lanes

-- a strip that begins below the bars ends before the lane does
strip_room : (end y rank gaps pitch bottom : ℕ) → y ≡ pixels (end + 5) → rank ≤ gaps + 1 → pitch ≤ 15
    → pixels (pixels (end + pixels (pitch * gaps)) + 27) ≤ bottom → pixels (pixels (y + rank * pitch) + 1) ≤ bottom
strip_room end y rank gaps pitch bottom is le small room =
    let low : rank * pitch ≤ (gaps + 1) * pitch = mul-le-mul_right pitch le in
    omega arith

-- a lane whose strip begins there
pub fits_lent : (prios : List Prio) (lane : LaneBand) (end strip : Px) → lane.top.0 ≤ lane.begin.0
    → lane.begin.0 ≤ 4294967295
    → ((level : ℕ) → level ≤ length lane.bars.ends.items - 1 → pixels (bar_bottom lane level + 4) ≤ end.0)
    → lane.strip ≡ Some strip → strip.0 ≡ pixels (end.0 + 5)
    → lane.bottom.0 ≡ pixels (pixels (end.0 + pixels (pitch_of (length prios) * (length prios - 1))) + 27)
    → Fits prios lane
fits_lent prios lane end strip top begin bars is place bottom =
    let first : pixels (bar_bottom lane 0 + 4) ≤ end.0 = bars 0 (omega arith) in
    record {
      begins = top;
      begin_fits = begin;
      bottom_fits = omega arith;
      has_room = omega arith;
      bars = λ level below. (let bar : pixels (bar_bottom lane level + 4) ≤ end.0 = bars level below in omega arith);
      strip = λ y prio e.
          (let same : y.0 ≡ pixels (end.0 + 5) = ap (λ p. p.0) (same_Some y strip (sym e ∙ is)) ∙ place in
          let rank : rank_in prios prio ≤ length prios = count_by-le-length (λ other. nat_lt other.0 prio) prios in (
            omega arith,
            strip_room end.0 y.0 (rank_in prios prio) (length prios - 1) (pitch_of (length prios)) lane.bottom.0 same
                (omega arith) (omega arith) (omega arith),
          ));
    }

-- 2. Pages

pub laid_none : (page : Page) → length page.lanes.items ≡ 0 → page.bottom.0 ≤ 4294967295 → 9 ≤ page.column
    → HasPrios page.prios.items page.chart.now.steps → IsLaidOut page
laid_none page none bottom wide prios = record {
  wide = wide;
  prios = prios;
  bottom_fits = bottom;
  lanes = λ t lane is. absurd (omega (arith, slice_get_within page.lanes.items t lane is));
  ends = λ t lane is. absurd (omega (arith, slice_get_within page.lanes.items t lane is));
}

-- a page has one lane more
slice_get-push : {X : Type 0} (xs : List X) (x : X) (t : ℕ) (y : X) → slice_get (xs ++ x ∷ []) t ≡ Some y
    → ((t < length xs) × (slice_get xs t ≡ Some y)) ⊎ ((t ≡ length xs) × (x ≡ y))
slice_get-push [] x zero y is = inr (refl, same_Some x y is)
slice_get-push [] x (suc t) y is = absurd (none-some y is)
slice_get-push (z ∷ xs) x zero y is = inl (omega arith, is)
slice_get-push (z ∷ xs) x (suc t) y is =
    elim (slice_get-push xs x t y is) [
      | inl (lt, was) ↦ inl (omega arith, was)
      | inr (e, same) ↦ inr (ap suc e, same)
    ]

top_more : (lanes : List LaneBand) (lane : LaneBand) (old new t : ℕ) → lane.top.0 ≡ old → t ≤ length lanes
    → top_of new (slice_get (lanes ++ lane ∷ []) t) ≡ top_of old (slice_get lanes t)
top_more [] lane old new zero is le = is
top_more [] lane old new (suc t) is le = absurd (omega arith)
top_more (l ∷ lanes) lane old new zero is le = refl
top_more (l ∷ lanes) lane old new (suc t) is le = top_more lanes lane old new t is (omega arith)

pub laid_more : (page : Page) (lane : LaneBand) (lanes : Vec LaneBand) → lanes.items ≡ page.lanes.items ++ lane ∷ []
    → lane.top ≡ page.bottom → IsLane page.prios.items page.chart.now (length page.lanes.items) lane → IsLaidOut page
    → IsLaidOut (record page { lanes = lanes; bottom = lane.bottom })
laid_more page lane lanes pushed top own h =
    let old = page.lanes.items in
    let new : Page = record page { lanes = lanes; bottom = lane.bottom } in
    let read : (t : ℕ) (other : LaneBand) → slice_get lanes.items t ≡ Some other
    → ((t < length old) × (slice_get old t ≡ Some other)) ⊎ ((t ≡ length old) × (lane ≡ other)) =
    λ t other is. slice_get-push old lane t other (ap (λ xs. slice_get xs t) (sym pushed) ∙ is) in
    let tops : (t : ℕ) → t ≤ length old → lane_top new t ≡ lane_top page t =
    λ t le. ap (λ xs. top_of lane.bottom.0 (slice_get xs t)) pushed
    ∙ top_more old lane page.bottom.0 lane.bottom.0 t (ap (λ y. y.0) top) le in
    let last : lane_top new (length old + 1) ≡ lane.bottom.0 = ap (top_of lane.bottom.0)
    (slice_get_past lanes.items (length old + 1) (omega (arith, ap length pushed, length-append old (lane ∷ [])))) in
    record {
      wide = h.wide;
      prios = h.prios;
      bottom_fits = own.fits.bottom_fits;
      lanes = λ t other is. elim (read t other is) [
        | inl (lt, was) ↦ h.lanes t other was
        | inr (e, same) ↦ (let Own : LaneBand → Type 0 = λ l. IsLane page.prios.items page.chart.now t l in
            let At : ℕ → Type 0 = λ n. IsLane page.prios.items page.chart.now n lane in
            subst Own same (subst At (sym e) own))
      ];
      ends = λ t other is. elim (read t other is) [
        | inl (lt, was) ↦ h.ends t other was ∙ sym (tops (t + 1) (omega arith))
        | inr (e, same) ↦ ap (λ l. l.bottom.0) (sym same) ∙ sym last ∙ ap (λ n. lane_top new (n + 1)) (sym e)
      ];
    }
