use Rattle.std.proofs.Common.{◌≡◌, ◌∙◌, ◌<◌, ◌-◌, ◌≤◌, ap, arith, sym, subst, map, ℕ, List, All, Contains, get_or, length}
use Rattle.std.proofs.lemmas.Grind.{common_steps}
use Rattle.std.proofs.lemmas.List.{get_or-map, length-map, take_all}
use Rattle.std.proofs.lemmas.List.Elements.{All-contains_itself, All-push, All-same, All-weaker, Contains-get_or}
use Rattle.std.proofs.lemmas.List.Sorted.{Contains-permutation}
use Rattle.chart_layout.specs.declared.layout.Bar.{Bar}
use Rattle.chart_svg.specs.Lanes.{IsLaid}
use Rattle.chart_svg.proofs.packing.pack.Goals as goal
use Rattle.chart_svg.proofs.packing.pack.Goals.{then-is_wait, else-is_wait}

-- a bar of a list is laid where the bars that are laid are these
placed : (laid : List (Bar × ℕ)) (bars : List Bar) (most : ℕ) (bar : Bar) → All (λ at. at.1 ≤ most) laid
    → map (λ at. at.0) laid ≡ bars → Contains bars bar → (level : ℕ) × (level ≤ most) × Contains laid (bar, level)
placed laid bars most bar levels e (k, lt, is) =
    let within : k < length laid = omega (arith, length-map laid (λ at. at.0), ap length e) in
    let at = get_or laid k (bar, 0) in
    let same : at.0 ≡ bar =
    sym (get_or-map (λ a. a.0) laid k (bar, 0) bar within) ∙ ap (λ xs. get_or xs k bar) e ∙ is in
    (at.1, levels k (bar, 0) within, subst (λ b. Contains laid (b, at.1)) same (Contains-get_or laid k (bar, 0) within))

pub loop-bar-preserved : goal.loop-bar-preserved
loop-bar-preserved c =
    let old = c.loop-bar.packed in
    let new = c.lay.new.self in
    let Fits : Bar × ℕ → Type 0 = λ at. at.1 ≤ length new.ends.items - 1 in
    record {
      waits = elim c.if-is_wait.branch [
        | then-is_wait w ↦ omega (arith, w.waits_on-is, c.in_ok-level.ensures.level, new.ends.ok.0)
        | else-is_wait w ↦ omega (
          arith,
          w.waits_on-is,
          c.loop-bar.invariant.waits,
          c.in_ok-level.ensures.grows,
          old.ends.ok.0,
          new.ends.ok.0,
        )
      ];
      levels = All-same Fits new.laid.items _ c.in_ok-level.ensures.lays (All-push Fits old.laid.items _
          (All-weaker (λ at. at.1 ≤ length old.ends.items - 1) Fits
          (λ at le. omega (arith, c.in_ok-level.ensures.grows, old.ends.ok.0, new.ends.ok.0)) old.laid.items
          c.loop-bar.invariant.levels) (omega (arith, c.in_ok-level.ensures.level, new.ends.ok.0)));
      bars = grind (arith, common_steps);
    }

pub returns : goal.returns
returns c =
    let items = c.deref-bar-items.result.now in
    let sorted = c.sort_by_key.new.self.items in
    let old = c.loop-bar.packed in
    let laid = c.sort_by_key-2.new.self in
    let all : map (λ at. at.0) old.laid.items ≡ sorted = c.loop-bar.invariant.bars
    ∙ take_all c.loop-bar.bar-index items c.loop-bar-test.false ∙ c.deref-bar-items.ensures.value in
    All-weaker (Contains c.args.bars.now) (IsLaid (record old { laid = laid }))
    (λ bar has.
    let (level, reached, on) = placed old.laid.items sorted (length old.ends.items - 1) bar c.loop-bar.invariant.levels
    all (Contains-permutation _ _ bar c.sort_by_key.ensures.permutation
    (subst (λ (bars : List Bar). Contains bars bar) (sym c.in_ok-sorted.ensures.items) has)) in
    (level, reached, Contains-permutation _ _ (bar, level) c.sort_by_key-2.ensures.permutation on))
    c.args.bars.now (All-contains_itself c.args.bars.now)
