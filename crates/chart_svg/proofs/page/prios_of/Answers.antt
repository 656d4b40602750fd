use Rattle.std.proofs.Common.{◌≡◌, ◌∙◌, ap, subst, sym, flat_map, List, Contains}
use Rattle.std.proofs.lemmas.Cmp.{nat_eq_equiv, on_equiv}
use Rattle.std.proofs.lemmas.List.{take_all}
use Rattle.std.proofs.lemmas.List.Elements.{All-weaker}
use Rattle.std.proofs.lemmas.List.Filters.{dedup_is}
use Rattle.std.proofs.lemmas.List.Kept.{Contains-dedup}
use Rattle.std.proofs.lemmas.List.Sorted.{Contains-permutation}
use Rattle.chart_layout.specs.declared.layout.PrioSpan.{PrioSpan}
use Rattle.lock_model.specs.declared.numbers.Prio.{Prio}
use Rattle.chart_svg.proofs.Places.{has_prios, same_prio}
use Rattle.chart_svg.specs.Lanes.{prios_in}
use Rattle.chart_svg.proofs.page.prios_of.Goals as goal

pub returns : goal.returns
returns c =
    let steps = c.args.steps.now in
    let Among : List Prio → PrioSpan → Type 0 =
    λ prios step. Contains prios step.effective × Contains prios step.base in
    let all : c.loop-step.prios.items ≡ flat_map prios_in steps =
    c.loop-step.invariant ∙ ap (flat_map prios_in) (take_all c.loop-step.step-index steps c.loop-step-test.false) in
    let is = dedup_is _ _ _ c.dedup.ensures.filtered in
    let kept : (p : Prio) → Contains (flat_map prios_in steps) p → Contains c.dedup.new.self.items p =
    λ p has. (let Has : List Prio → Type 0 = λ prios. Contains prios p in
    rw is (Contains-dedup (on_equiv (λ (prio : Prio). prio.0) nat_eq_equiv) same_prio _ p
    (Contains-permutation _ _ p c.sort_unstable.ensures.permutation (subst Has (sym all) has)))) in
    All-weaker (Among (flat_map prios_in steps)) (Among c.dedup.new.self.items)
    (λ step has. (kept step.effective has.0, kept step.base has.1)) steps (has_prios steps)
