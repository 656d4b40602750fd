use Rattle.std.proofs.Common.{◌≡◌, Bool, ◌<◌, ◌||◌, length, get_or, eqb, take, sym, ap, subst, ◌∙◌, arith}
use Rattle.std.specs.List.{Contains, list_any}
use Rattle.std.specs.List.Sorted.{IsStrictlyIncreasing}
use Rattle.std.proofs.lemmas.Grind.{common_steps}
use Rattle.std.proofs.lemmas.List.Folds.{list_any_more}
use Rattle.std.proofs.lemmas.List.Filters.{dedup_is}
use Rattle.std.proofs.lemmas.Map.Keys.{IsStrictlyIncreasing-dedup}
use Rattle.lock_model.proofs.NamedKeys.{kept_keys}
use Rattle.lock_model.specs.Keys.{op_names, plan_names}
use Rattle.lock_model.specs.declared.plan.ThreadDecl.{ThreadDecl}
use Rattle.lock_model.proofs.plan.Plan.keys_of.Goals as goal

pub loop-thread-preserved : goal.loop-thread-preserved
loop-thread-preserved c key =
    let q : ThreadDecl → Bool = λ d. list_any (op_names c.args.l.0 key) d.ops in
    let threads = c.args.self.now.threads in
    let lt : c.loop-thread.thread-index < length threads = omega (arith, ap length c.as_slice-thread-items.ensures) in
    let before = list_any q (take c.loop-thread.thread-index threads) in
    c.in_ok-push_keys.ensures key
    ∙ ap (λ ops. list_any (λ k. eqb k key) c.loop-thread.keys.items || list_any (op_names c.args.l.0 key) ops)
    c.as_slice.ensures
    ∙ ap (λ b. b || q c.thread-item.result) (c.loop-thread.invariant key)
    ∙ ap (λ d. before || q d) c.thread-item.is
    ∙ ap (λ ds. before || q (get_or ds c.loop-thread.thread-index c.thread-item.result)) c.as_slice-thread-items.ensures
    ∙ sym (list_any_more q threads c.loop-thread.thread-index c.thread-item.result lt)

pub returns-clause-ascending : goal.returns-clause-ascending
returns-clause-ascending c =
    let is = dedup_is eqb _ _ c.dedup.ensures.filtered in
    subst IsStrictlyIncreasing (sym is) (IsStrictlyIncreasing-dedup _ c.sort_unstable.ensures.sorted)

pub returns-clause-named : goal.returns-clause-named
returns-clause-named c key =
    let is = dedup_is eqb _ _ c.dedup.ensures.filtered in
    let kept = kept_keys _ _ key c.sort_unstable.ensures.permutation in
    let all : list_any (λ k. eqb k key) c.loop-thread.keys.items ≡ plan_names c.args.self.now c.args.l.0 key =
    grind (arith, common_steps, c.loop-thread.invariant key) in (
      λ h. sym all ∙ kept.0 (subst (λ ks. Contains ks key) is h),
      λ h. subst (λ ks. Contains ks key) (sym is) (kept.1 (all ∙ h)),
    )
