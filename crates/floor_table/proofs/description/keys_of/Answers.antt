use Rattle.std.proofs.Common.{◌≡◌, List, ℕ, ap, ◌∙◌, subst, flat_map, IsPermutation}
use Rattle.std.proofs.lemmas.List.Filters.{dedup_is}
use Rattle.std.proofs.lemmas.List.{take_all}
use Rattle.lock_model.specs.declared.plan.ThreadDecl.{ThreadDecl}
use Rattle.floor_table.specs.Descriptions.{keys_named, keys_in}
use Rattle.floor_table.proofs.PlanKeys.{same, set_in_order}
use Rattle.floor_table.proofs.description.keys_of.Goals as goal

pub returns : goal.returns
unfolding keys_in
returns c =
    let threads : List ThreadDecl = c.args.threads.now in
    let keys : List ThreadDecl → List (ℕ × ℕ) = flat_map (λ (d : ThreadDecl). keys_named d.ops) in
    let all : c.loop-thread.keys.items ≡ keys threads = c.loop-thread.invariant
    ∙ ap keys (take_all c.loop-thread.thread-index threads c.loop-thread-test.false) in
    dedup_is same _ _ c.dedup.ensures.filtered ∙ set_in_order (keys threads) _
    (subst (λ ks. IsPermutation ks c.sort_unstable.new.self.items) all c.sort_unstable.ensures.permutation)
    c.sort_unstable.ensures.sorted
