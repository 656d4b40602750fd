use Rattle.std.proofs.Common.{◌≡◌, is_some, sym, ap, ◌∙◌, arith}
use Rattle.std.specs.Option.{option_flatten}
use Rattle.std.proofs.lemmas.Grind.{common_steps}
use Rattle.std.proofs.lemmas.Map.Views.{hash_map_contains_key_iff}
use Rattle.indexmap.specs.IndexMap.{get, keys}
use Rattle.lock_model.specs.Keys.{plan_names}
use Rattle.lock_history.specs.Books.{place_eq}
use Rattle.lock_history.proofs.Slots.{ascending, place_equiv, place_is, present-none}
use Rattle.lock_history.proofs.tables.Tables.make.Goals as goal

pub invariant_of-result : goal.invariant_of-result
invariant_of-result c =
    ascending (keys c.sort_keys.new.self) c.in_ok-sort_keys.ensures.sorted c.in_ok-sort_keys.ensures.unique

pub returns-clause-empty : goal.returns-clause-empty
returns-clause-empty c =
    let sorted = c.in_ok-sort_keys.ensures in
    present-none c.sort_keys.new.self (ascending (keys c.sort_keys.new.self) sorted.sorted sorted.unique)
    (λ q. ap option_flatten (sorted.reordered.2 q) ∙ c.loop-thread.invariant.0 q)

pub returns-clause-room : goal.returns-clause-room
returns-clause-room c l key =
    let made : is_some (get place_eq c.loop-thread.slots (l, key)) ≡ plan_names c.args.plan.now l key =
    grind (arith, common_steps, c.loop-thread.invariant.1 l key) in
    let all = ap is_some (c.in_ok-sort_keys.ensures.reordered.2 (l, key)) ∙ made in
    let found = hash_map_contains_key_iff place_equiv place_is c.sort_keys.new.self (l, key) in (
      λ h. sym all ∙ found.1 h,
      λ h. found.0 (all ∙ h),
    )
