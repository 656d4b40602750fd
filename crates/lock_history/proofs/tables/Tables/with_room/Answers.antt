use Rattle.std.proofs.Common.{◌≡◌, get_or, is_some, sym, ap, ◌∙◌}
use Rattle.std.proofs.lemmas.List.{take_all}
use Rattle.std.proofs.lemmas.Map.Views.{hash_map_contains_key_iff, Contains-from_any, list_any-from_Contains}
use Rattle.std.specs.List.{list_any}
use Rattle.std.specs.Option.{option_flatten}
use Rattle.indexmap.specs.IndexMap.{get, keys}
use Rattle.lock_history.specs.Books.{place_eq}
use Rattle.lock_history.proofs.Slots.{ascending, place_equiv, place_is, present-none, room_for_one, room_none}
use Rattle.lock_history.proofs.tables.Tables.with_room.Goals as goal

pub loop-key-preserved : goal.loop-key-preserved
loop-key-preserved c =
    let before = c.loop-key.invariant in
    let keys = c.args.keys.now in
    let i = c.loop-key.key-index in
    let made = c.in_ok-insert.ensures in
    let m = c.loop-key.slots in (
      room_none m c.insert.new.self (get_or keys i (0, 0)) before.0 made.updates,
      λ l k. room_for_one l k m c.insert.new.self keys i (0, 0) c.loop-key-test.true (before.1 l k) made.updates,
    )

pub invariant_of-result : goal.invariant_of-result
invariant_of-result c =
    ascending (keys c.sort_keys.new.self) c.in_ok-sort_keys.ensures.sorted c.in_ok-sort_keys.ensures.unique

pub returns-clause-empty : goal.returns-clause-empty
returns-clause-empty c =
    let sorted = c.in_ok-sort_keys.ensures in
    present-none c.sort_keys.new.self (ascending (keys c.sort_keys.new.self) sorted.sorted sorted.unique)
    (λ q. ap option_flatten (sorted.reordered.2 q) ∙ c.loop-key.invariant.0 q)

pub returns-clause-room : goal.returns-clause-room
returns-clause-room c l key =
    let named = c.args.keys.now in
    let test = place_eq (l, key) in
    let made : is_some (get place_eq c.loop-key.slots (l, key)) ≡ list_any test named =
    c.loop-key.invariant.1 l key ∙ ap (list_any test) (take_all c.loop-key.key-index named c.loop-key-test.false) in
    let all = ap is_some (c.in_ok-sort_keys.ensures.reordered.2 (l, key)) ∙ made in
    let found = hash_map_contains_key_iff place_equiv place_is c.sort_keys.new.self (l, key) in (
      λ h. Contains-from_any place_is (l, key) named (sym all ∙ found.1 h),
      λ h. found.0 (all ∙ list_any-from_Contains place_equiv (l, key) named h),
    )
