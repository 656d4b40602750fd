use Rattle.std.proofs.Common.{ℕ, Contains, Some, is_some, sym, ap, subst, ◌∙◌}
use Rattle.std.specs.FinMap.{get, insert}
use Rattle.std.specs.Option.{option_flatten}
use Rattle.std.specs.List.Sorted.{IsStrictlySortedBy}
use Rattle.indexmap.specs.IndexMap.{keys}
use Rattle.lock_model.specs.History.{place_cmp}
use Rattle.lock_history.specs.Books.{Slots, changed, present_of}
use Rattle.lock_history.proofs.Slots.{added_to_none, ascending, get-present, isnt_absent, is_sorted_by, put-present}
use Rattle.lock_history.proofs.tables.Tables.change.Goals as goal

-- 1. A place that there is room for: the places stay

pub returns-in-Some-clause-present : goal.returns-in-Some-clause-present
returns-in-Some-clause-present c =
    let m = c.self.inside.slots in
    let p : ℕ × ℕ = (c.args.l.0, c.args.key) in
    let v = c.changed.result in
    let written = c.get_mut.follows.holds (Some v) in
    let before = ap option_flatten c.in-Some.ensures.value ∙ sym (get-present m c.self.invariant p) in
    put-present m (c.get_mut.follows.lender (Some v)) p v c.self.invariant
    (subst (IsStrictlySortedBy place_cmp) (sym written.1) c.self.invariant)
    (written.3 (ap is_some (sym c.in-Some.ensures.value)))
    ∙ ap (insert (present_of m.entries) p) (c.changed.ensures ∙ ap (λ o. changed c.args.adds o c.args.n) before)
    ∙ ap (λ (s : Slots). insert s.present p (changed c.args.adds (get s.present p) c.args.n)) c.self.view_is

-- 2. One that there is no room for: it goes where it belongs by its order

pub invariant_of-self-in_ok-insert_sorted-in-None : goal.invariant_of-self-in_ok-insert_sorted-in-None
invariant_of-self-in_ok-insert_sorted-in-None c =
    let made = c.in_ok-insert_sorted-in-None.ensures in
    let kept = subst (λ m. IsStrictlySortedBy place_cmp (keys m)) (sym c.get_mut.follows.holds-at-none) c.self.invariant
    in
    ascending (keys c.insert_sorted.new.self) (made.sorted (is_sorted_by (keys c.get_mut.follows.lender-at-none) kept))
    made.unique

pub returns-in_ok-insert_sorted-in-None-clause-present : goal.returns-in_ok-insert_sorted-in-None-clause-present
returns-in_ok-insert_sorted-in-None-clause-present c =
    let m = c.get_mut.follows.lender-at-none in
    let p : ℕ × ℕ = (c.args.l.0, c.args.key) in
    let made = c.in_ok-insert_sorted-in-None.ensures in
    let kept = subst (λ n. IsStrictlySortedBy place_cmp (keys n)) (sym c.get_mut.follows.holds-at-none) c.self.invariant
    in
    let before = ap option_flatten c.in-None.ensures.value ∙ sym (get-present c.self.inside.slots c.self.invariant p) in
    put-present m c.insert_sorted.new.self p c.args.n kept
    (ascending (keys c.insert_sorted.new.self) (made.sorted (is_sorted_by (keys m) kept)) made.unique) made.updates
    ∙ ap (λ n. insert (present_of n.entries) p c.args.n) c.get_mut.follows.holds-at-none
    ∙ ap (insert (present_of c.self.inside.slots.entries) p)
    (added_to_none c.args.adds c.args.n c.ranges.n.fits ∙ ap (λ o. changed c.args.adds o c.args.n) before)
    ∙ ap (λ (s : Slots). insert s.present p (changed c.args.adds (get s.present p) c.args.n)) c.self.view_is

pub returns-in_ok-insert_sorted-in-None-clause-places : goal.returns-in_ok-insert_sorted-in-None-clause-places
returns-in_ok-insert_sorted-in-None-clause-places c h =
    let p : ℕ × ℕ = (c.args.l.0, c.args.key) in
    absurd (isnt_absent c.self.inside.slots p (subst (λ (s : Slots). Contains s.places p) (sym c.self.view_is) h)
    (sym c.in-None.ensures.value))

pub returns-in_err-insert_sorted-in-None-clause-succeeds : goal.returns-in_err-insert_sorted-in-None-clause-succeeds
returns-in_err-insert_sorted-in-None-clause-succeeds c h =
    let p : ℕ × ℕ = (c.args.l.0, c.args.key) in
    absurd (isnt_absent c.self.inside.slots p (subst (λ (s : Slots). Contains s.places p) (sym c.self.view_is) h)
    (sym c.in-None.ensures.value))
