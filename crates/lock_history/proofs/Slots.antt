-- Tables as the map of the places that have a value: what it holds at a place, and after a change of one.
use Rattle.std.proofs.Common.{◌≡◌, ℕ, ◌+◌, ◌<◌, ◌^◌, length, take, get_or, Bool, true, false, cond, ◌||◌, ◌&&◌, List, [], ◌∷◌, Option, Some, None, is_some, T, refl, sym, ap, subst, ◌∙◌, arith, is_eq, is_lt, eqb}
use Rattle.std.specs.Cmp.{IsEquivalence, Equal-is, tied_then, eq_by_cmp_equiv}
use Rattle.std.specs.declared.cmp.Ordering.{Ordering}
use Rattle.std.specs.declared.cmp.Ordering.TheVariants.{Less, Equal, Greater}
use Rattle.std.specs.BTreeMap.{is_at}
use Rattle.indexmap.specs.IndexMap as table
use Rattle.indexmap.specs.IndexMap.{IndexMap, IsUnique, Updates, keys}
use Rattle.std.specs.FinMap.{empty, get, insert, entries, find, is_sorted, entries-from_sorted, get-from_sorted, get-insert, get-empty, same_map}
use Rattle.std.specs.FinMap.Entries.{below_all}
use Rattle.std.specs.List.{AllByRecursion, Contains, IsDistinct, list_any}
use Rattle.std.specs.List.Sorted.{IsSorted, IsStrictlySortedBy}
use Rattle.std.specs.Map.{keys_of, lookup}
use Rattle.std.specs.Option.{option_flatten}
use Rattle.std.specs.Ordering.{nat_cmp, eq_by_cmp, ordering_reverse}
use Rattle.std.proofs.lemmas.Bool.{false≢true}
use Rattle.std.proofs.lemmas.Map.{NonePasses, lookup-none}
use Rattle.std.proofs.lemmas.Map.Keys.{sorted_head, sorted_tail, sorted_from_all_adjacent, Less-from_sorted, apart_from_distinct}
use Rattle.std.proofs.lemmas.Map.Views.{hash_map_contains_key_iff}
use Rattle.std.proofs.lemmas.List.Folds.{list_any_more}
use Rattle.lock_model.specs.History.{place_cmp}
use Rattle.lock_model.specs.Keys as naming
use Rattle.lock_model.specs.Keys.{place_of, op_names}
use Rattle.lock_model.specs.declared.plan.Op.{Op}
use Rattle.lock_history.specs.Books.{changed, filled, filled_on, place_eq, present_of, HasNoValue}
use Rattle.lock_history.proofs.Places.{place_total, place_exact}

-- a place that is below each place is below each that has a value
below_filled : (x : ℕ × ℕ) (slots : List ((ℕ × ℕ) × Option ℕ))
    → AllByRecursion (λ y. place_cmp x y ≡ Less) (keys_of slots) → below_all place_cmp x (filled slots) ≡ true
below_filled x [] h = refl
below_filled x (s ∷ ss) h =
    elim s.1 as (λ o. below_all place_cmp x (filled_on s.0 o (filled ss)) ≡ true) [
      | None ↦ below_filled x ss h.1
      | Some v ↦ ap (λ r. is_lt r && below_all place_cmp x (filled ss)) h.0 ∙ below_filled x ss h.1
    ]

sorted_filled : (slots : List ((ℕ × ℕ) × Option ℕ)) → IsStrictlySortedBy place_cmp (keys_of slots)
    → is_sorted place_cmp (filled slots) ≡ true
sorted_filled [] h = refl
sorted_filled (s ∷ ss) h =
    let rest : is_sorted place_cmp (filled ss) ≡ true = sorted_filled ss (sorted_tail place_cmp s.0 (keys_of ss) h) in
    elim s.1 as (λ o. is_sorted place_cmp (filled_on s.0 o (filled ss)) ≡ true) [
      | None ↦ rest
      | Some v ↦ ap (λ b. b && is_sorted place_cmp (filled ss))
          (below_filled s.0 ss (sorted_head place_cmp s.0 (keys_of ss) h)) ∙ rest
    ]

-- no later place ties with one that ties with the first
none_later : (q x : ℕ × ℕ) (slots : List ((ℕ × ℕ) × Option ℕ)) → place_cmp q x ≡ Equal
    → AllByRecursion (λ y. place_cmp x y ≡ Less) (keys_of slots) → NonePasses (is_at (place_cmp q)) slots
none_later q x [] e h = tt
none_later q x (s ∷ ss) e h = (ap is_eq (place_total.congr q x s.0 e ∙ h.0), none_later q x ss e h.1)

find_some : (b : Bool) (v : ℕ) (x : Option ℕ) (y : Option (Option ℕ)) → x ≡ option_flatten y
    → cond b (Some v) x ≡ option_flatten (cond b (Some (Some v)) y)
find_some true v x y e = refl
find_some false v x y e = e

find_none : (r : Ordering) (x : Option ℕ) (y : Option (Option ℕ)) → x ≡ option_flatten y → (r ≡ Equal → y ≡ None)
    → x ≡ option_flatten (cond (is_eq r) (Some None) y)
find_none Less x y e h = e
find_none Equal x y e h = e ∙ ap option_flatten (h refl)
find_none Greater x y e h = e

find_filled : (q : ℕ × ℕ) (slots : List ((ℕ × ℕ) × Option ℕ)) → IsStrictlySortedBy place_cmp (keys_of slots)
    → find place_cmp q (filled slots) ≡ option_flatten (lookup (is_at (place_cmp q)) slots)
find_filled q [] h = refl
find_filled q (s ∷ ss) h =
    let rest : find place_cmp q (filled ss)
    ≡ option_flatten (lookup (is_at (place_cmp q)) ss) = find_filled q ss (sorted_tail place_cmp s.0 (keys_of ss) h) in
    elim s.1 as (λ o. find place_cmp q (filled_on s.0 o (filled ss))
    ≡ option_flatten (cond (is_eq (place_cmp q s.0)) (Some o) (lookup (is_at (place_cmp q)) ss))) [
      | None ↦ find_none (place_cmp q s.0) _ _ rest
          (λ e. lookup-none _ ss (none_later q s.0 ss e (sorted_head place_cmp s.0 (keys_of ss) h)))
      | Some v ↦ find_some (is_eq (place_cmp q s.0)) v _ _ rest
    ]

flattened : (b c : Bool) (v : ℕ) (x : Option ℕ) (y : Option (Option ℕ)) → b ≡ c → x ≡ option_flatten y
    → option_flatten (cond b (Some (Some v)) y) ≡ cond c (Some v) x
flattened b c v x y e f = sym (find_some b v x y f) ∙ ap (λ d. cond d (Some v) x) e

some_or : (b : Bool) (w x : Option (Option ℕ)) → is_some w ≡ true → is_some (cond b w x) ≡ (b || is_some x)
some_or true w x e = e
some_or false w x e = refl

or_step : (t s u q : Bool) → t ≡ q → (t || (s || u)) ≡ (s || (u || q))
or_step true true u q e = refl
or_step true false true q e = refl
or_step true false false q e = e
or_step false true u q e = refl
or_step false false true q e = refl
or_step false false false q e = e

is_eq-cmp : (a b : ℕ) → is_eq (nat_cmp a b) ≡ eqb a b
is_eq-cmp a b = grind arith

-- which place a place ties with
tied : (i j l k : ℕ) → is_at (place_cmp (i, j)) (l, k) ≡ (eqb i l && eqb j k)
tied i j l k = sym (tied_then (nat_cmp i l) (nat_cmp j k)) ∙ rw (is_eq-cmp i l, is_eq-cmp j k) refl

same_place : (p q : ℕ × ℕ) → place_eq p q ≡ eq_by_cmp place_cmp p q
same_place p q = sym (tied p.0 p.1 q.0 q.1)

pub place_equiv : IsEquivalence place_eq
place_equiv = subst IsEquivalence (λ i p q. sym (same_place p q) i) (eq_by_cmp_equiv place_total)

pub place_is : (p q : ℕ × ℕ) → place_eq p q ≡ true → p ≡ q
place_is p q e = place_exact p q ((Equal-is (place_cmp p q)).0 (sym (same_place p q) ∙ e))

-- sorted places that differ ascend, and places that ascend are sorted
below_by : (r s : Ordering) → r ≡ ordering_reverse s → is_lt s ≡ false → is_eq r ≡ false → r ≡ Less
below_by Less s e f g = refl
below_by Equal s e f g = absurd cc
below_by Greater Less e f g = absurd cc
below_by Greater Equal e f g = absurd cc
below_by Greater Greater e f g = absurd cc

not_below : (r s : Ordering) → s ≡ Less → r ≡ ordering_reverse s → is_lt r ≡ false
not_below Less s e f = absurd (let z : Less ≡ Greater = f ∙ ap ordering_reverse e in cc)
not_below Equal s e f = refl
not_below Greater s e f = refl

pub ascending : (ks : List (ℕ × ℕ)) → IsSorted place_cmp ks → IsDistinct place_eq ks → IsStrictlySortedBy place_cmp ks
ascending ks sorted distinct =
    sorted_from_all_adjacent place_total ks (0, 0) (λ k l.
    let x = get_or ks k (0, 0) in
    let y = get_or ks (k + 1) (0, 0) in
    below_by (place_cmp x y) (place_cmp y x) (place_total.antisymm x y) (sorted k (0, 0) (omega arith) l)
    (sym (same_place x y) ∙ apart_from_distinct place_eq ks k (k + 1) (0, 0) distinct (omega arith) l))

pub is_sorted_by : (ks : List (ℕ × ℕ)) → IsStrictlySortedBy place_cmp ks → IsSorted place_cmp ks
is_sorted_by ks h k d low high =
    not_below (place_cmp (get_or ks (k + 1) d) (get_or ks k d)) (place_cmp (get_or ks k d) (get_or ks (k + 1) d))
    (Less-from_sorted place_cmp ks k (k + 1) d h (omega arith) high)
    (place_total.antisymm (get_or ks (k + 1) d) (get_or ks k d))

abbrev pub SlotsIn : Type 0 → Type 0
SlotsIn S = IndexMap (ℕ × ℕ) (Option ℕ) S

module _ {S : Type 0} where
  abbrev pub IsAscending : SlotsIn S → Type 0
  IsAscending m = IsStrictlySortedBy place_cmp (keys m)

  filled_is_sorted : (m : SlotsIn S) → IsAscending m → T (is_sorted place_cmp (filled m.entries))
  filled_is_sorted m h = subst T (sym (sorted_filled m.entries h)) tt

  -- the entries of the map
  pub entries-present : (m : SlotsIn S) → IsAscending m → entries (present_of m.entries) ≡ filled m.entries
  entries-present m h = entries-from_sorted place_cmp (filled m.entries) (filled_is_sorted m h)

  -- the value at a place
  pub get-present : (m : SlotsIn S) → IsAscending m → (q : ℕ × ℕ)
      → get (present_of m.entries) q ≡ option_flatten (table.get place_eq m q)
  get-present m h q =
      get-from_sorted place_cmp (filled m.entries) q (filled_is_sorted m h) ∙ find_filled q m.entries h
      ∙ ap option_flatten (λ i. lookup (λ x. sym (same_place q x) i) m.entries)

  -- a value that is set at one place
  pub put-present : (m n : SlotsIn S) (k : ℕ × ℕ) (v : ℕ) → IsAscending m → IsAscending n
      → Updates place_eq m n k (Some (Some v)) → present_of n.entries ≡ insert (present_of m.entries) k v
  put-present m n k v hm hn u =
      same_map place_total place_exact _ _ (λ q.
      get-present n hn q ∙ ap option_flatten (u.0 q)
      ∙ flattened (place_eq k q) (eq_by_cmp place_cmp q k) v (get (present_of m.entries) q) (table.get place_eq m q)
      (same_place k q ∙ (eq_by_cmp_equiv place_total).symm k q) (get-present m hm q)
      ∙ sym (get-insert place_total (present_of m.entries) k v q))

  -- no value is present
  pub present-none : (m : SlotsIn S) → IsAscending m → HasNoValue m → present_of m.entries ≡ empty
  present-none m h none =
      same_map place_total place_exact _ _ (λ q. get-present m h q ∙ none q ∙ sym (get-empty place_cmp q))

  -- room that is made brings no value
  pub room_none : (m n : SlotsIn S) (p : ℕ × ℕ) → HasNoValue m → Updates place_eq m n p (Some None) → HasNoValue n
  room_none m n p none u q = ap option_flatten (u.0 q) ∙ go (place_eq p q)
    where
      go : (b : Bool) → option_flatten (cond b (Some None) (table.get place_eq m q)) ≡ None
      go true = refl
      go false = none q

  module _ (l key : ℕ) where
    -- whether there is room at the place
    abbrev pub has_room : SlotsIn S → Bool
    has_room m = is_some (table.get place_eq m (l, key))

    -- one operation more, and room where it names a place
    pub room_more : (start m n : SlotsIn S) (p : ℕ × ℕ) (ops : List Op) (i : ℕ) (d : Op) → i < length ops
        → has_room m ≡ (has_room start || list_any (op_names l key) (take i ops)) → Updates place_eq m n p (Some None)
        → Some p ≡ place_of (get_or ops i d)
        → has_room n ≡ (has_room start || list_any (op_names l key) (take (i + 1) ops))
    room_more start m n p ops i d lt before u named =
        let q = op_names l key in
        ap is_some (u.0 (l, key)) ∙ some_or _ (Some None) _ refl
        ∙ ap (λ b. naming.is_at l key (Some p) || b) before
        ∙ or_step (naming.is_at l key (Some p)) (has_room start) (list_any q (take i ops)) (q (get_or ops i d))
        (ap (naming.is_at l key) named)
        ∙ ap (λ b. has_room start || b) (sym (list_any_more q ops i d lt))

    -- the same where it names none
    pub room_same : (start m n : SlotsIn S) (ops : List Op) (i : ℕ) (d : Op) → i < length ops
        → has_room m ≡ (has_room start || list_any (op_names l key) (take i ops)) → n ≡ m
        → None ≡ place_of (get_or ops i d)
        → has_room n ≡ (has_room start || list_any (op_names l key) (take (i + 1) ops))
    room_same start m n ops i d lt before same named =
        let q = op_names l key in
        ap has_room same ∙ before
        ∙ or_step false (has_room start) (list_any q (take i ops)) (q (get_or ops i d)) (ap (naming.is_at l key) named)
        ∙ ap (λ b. has_room start || b) (sym (list_any_more q ops i d lt))

    -- one key of a list more
    pub room_for_one : (m n : SlotsIn S) (ks : List (ℕ × ℕ)) (i : ℕ) (d : ℕ × ℕ) → i < length ks
        → has_room m ≡ list_any (place_eq (l, key)) (take i ks)
        → Updates place_eq m n (get_or ks i d) (Some None)
        → has_room n ≡ list_any (place_eq (l, key)) (take (i + 1) ks)
    room_for_one m n ks i d lt before u =
        let q = place_eq (l, key) in
        ap is_some (u.0 (l, key)) ∙ some_or _ (Some None) _ refl
        ∙ ap (λ b. b || has_room m) (place_equiv.symm (get_or ks i d) (l, key))
        ∙ ap (λ b. q (get_or ks i d) || b) before
        ∙ or_step (q (get_or ks i d)) false (list_any q (take i ks)) (q (get_or ks i d)) refl
        ∙ sym (list_any_more q ks i d lt)

  -- a place that stands among the keys is found
  pub is_found : (m : SlotsIn S) (k : ℕ × ℕ) → Contains (keys m) k → is_some (table.get place_eq m k) ≡ true
  is_found m k h = (hash_map_contains_key_iff place_equiv place_is m k).1 h

  pub isnt_absent : (m : SlotsIn S) (k : ℕ × ℕ) → Contains (keys m) k → table.get place_eq m k ≡ None → ⊥
  isnt_absent m k h none = false≢true (ap is_some (sym none) ∙ is_found m k h)

-- a map without entries has nothing present
pub nothing : present_of [] ≡ empty
nothing = same_map place_total place_exact _ _ (λ q. get-from_sorted place_cmp [] q tt ∙ sym (get-empty place_cmp q))

-- where nothing is present a number that is added is what is there then
pub added_to_none : (adds : Bool) (n : ℕ) → n < 2 ^ 64 → n ≡ changed adds None n
added_to_none true n h = grind arith
added_to_none false n h = refl
