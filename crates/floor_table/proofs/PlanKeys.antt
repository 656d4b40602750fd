-- The keys that a plan gives: a sorted list without its repetitions has them, they rise, and they are those that the
-- plan's operations name.
use Rattle.std.proofs.Common.{◌≡◌, ℕ, suc, ◌+◌, ◌≤◌, length, flat_map, sum, length-append, Bool, true, false, ◌&&◌, ◌||◌, cond, List, [], ◌∷◌, map, is_lt, IsPermutation, T, Option, None, Some, is_some, nat_cmp, is_eq, eqb, arith, refl, sym, ap, ◌∙◌, subst}
use Rattle.std.specs.Prelude.{◌==◌, option_to_list}
use Rattle.std.proofs.lemmas.List.{length-map}
use Rattle.std.proofs.lemmas.List.Sums.{sum_by-cons}
use Rattle.std.proofs.lemmas.List.Folds.{list_any-append}
use Rattle.std.specs.declared.cmp.Ordering.{Ordering}
use Rattle.std.specs.declared.cmp.Ordering.TheVariants.{Less, Equal, Greater}
use Rattle.std.specs.FinMap.Entries.{below_all}
use Rattle.std.specs.FinMap.{FinMap, entries, entries_sorted, keys, get, from_sorted, from_entries, is_sorted, entries-from_sorted, contains_key-keys, get-empty, get-insert, same_map, len, contains_key, len-empty, len-insert, len-entries}
use Rattle.std.specs.List.{Contains, list_any, dedup, dedup_from, AllByRecursion}
use Rattle.std.specs.List.Sorted.{IsSorted, IsStrictlySortedBy}
use Rattle.std.specs.Ordering.{eq_by_cmp}
use Rattle.std.proofs.lemmas.Bool.{eqb-true}
use Rattle.std.proofs.lemmas.List.Kept.{IsStrictlySortedBy-dedup}
use Rattle.std.proofs.lemmas.List.Sorted.{list_any-IsPermutation}
use Rattle.std.proofs.lemmas.Map.Views.{Contains-from_any, list_any-from_Contains}
use Rattle.lock_model.specs.History.{place_cmp}
use Rattle.std.specs.Cmp.{tied_then, eq_by_cmp_equiv, Equal-is}
use Rattle.lock_history.proofs.Places.{place_total, place_exact}
use Rattle.lock_model.specs.Keys.{place_of, is_at, op_names, plan_names}
use Rattle.lock_model.specs.Operations.{operations_in_all}
use Rattle.lock_model.specs.declared.plan.Op.{Op}
use Rattle.lock_model.specs.declared.plan.Plan.{Plan}
use Rattle.lock_model.specs.declared.plan.ThreadDecl.{ThreadDecl}
use Rattle.floor_table.specs.Descriptions.{alone, keys_named, keys_in}
use Rattle.floor_table.specs.Places.{is_cell}

abbrev pub same : ℕ × ℕ → ℕ × ℕ → Bool
same p q = (p.0 == q.0) && (p.1 == q.1)

module _ {X : Type 0} (p : X → Bool) (E : X → X → Bool) (alike : (x y : X) → E x y ≡ true → p x ≡ p y) where
  passes_from : (k : X) (xs : List X) → list_any p (dedup_from E k xs) ≡ (p k || list_any p xs)
  passes_from k [] = refl
  passes_from k (x ∷ xs) =
      elim (E x k) as (λ b. E x k ≡ b
      → list_any p (cond b (dedup_from E k xs) (k ∷ dedup_from E x xs)) ≡ (p k || (p x || list_any p xs))) [
        | true ↦ λ e. passes_from k xs ∙ twice (p k) (p x) (list_any p xs) (alike x k e)
        | false ↦ λ e. ap (λ b. p k || b) (passes_from x xs)
      ] refl
    where
      twice : (a b r : Bool) → b ≡ a → (a || r) ≡ (a || (b || r))
      twice true b r e = refl
      twice false b r e = ap (λ c. c || r) (sym e)

  -- a list passes a test as its items do once each
  passes : (xs : List X) → list_any p (dedup E xs) ≡ list_any p xs
  passes [] = refl
  passes (x ∷ xs) = passes_from x xs

-- equal keys are the same to each order
same_is : (p q : ℕ × ℕ) → same p q ≡ true → p ≡ q
same_is p q e = go (p.0 == q.0) (p.1 == q.1) refl refl e
  where
    go : (a b : Bool) → (p.0 == q.0) ≡ a → (p.1 == q.1) ≡ b → (a && b) ≡ true → p ≡ q
    go true true x y e = λ i. (eqb-true p.0 q.0 x i, eqb-true p.1 q.1 y i)
    go true false x y e = absurd cc
    go false b x y e = absurd cc

-- keys in order are those of a map
marked : Bool → Option (Unit {0})
marked b = cond b (Some tt) None

marks : (x : Option (Unit {0})) → x ≡ marked (is_some x)
unfolding marked
marks None = refl
marks (Some u) = refl

marked_or : (a b : Bool) → cond a (Some tt) (marked b) ≡ marked (a || b)
unfolding marked
marked_or true b = refl
marked_or false b = refl

keys_are : (xs : List (ℕ × ℕ)) → map (λ (e : (ℕ × ℕ) × Unit {0}). e.0) (map alone xs) ≡ xs
keys_are [] = refl
keys_are (x ∷ xs) = ap (λ ys. x ∷ ys) (keys_are xs)

below : (x : ℕ × ℕ) (xs : List (ℕ × ℕ)) → AllByRecursion (λ y. place_cmp x y ≡ Less) xs
    → below_all place_cmp x (map alone xs) ≡ true
below x [] h = refl
below x (y ∷ ys) h = ap (λ r. is_lt r && below_all place_cmp x (map alone ys)) h.0 ∙ below x ys h.1

rising : (xs : List (ℕ × ℕ)) → IsStrictlySortedBy place_cmp xs → is_sorted place_cmp (map alone xs) ≡ true
unfolding IsStrictlySortedBy
rising [] h = refl
rising (x ∷ xs) h = ap (λ b. b && is_sorted place_cmp (map alone xs)) (below x xs h.0) ∙ rising xs h.1

is_eq-cmp : (a b : ℕ) → is_eq (nat_cmp a b) ≡ eqb a b
is_eq-cmp a b = grind arith

same_ties : (x y : ℕ × ℕ) → same x y ≡ eq_by_cmp place_cmp x y
same_ties x y =
    sym (sym (tied_then (nat_cmp x.0 y.0) (nat_cmp x.1 y.1)) ∙ rw (is_eq-cmp x.0 y.0, is_eq-cmp x.1 y.1) refl)

named : List (ℕ × ℕ) → FinMap place_cmp (Unit {0})
named ks = from_entries (map alone ks)

key_there : (q : ℕ × ℕ) (ks : List (ℕ × ℕ)) → get (named ks) q ≡ marked (list_any (eq_by_cmp place_cmp q) ks)
unfolding named marked
key_there q [] = get-empty place_cmp q
key_there q (k ∷ ks) = get-insert place_total (named ks) k tt q
    ∙ ap (cond (eq_by_cmp place_cmp q k) (Some tt)) (key_there q ks) ∙ marked_or (eq_by_cmp place_cmp q k) _

-- so a sorted list without its repetitions has the keys of a map in order
pub set_in_order : (ks sorted : List (ℕ × ℕ)) → IsPermutation ks sorted → IsSorted place_cmp sorted
    → dedup same sorted ≡ keys {R = place_cmp} (from_entries (map alone ks))
unfolding named
set_in_order ks sorted perm up =
    let out : List (ℕ × ℕ) = dedup same sorted in
    let strictly : T (is_sorted place_cmp (map alone out)) = subst T
    (sym (rising out (IsStrictlySortedBy-dedup place_total same_ties sorted up))) tt in
    let there : FinMap place_cmp (Unit {0}) = from_sorted (map alone out) in
    let list : keys there ≡ out = ap (λ es. map (λ (e : (ℕ × ℕ) × Unit {0}). e.0) es)
    (entries-from_sorted place_cmp (map alone out) strictly) ∙ keys_are out in
    let test : ℕ × ℕ → ℕ × ℕ → Bool = λ q. eq_by_cmp place_cmp q in
    let among : (q : ℕ × ℕ) → list_any (test q) out ≡ list_any (test q) ks =
    λ q. passes (test q) same (λ x y e. ap (test q) (same_is x y e)) sorted
    ∙ sym (list_any-IsPermutation (test q) ks sorted perm) in
    let alike : (q : ℕ × ℕ) → get there q ≡ get (named ks) q =
    λ q. marks (get there q) ∙ ap marked (contains_key-keys there q ∙ ap (list_any (test q)) list ∙ among q)
    ∙ sym (key_there q ks) in
    sym list ∙ ap (λ m. keys m) (same_map place_total place_exact there (named ks) alike)

-- 2. The keys of a map rise

is_less : (r : Ordering) → T (is_lt r) → r ≡ Less
is_less Less h = refl
is_less Equal h = absurd h
is_less Greater h = absurd h

both : (a b : Bool) → T (a && b) → T a × T b
both true b h = (tt, h)
both false b h = absurd h

abbrev KeyEntry : Type 0
KeyEntry = (ℕ × ℕ) × Unit {0}

abbrev keys_on : List KeyEntry → List (ℕ × ℕ)
keys_on es = map (λ (e : KeyEntry). e.0) es

below_key : (x : ℕ × ℕ) (es : List KeyEntry) → T (below_all place_cmp x es)
    → AllByRecursion (λ y. place_cmp x y ≡ Less) (keys_on es)
below_key x [] h = tt
below_key x (e ∷ es) h =
    let p = both (is_lt (place_cmp x e.0)) (below_all place_cmp x es) h in
    (is_less (place_cmp x e.0) p.0, below_key x es p.1)

rise : (es : List KeyEntry) → T (is_sorted place_cmp es) → IsStrictlySortedBy place_cmp (keys_on es)
unfolding IsStrictlySortedBy
rise [] h = tt
rise (e ∷ es) h =
    let p = both (below_all place_cmp e.0 es) (is_sorted place_cmp es) h in
    (below_key e.0 es p.0, rise es p.1)

pub keys_rise : (ds : List ThreadDecl) → IsStrictlySortedBy place_cmp (keys_in ds)
unfolding keys_in
keys_rise ds =
    let ks : List (ℕ × ℕ) = flat_map (λ (d : ThreadDecl). keys_named d.ops) ds in
    let m : FinMap place_cmp (Unit {0}) = from_entries (map alone ks) in
    rise (entries m) (entries_sorted m)

-- 3. They are those that the plan's operations name

both_same : (a b x y : ℕ) → (eqb a b && eqb x y) ≡ (eqb b a && eqb y x)
both_same a b x y = (λ i. swap a b i && swap x y i)
  where
    swap : (a b : ℕ) → eqb a b ≡ eqb b a
    swap a b = grind arith

pub cell_test : (l key : ℕ) → is_cell l key ≡ eq_by_cmp place_cmp (l, key)
cell_test l key = λ i cell. (both_same cell.0 l cell.1 key ∙ same_ties (l, key) cell) i

any_flat : {X Y : Type 0} (p : Y → Bool) (f : X → List Y) (xs : List X)
    → list_any p (flat_map f xs) ≡ list_any (λ x. list_any p (f x)) xs
any_flat p f [] = refl
any_flat p f (x ∷ xs) = list_any-append p (f x) (flat_map f xs) ∙ ap (λ b. list_any p (f x) || b) (any_flat p f xs)

one_named : (l key : ℕ) (o : Option (ℕ × ℕ)) → list_any (is_cell l key) (option_to_list o) ≡ is_at l key o
one_named l key None = refl
one_named l key (Some place) = or_false (is_cell l key place)
  where
    or_false : (b : Bool) → (b || false) ≡ b
    or_false true = refl
    or_false false = refl

all_keys : List ThreadDecl → List (ℕ × ℕ)
all_keys ds = flat_map (λ (d : ThreadDecl). keys_named d.ops) ds

named_by : (l key : ℕ) (ds : List ThreadDecl)
    → list_any (is_cell l key) (all_keys ds) ≡ list_any (λ (d : ThreadDecl). list_any (op_names l key) d.ops) ds
unfolding all_keys
named_by l key ds =
    any_flat (is_cell l key) (λ (d : ThreadDecl). keys_named d.ops) ds
    ∙ ap (λ (f : ThreadDecl → Bool). list_any f ds)
    (λ i d. (any_flat (is_cell l key) (λ (op : Op). option_to_list (place_of op)) d.ops
    ∙ ap (λ (g : Op → Bool). list_any g d.ops) (λ j op. one_named l key (place_of op) j)) i)

pub keys_are_named : (plan : Plan) (l key : ℕ) → list_any (is_cell l key) (keys_in plan.threads) ≡ plan_names plan l key
unfolding keys_in named marked all_keys
keys_are_named plan l key =
    let ks : List (ℕ × ℕ) = all_keys plan.threads in
    let q : ℕ × ℕ = (l, key) in
    ap (λ p. list_any p (keys_in plan.threads)) (cell_test l key)
    ∙ sym (contains_key-keys (named ks) q)
    ∙ ap is_some (key_there q ks)
    ∙ some_marked (list_any (eq_by_cmp place_cmp q) ks)
    ∙ ap (λ p. list_any p ks) (sym (cell_test l key))
    ∙ named_by l key plan.threads
  where
    some_marked : (b : Bool) → is_some (marked b) ≡ b
    some_marked true = refl
    some_marked false = refl

-- a test finds a key of a list
pub key_found : (l key : ℕ) (ks : List (ℕ × ℕ)) → Contains ks (l, key) → list_any (is_cell l key) ks ≡ true
key_found l key ks h =
    ap (λ p. list_any p ks) (cell_test l key)
    ∙ list_any-from_Contains (eq_by_cmp_equiv place_total) (l, key) ks h

pub found_key : (l key : ℕ) (ks : List (ℕ × ℕ)) → list_any (is_cell l key) ks ≡ true → Contains ks (l, key)
found_key l key ks h =
    Contains-from_any (λ x y e. place_exact x y ((Equal-is (place_cmp x y)).0 e)) (l, key) ks
    (ap (λ p. list_any p ks) (sym (cell_test l key)) ∙ h)

-- 4. There are no more of them than operations

few_named : (ops : List Op) → length (keys_named ops) ≤ length ops
few_named [] = omega arith
few_named (op ∷ ops) =
    let p = few_named ops in
    let q = length-append (option_to_list (place_of op)) (keys_named ops) in
    omega (arith, p, q, one (place_of op))
  where
    one : (o : Option (ℕ × ℕ)) → length (option_to_list o) ≤ 1
    one None = omega arith
    one (Some x) = omega arith

few_all : (ds : List ThreadDecl) → length (all_keys ds) ≤ sum (map (λ (d : ThreadDecl). length d.ops) ds)
unfolding all_keys
few_all [] = omega arith
few_all (d ∷ ds) =
    let p = few_all ds in
    let q = length-append (keys_named d.ops) (all_keys ds) in
    let s = sum_by-cons (λ (n : ℕ). n) (length d.ops) (map (λ (e : ThreadDecl). length e.ops) ds) in
    omega (arith, p, q, s, few_named d.ops)

few_marked : (ks : List (ℕ × ℕ)) → len (named ks) ≤ length ks
unfolding named
few_marked [] = omega (arith, len-empty place_cmp (Unit {0}))
few_marked (k ∷ ks) = let p = few_marked ks in let q = len-insert place_total (named ks) k tt in
    more (contains_key (named ks) k) (len (named ks)) _ q (omega (arith, p))
  where
    more : (b : Bool) (n m : ℕ) → m ≡ cond b n (n + 1) → n ≤ length ks → m ≤ suc (length ks)
    more true n m e h = omega (arith, e, h)
    more false n m e h = omega (arith, e, h)

pub few_keys : (plan : Plan) → length (keys_in plan.threads) ≤ operations_in_all plan
unfolding keys_in named all_keys
few_keys plan =
    let ks : List (ℕ × ℕ) = all_keys plan.threads in
    let m : FinMap place_cmp (Unit {0}) = named ks in
    let size : length (keys m) ≡ len m = length-map (entries m) (λ (e : (ℕ × ℕ) × Unit {0}). e.0)
    ∙ sym (len-entries m) in
    omega (arith, size, few_marked ks, few_all plan.threads)
