-- The places of a closed table, as their values are taken out of them one after another.
use Rattle.lock_floor.proofs.Names
use Names.{ℕ, Bool, true, false, cond, List, [], length, get_or, set, take, Option, Some, None, refl, sym, ap, subst}
use Names.{inl, inr, arith, eq-eqb, length-set, get_or-set_same, get_or-set_other, cases_eq, cases_lt, get_or_past}
use Names.{list_any_more, FinMap, get, insert, list_any, IfNone, Global, Box, get-insert_same, get-insert_other}
use Names.{place_cmp, ThreadRec, Slot, Record, Cell, Turnstiles, SleepQueues, Graph, is_cell, its_cell, snoc_before}
use Names.{snoc_there}
use Rattle.std.proofs.Common.{◌≡◌, ◌≢◌, ◌+◌, ◌<◌, ◌&&◌, ◌||◌, ◌∷◌, ◌++◌, ◌∙◌}
use Rattle.std.specs.Prelude.{IfSome}
use mathlib.Core.Option.{some, some-injective}
use lib.ListN.{get_elem?}

-- 1. Which places are full

pub still_full : (fs : List Bool) (i k : ℕ) → i < k → get_or (set fs i false) k false ≡ get_or fs k false
still_full fs i k h = get_or-set_other fs i k false false (λ e. omega (arith, e, h))

pub still_empty : (fs : List Bool) (i k : ℕ) → k < i + 1 → ((j : ℕ) → j < i → get_or fs j false ≡ false)
    → get_or (set fs i false) k false ≡ false
still_empty fs i k h before =
    elim (cases_eq k i) [
      | inl e ↦ ap (λ n. get_or (set fs i false) n false) e ∙ elim (cases_lt i (length fs)) [
        | inl fits ↦ get_or-set_same fs i false false fits
        | inr past ↦ get_or_past (set fs i false) i false (omega (arith, past, length-set fs i false))
      ]
      | inr ne ↦ get_or-set_other fs i k false false ne ∙ before k (omega (arith, h, ne))
    ]

-- 2. Records

pub records_more : (xs : List Slot) (ys zs : List (Box ThreadRec Global)) (t : ℕ) (y : Box ThreadRec Global)
    → zs ≡ ys ++ y ∷ [] → length ys ≡ t → get_elem? xs t ≡ some (Record y)
    → ((k : ℕ) (d : Box ThreadRec Global) → k < t → get_elem? xs k ≡ some (Record (get_or ys k d)))
    → (k : ℕ) (d : Box ThreadRec Global) → k < t + 1 → get_elem? xs k ≡ some (Record (get_or zs k d))
records_more xs ys zs t y is long here before k d low =
    subst (λ (ws : List (Box ThreadRec Global)). get_elem? xs k ≡ some (Record (get_or ws k d))) (sym is)
    (elim (cases_lt k t) [
      | inl l ↦ before k d l ∙ ap (λ b. some (Record b)) (sym (snoc_before ys y d k (omega (arith, l, long))))
      | inr past ↦
          let last : k ≡ t = omega (arith, past, low) in
          ap (get_elem? xs) last ∙ here
          ∙ ap (λ b. some (Record b))
          (sym (snoc_there ys y d) ∙ ap (λ n. get_or (ys ++ y ∷ []) n d) (long ∙ sym last))
    ])

-- 3. Cells

value_of : Slot → Option ℕ
value_of (Record b) = None
value_of (Cell x) = x
value_of (Turnstiles chain) = None
value_of (SleepQueues chain) = None
value_of (Graph b) = None

pub same_value : (x y : Option ℕ) → some (Cell x) ≡ some (Cell y) → x ≡ y
unfolding value_of
same_value x y e = ap value_of (some-injective (Cell x) (Cell y) e)

-- what a map has at a key behind so many cells: what a column says, at the keys of these cells
abbrev pub Shows : List (ℕ × ℕ) → ℕ → (ℕ → ℕ → Option ℕ) → FinMap place_cmp ℕ → Type 0
Shows cells i column m = (l key : ℕ)
    → get m (l, key) ≡ cond (list_any (is_cell l key) (take i cells)) (column l key) None

module _ (cells : List (ℕ × ℕ)) (i : ℕ) (column : ℕ → ℕ → Option ℕ) (m : FinMap place_cmp ℕ) (low : i < length cells)
    (before : Shows cells i column m) (cell : ℕ × ℕ) (is : cell ≡ get_or cells i cell) where
  more : (l key : ℕ) → list_any (is_cell l key) (take (i + 1) cells) ≡
      (list_any (is_cell l key) (take i cells) || is_cell l key cell)
  more l key = list_any_more (is_cell l key) cells i cell low
      ∙ ap (λ c. list_any (is_cell l key) (take i cells) || is_cell l key c) (sym is)

  -- by whether it is the key of the cell
  by_key : (new : FinMap place_cmp ℕ) → (get new cell ≡ column cell.0 cell.1)
      → ((q : ℕ × ℕ) → q ≢ cell → get new q ≡ get m q) → Shows cells (i + 1) column new
  by_key new here there l key = go (is_cell l key cell) refl
    where
      go : (b : Bool) → is_cell l key cell ≡ b
          → get new (l, key) ≡ cond (list_any (is_cell l key) (take (i + 1) cells)) (column l key) None
      go true e =
          let same : cell ≡ (l, key) = its_cell l key cell e in
          let any : list_any (is_cell l key) (take (i + 1) cells) ≡ true = more l key
          ∙ ap (λ b. list_any (is_cell l key) (take i cells) || b) e
          ∙ or_true (list_any (is_cell l key) (take i cells)) in
          ap (get new) (sym same) ∙ here ∙ ap (λ (q : ℕ × ℕ). column q.0 q.1) same
          ∙ sym (ap (λ b. cond b (column l key) None) any)
        where
          or_true : (b : Bool) → (b || true) ≡ true
          or_true true = refl
          or_true false = refl
      go false e =
          let any : list_any (is_cell l key) (take (i + 1) cells) ≡ list_any (is_cell l key) (take i cells) = more l key
          ∙ ap (λ b. list_any (is_cell l key) (take i cells) || b) e
          ∙ or_false (list_any (is_cell l key) (take i cells)) in
          there (l, key) (λ q. absurd (let z : false ≡ true = sym e ∙ ap (is_cell l key) (sym q) ∙ itself in cc))
          ∙ before l key ∙ sym (ap (λ b. cond b (column l key) None) any)
        where
          or_false : (b : Bool) → (b || false) ≡ b
          or_false true = refl
          or_false false = refl

          itself : is_cell l key (l, key) ≡ true
          itself = λ j. eq-eqb l l refl j && eq-eqb key key refl j

  -- the cell has a value, which is put at its key
  shows_put : (value : ℕ) → column cell.0 cell.1 ≡ Some value → Shows cells (i + 1) column (insert m cell value)
  shows_put value e = by_key (insert m cell value) (get-insert_same m cell value ∙ sym e)
      (λ q ne. get-insert_other m cell q value ne)

  -- or none
  shows_none : column cell.0 cell.1 ≡ None → Shows cells (i + 1) column m
  shows_none e = by_key m
      (before cell.0 cell.1 ∙ ap (λ o. cond (list_any (is_cell cell.0 cell.1) (take i cells)) o None) e
      ∙ none (list_any (is_cell cell.0 cell.1) (take i cells)) ∙ sym e) (λ q ne. refl)
    where
      none : (b : Bool) → cond {A = Option ℕ} b None None ≡ None
      none true = refl
      none false = refl

  -- so either is
  pub shows_more : (x : Option ℕ) (new : FinMap place_cmp ℕ) → column cell.0 cell.1 ≡ x
      → IfSome x (λ v. new ≡ insert m cell v) → IfNone x (new ≡ m) → Shows cells (i + 1) column new
  shows_more None new e there gone = subst (Shows cells (i + 1) column) (sym gone) (shows_none e)
  shows_more (Some v) new e there gone = subst (Shows cells (i + 1) column) (sym there) (shows_put v e)
