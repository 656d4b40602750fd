-- The table of a lock after an entry is what the history leaves, the entry included.
use Rattle.lock_laws.proofs.Names
use Names.{ℕ, cond, eqb, List, Option, Some, refl, sym, ap, arith, nat_cmp, is_eq, IsTotalOrder, nat_cmp_total}
use Names.{on_total, then_total, tied_then, eq_by_cmp, FinMap, get, get-insert, put_at, place_cmp, added, edited}
use Names.{tables_of, value_at, table_after, Event, Set, Added, Entry}
use Rattle.std.proofs.Common.{◌≡◌, ◌&&◌, ◌∷◌, ◌∙◌}
use Rattle.std.specs.FinMap.{insert}

place_total : IsTotalOrder place_cmp
place_total = then_total (on_total (λ p. p.0) nat_cmp_total) (on_total (λ p. p.1) nat_cmp_total)

is_eq-cmp : (a b : ℕ) → is_eq (nat_cmp a b) ≡ eqb b a
is_eq-cmp a b = grind arith

tied : (i j l k : ℕ) → eq_by_cmp place_cmp (l, k) (i, j) ≡ (eqb i l && eqb j k)
tied i j l k = sym (tied_then (nat_cmp l i) (nat_cmp k j)) ∙ rw (is_eq-cmp l i, is_eq-cmp k j) refl

-- an edit of one key
edit_step : (f : ℕ → ℕ → Option ℕ) (m : FinMap place_cmp ℕ) (i j v l k : ℕ) → f l k ≡ get m (l, k)
    → put_at f i j (Some v) l k ≡ get (insert m (i, j) v) (l, k)
unfolding put_at
edit_step f m i j v l k h = rw h
    (ap (λ b. cond b (Some v) (get m (l, k))) (sym (tied i j l k)) ∙ sym (get-insert place_total m (i, j) v (l, k)))

pub table_step : (f : ℕ → ℕ → Option ℕ) (e : Entry) (es : List Entry) → ((l k : ℕ) → f l k ≡ value_at es l k)
    → (l k : ℕ) → table_after e.event f l k ≡ value_at (e ∷ es) l k
unfolding value_at tables_of
table_step f e es h l k = go e.event
  where
    go : (x : Event) → table_after x f l k ≡ get (edited x (tables_of es)) (l, k)
    go (Set i j v) = edit_step f (tables_of es) i.0 j v l k (h l k)
    go (Added i j n) = rw (h i.0 j) (edit_step f (tables_of es) i.0 j (added (value_at es i.0 j) n) l k (h l k))
    go other = h l k
