-- Going on along the edges of a graph of lock orders that has no cycle comes to an end: with each edge fewer classes
-- are left ahead.
use Rattle.run_laws.proofs.Names
use Names.{ℕ, zero, suc, Bool, true, false, List, refl, ap, inl, inr, arith, cases_eq, cases_Bool, sum_below, one}
use Names.{IsEdge, edge, then, HasNoCycle, leads_below, above_all, leads_reaches, edge_below, sum_below-le}
use Rattle.std.proofs.Common.{◌≡◌, ◌<◌, ◌≤◌}

-- a sum whose entries are none greater than those of the other, and one is less
sum_below-less : (n : ℕ) (f g : ℕ → ℕ) (i : ℕ) → i < n → f i < g i → ((j : ℕ) → j < n → f j ≤ g j)
    → sum_below n f < sum_below n g
unfolding sum_below
sum_below-less zero f g i l less h = absurd (omega arith)
sum_below-less (suc n) f g i l less h =
    elim (cases_eq i n) [
      | inl e ↦
          let a : f i ≡ f n = ap f e in
          let b : g i ≡ g n = ap g e in
          let rest = sum_below-le n f g (λ j k. h j (omega arith)) in
          omega arith
      | inr e ↦
          let here = h n (omega arith) in
          let rest = sum_below-less n f g i (omega arith) less (λ j k. h j (omega arith)) in
          omega arith
    ]

one_below : (x y : Bool) → (x ≡ true → y ≡ true) → one x ≤ one y
one_below false false h = omega arith
one_below false true h = omega arith
one_below true true h = omega arith
one_below true false h = let z = h refl in cc

module _ (es : List (ℕ × ℕ)) where
  -- whether a path leads from the one class to the other
  abbrev leads : ℕ → ℕ → Bool
  leads a b = leads_below (above_all es) es a b

  -- how many classes paths lead to from one
  abbrev ahead : ℕ → ℕ
  ahead a = sum_below (above_all es) (λ b. one (leads a b))

  module _ (h : HasNoCycle es) where
    not_itself : (a : ℕ) → leads a a ≡ false
    unfolding HasNoCycle
    not_itself a = elim (cases_Bool (leads a a)) [
      | inl x ↦ absurd (h a ((leads_reaches es (above_all es) (edge_below es) a a).0 x))
      | inr x ↦ x
    ]

    fewer : (a b : ℕ) → IsEdge es a b → ahead b < ahead a
    fewer a b i =
        let here : leads a b ≡ true = (leads_reaches es (above_all es) (edge_below es) a b).1 (edge i) in
        let less : one (leads b b) < one (leads a b) = rw (not_itself b, here) (omega arith) in
        sum_below-less (above_all es) (λ d. one (leads b d)) (λ d. one (leads a d)) b (edge_below es a b i) less
        (λ d k. one_below (leads b d) (leads a d) (λ x. (leads_reaches es (above_all es) (edge_below es) a d).1
        (then i ((leads_reaches es (above_all es) (edge_below es) b d).0 x))))

    -- what is so of a class where it is so of each class to which an edge leads from it, is so of all
    pub by_edges : (P : ℕ → Type 0) → ((a : ℕ) → ((b : ℕ) → IsEdge es a b → P b) → P a) → (a : ℕ) → P a
    by_edges P step a = go (suc (ahead a)) a (omega arith)
      where
        go : (n a : ℕ) → ahead a < n → P a
        go zero a l = absurd (omega arith)
        go (suc n) a l = step a (λ b i. go n b (omega (arith, l, fewer a b i)))
