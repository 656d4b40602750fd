-- Two of the values behind latches, which a thread has out, change with one step.
use Rattle.lock_floor.proofs.Names
use Names.{ℕ, suc, cond, List, [], Some, refl, sym, ap, subst, inl, inr, arith, cases_eq, same_Some, put_same}
use Names.{put_other, at_put, each_place, put, Item, slot_of, Objects, IsOf, RepresentsObjects, found, AreApart}
use Names.{Shelves, Description, Slot, one_place, put_twice, found_first, found_later, shelf_changed}
use Rattle.std.proofs.Common.{◌≡◌, ◌≢◌, ◌<◌, ◌∷◌, ◌∙◌}
use Rattle.std.specs.Prelude.{◌==◌}
use mathlib.Core.Option.{Option, some, some-injective}

-- 1. Where they are

module _ (n : ℕ) (latch : ℕ → ℕ) (home : ℕ → Option Slot) (out : ℕ → List (ℕ × Slot)) (content : ℕ → Slot)
    (k : Shelves n latch home out content) where
  -- a value that is out changes where it is, whichever was taken last
  shelf_replaced : (j t : ℕ) (x y : Slot) (ys : List (ℕ × Slot)) → found j (out t) ≡ some x → found j ys ≡ some y
      → ((m : ℕ) → j ≢ m → found m ys ≡ found m (out t)) → AreApart ys
      → Shelves n latch home (put out t ys) (put content j y)
  shelf_replaced j t x y ys here now same apart =
      let was = k.taken j t x here in
      record {
        at_home = λ m l z. k.at_home m l z
            ∙ ap some (sym (put_other content j y m
            (λ e. let a = was.1 in let c : latch m ≡ latch j = ap latch (sym e) in omega arith)));
        away = λ m u l z. at_put (λ v zs. latch m ≡ suc v → found m zs ≡ some (put content j y m)) out t ys
            (λ q. each_place j (λ m. m < n → latch m ≡ suc t → found m ys ≡ some (put content j y m))
            (λ l q. now ∙ ap some (sym (put_same content j y)))
            (λ m ne l q. same m ne ∙ k.away m t l q ∙ ap some (sym (put_other content j y m ne))) m l q)
            (λ v nv q. k.away m v l q
            ∙ ap some (sym (put_other content j y m
            (λ e. nv (let a = was.1 in let c : latch m ≡ latch j = ap latch (sym e) in omega arith))))) u z;
        taken = λ m u w. at_put (λ v zs. found m zs ≡ some w → (m < n) × (latch m ≡ suc v) × (w ≡ put content j y m))
            out t ys
            (λ h. each_place j (λ m. found m ys ≡ some w → (m < n) × (latch m ≡ suc t) × (w ≡ put content j y m))
            (λ h. (was.0, was.1, some-injective w y (sym h ∙ now) ∙ sym (put_same content j y)))
            (λ m ne h. let q = k.taken m t w (sym (same m ne) ∙ h) in
            (q.0, q.1, q.2 ∙ sym (put_other content j y m ne))) m h)
            (λ v nv h. let q = k.taken m v w h in (
              q.0,
              q.1,
              q.2 ∙ sym (put_other content j y m
                  (λ e. nv (let a = q.1 in let b = was.1 in let c : latch m ≡ latch j = ap latch (sym e) in
                  omega arith))),
            )) u;
        apart = at_put (λ v zs. AreApart zs) out t ys apart (λ v ne. k.apart v);
      }

-- the two values that a thread has out change
pub shelf_both : (n : ℕ) (latch : ℕ → ℕ) (home : ℕ → Option Slot) (out : ℕ → List (ℕ × Slot)) (content : ℕ → Slot)
    → Shelves n latch home out content → (i j t : ℕ) (x y z w : Slot) → i ≢ j → out t ≡ (i, x) ∷ (j, z) ∷ []
    → Shelves n latch home (put out t ((i, y) ∷ (j, w) ∷ [])) (put (put content i y) j w)
shelf_both n latch home out content k i j t x y z w ne is =
    let first : List (ℕ × Slot) = (i, y) ∷ (j, z) ∷ [] in
    let both : List (ℕ × Slot) = (i, y) ∷ (j, w) ∷ [] in
    let between = shelf_changed n latch home out content k i t x y ((j, z) ∷ []) is in
    let at : put out t first t ≡ first = put_same out t first in
    let done = shelf_replaced n latch home (put out t first) (put content i y) between j t z w both
    (ap (found j) at ∙ found_later i j y ((j, z) ∷ []) ne ∙ found_first j z [])
    (found_later i j y ((j, w) ∷ []) ne ∙ found_first j w [])
    (λ m apart. found_again i j m y z w apart ∙ ap (found m) (sym at))
    (found_later j i w [] (λ e. ne (sym e)), (refl, tt)) in
    subst (λ o. Shelves n latch home o (put (put content i y) j w)) (put_twice out t first both) done
  where
    found_again : (i j m : ℕ) (y z w : Slot) → j ≢ m → found m ((i, y) ∷ (j, w) ∷ []) ≡ found m ((i, y) ∷ (j, z) ∷ [])
    found_again i j m y z w apart =
        ap (λ o. cond (i == m) (some y) o) (found_later j m w [] apart ∙ sym (found_later j m z [] apart))

-- 2. What they say

module _ (floor : Description) (content : ℕ → Slot) (x y : Objects) where
  -- two items have other values, and what the columns say of each other item stays
  pub two_changed : (a b : Item) (i j : ℕ) (p q : Slot) → slot_of floor a ≡ Some i → slot_of floor b ≡ Some j
      → ((k : Item) (z : Slot) → k ≢ a → k ≢ b → IsOf floor x k z → IsOf floor y k z) → y.table ≡ x.table
      → IsOf floor y a p → IsOf floor y b q → RepresentsObjects floor content x
      → RepresentsObjects floor (put (put content i p) j q) y
  two_changed a b i j p q at_a at_b others tables is_a is_b h = record {
    each = λ k m at.
        elim (cases_eq j m) [
          | inl e ↦
              let same : b ≡ k = one_place floor b k j at_b (at ∙ ap Some (sym e)) in
              subst (λ n. IsOf floor y k (put (put content i p) j q n)) e
              (subst (λ w. IsOf floor y k w) (sym (put_same (put content i p) j q))
              (subst (λ r. IsOf floor y r q) same is_b))
          | inr ne ↦ subst (λ w. IsOf floor y k w) (sym (put_other (put content i p) j q m ne)) (elim (cases_eq i m) [
            | inl e ↦
                let same : a ≡ k = one_place floor a k i at_a (at ∙ ap Some (sym e)) in
                subst (λ n. IsOf floor y k (put content i p n)) e
                (subst (λ w. IsOf floor y k w) (sym (put_same content i p))
                (subst (λ r. IsOf floor y r p) same is_a))
            | inr na ↦ subst (λ w. IsOf floor y k w) (sym (put_other content i p m na))
                (others k (content m) (λ r. na (same_Some i m (sym at_a ∙ ap (slot_of floor) (sym r) ∙ at)))
                (λ r. ne (same_Some j m (sym at_b ∙ ap (slot_of floor) (sym r) ∙ at))) (h.each k m at))
          ])
        ];
    unnamed = λ l key none. (λ i. tables i l key) ∙ h.unnamed l key none;
  }
