-- Numbers of a list that has as many as there are below a bound: where each below it stands there, each stands there
-- once.
use Rattle.lock_floor.proofs.Names
use Names.{ℕ, zero, suc, eqb, Bool, true, false, List, [], length, map, refl, sym, ap, subst, inl, inr, arith, cases_eq}
use Names.{cases_lt, eqb-true, length-map, All-head, All-tail, All, list_any, sum_below, one, times, one_same}
use Names.{sum_below-all, times-sum, zero_unless}
use Rattle.std.proofs.Common.{◌≡◌, ◌<◌, ◌≤◌, ◌||◌, ◌∷◌, ◌∙◌}
use Rattle.std.specs.Prelude.{◌==◌}

-- a sum of no more than n entries that are at least 1 each has no greater entry
at_most_one : (n : ℕ) (f : ℕ → ℕ) → ((j : ℕ) → j < n → 1 ≤ f j) → sum_below n f ≤ n → (j : ℕ) → j < n → f j ≤ 1
unfolding sum_below
at_most_one zero f h few j low = absurd (omega arith)
at_most_one (suc n) f h few j low =
    let here = h n (omega arith) in
    let others = sum_below-all n f (λ i l. h i (omega (arith, l))) in
    elim (cases_eq j n) [
      | inl e ↦ let same : f j ≡ f n = ap f e in omega (arith, same, others, few)
      | inr ne ↦ at_most_one n f (λ i l. h i (omega (arith, l))) (omega (arith, here, few)) j (omega (arith, low, ne))
    ]

module _ {X : Type 0} (f : X → ℕ) where
  stands : (t : ℕ) (xs : List X) → list_any (λ x. f x == t) xs ≡ true → 1 ≤ times t (map f xs)
  stands t [] e = absurd cc
  stands t (x ∷ xs) e = go (f x == t) refl (λ q. stands t xs q)
    where
      go : (b : Bool) → (f x == t) ≡ b → (list_any (λ y. f y == t) xs ≡ true → 1 ≤ times t (map f xs))
          → 1 ≤ times t (map f (x ∷ xs))
      go true q rest = let same : one (eqb t (f x)) ≡ 1 = ap (λ n. one (eqb t n)) (eqb-true (f x) t q)
          ∙ one_same t in omega (arith, same)
      go false q rest = let p = rest (ap (λ b. b || list_any (λ y. f y == t) xs) (sym q) ∙ e) in omega (arith, p)

  is_below : (n t : ℕ) (xs : List X) → All (λ x. f x < n) xs → 1 ≤ times t (map f xs) → t < n
  is_below n t [] low h = absurd (omega (arith, h))
  is_below n t (x ∷ xs) low h = go (eqb t (f x)) refl (is_below n t xs (All-tail (λ y. f y < n) x xs low))
    where
      go : (b : Bool) → eqb t (f x) ≡ b → (1 ≤ times t (map f xs) → t < n) → t < n
      go true q rest = subst (λ m. m < n) (sym (eqb-true t (f x) q)) (All-head (λ y. f y < n) x xs low)
      go false q rest = rest (let z : one (eqb t (f x)) ≡ 0 = ap one q in omega (arith, z, h))

  module _ (n : ℕ) (xs : List X) (long : length xs ≡ n) (low : All (λ x. f x < n) xs)
      (each : (t : ℕ) → t < n → list_any (λ x. f x == t) xs ≡ true) where
    pub stands_once : (t : ℕ) → times t (map f xs) ≤ 1
    stands_once t =
        let sum = times-sum n (map f xs) in
        elim (cases_lt t n) [
          | inl l ↦ at_most_one n (λ j. times j (map f xs)) (λ j k. stands j xs (each j k))
              (omega (arith, sum, long, length-map xs f)) t l
          | inr past ↦ let none =
              zero_unless (times t (map f xs)) (λ h. let l = is_below n t xs low h in omega (arith, l, past)) in
              omega (arith, none)
        ]

    pub stands_there : (t : ℕ) → t < n → times t (map f xs) ≡ 1
    stands_there t l = let most = stands_once t in let least = stands t xs (each t l) in omega (arith, most, least)
