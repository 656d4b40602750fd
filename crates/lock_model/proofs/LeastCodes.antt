-- The smallest code of tests is that of the first one that fails, where they stand in the order of their codes.
use Rattle.std.proofs.Common.{◌≡◌, ℕ, ◌≤◌, ◌<◌, min, nat_le, Bool, true, false, cond, List, [], ◌∷◌, ◌++◌, Option, Some, None, refl, sym, ap, ◌∙◌, arith}
use Rattle.std.proofs.lemmas.Bool.Decides.{nat_tests}
use Rattle.lock_model.specs.Counts.{lower}
use Rattle.lock_model.specs.Tests.{Test, least_code, Passes}

-- the code of the first test that fails
abbrev pub first_code : List Test → Option ℕ
first_code [] = None
first_code (t ∷ ts) = cond t.passes (first_code ts) (Some t.code)

-- with a test at its place by its code
abbrev pub with_test : Test → List Test → List Test
with_test t [] = t ∷ []
with_test t (u ∷ us) = cond (nat_le t.code u.code) (t ∷ u ∷ us) (u ∷ with_test t us)

-- in the order of their codes
abbrev pub in_order : List Test → List Test
in_order [] = []
in_order (t ∷ ts) = with_test t (in_order ts)

-- the codes ascend from one on
abbrev Ascends : ℕ → List Test → Type 0
Ascends c [] = Unit {0}
Ascends c (t ∷ ts) = (c ≤ t.code) × Ascends t.code ts

-- a test before others
abbrev before : Test → Option ℕ → Option ℕ
before t code = cond t.passes code (Some (lower code t.code))

less_is : (a b : ℕ) → a ≤ b → min b a ≡ a
less_is a b h = omega arith

least_of : (a b : ℕ) → a < b → min a b ≡ a
least_of a b h = omega arith

ascends_from : (a b : ℕ) (ts : List Test) → a ≤ b → Ascends b ts → Ascends a ts
ascends_from a b [] l h = tt
ascends_from a b (t ∷ ts) l h = (omega (arith, h.0), h.1)

-- of tests with greater codes none is the smallest
lower_is : (c : ℕ) (ts : List Test) → Ascends c ts → lower (first_code ts) c ≡ c
lower_is c [] h = refl
lower_is c (t ∷ ts) h = elim t.passes as (λ b. lower (cond b (first_code ts) (Some t.code)) c ≡ c) [
  | true ↦ lower_is c ts (ascends_from c t.code ts h.0 h.1)
  | false ↦ less_is c t.code h.0
]

ascends_with : (c : ℕ) (t : Test) (us : List Test) → c ≤ t.code → Ascends c us → Ascends c (with_test t us)
ascends_with c t [] l h = (l, tt)
ascends_with c t (u ∷ us) l h = go (nat_le t.code u.code) refl (λ k. ascends_with u.code t us k h.1)
  where
    go : (b : Bool) → nat_le t.code u.code ≡ b → (u.code ≤ t.code → Ascends u.code (with_test t us))
        → Ascends c (cond b (t ∷ u ∷ us) (u ∷ with_test t us))
    go true e more = (l, (grind (arith, nat_tests), h.1))
    go false e more = (h.0, more (grind (arith, nat_tests)))

-- a test at its place counts as one before the others
first_with : (c : ℕ) (t : Test) (us : List Test) → Ascends c us → first_code (with_test t us) ≡ before t (first_code us)
first_with c t [] h = refl
first_with c t (u ∷ us) h = go (nat_le t.code u.code) refl (first_with u.code t us h.1)
  where
    front : (b : Bool) → t.code ≤ u.code → cond b (first_code (u ∷ us)) (Some t.code)
        ≡ cond b (first_code (u ∷ us)) (Some (lower (first_code (u ∷ us)) t.code))
    front true l = refl
    front false l = ap (λ (n : ℕ). Some n) (sym (lower_is t.code (u ∷ us) (l, h.1)))

    behind : (b a : Bool) → u.code < t.code
        → cond b (cond a (first_code us) (Some (lower (first_code us) t.code))) (Some u.code)
        ≡ cond a (cond b (first_code us) (Some u.code)) (Some (lower (cond b (first_code us) (Some u.code)) t.code))
    behind true true l = refl
    behind true false l = refl
    behind false true l = refl
    behind false false l = ap (λ (n : ℕ). Some n) (sym (least_of u.code t.code l))

    go : (b : Bool) → nat_le t.code u.code ≡ b → first_code (with_test t us) ≡ before t (first_code us)
        → first_code (cond b (t ∷ u ∷ us) (u ∷ with_test t us)) ≡ before t (first_code (u ∷ us))
    go true e more = front t.passes (grind (arith, nat_tests))
    go false e more = ap (λ (r : Option ℕ). cond u.passes r (Some u.code)) more
        ∙ behind u.passes t.passes (grind (arith, nat_tests))

ascends : (ts : List Test) → Ascends 0 (in_order ts)
ascends [] = tt
ascends (t ∷ ts) = ascends_with 0 t (in_order ts) (omega arith) (ascends ts)

-- the smallest code is the first in order
pub least_is_first : (ts : List Test) → least_code ts ≡ first_code (in_order ts)
unfolding least_code
least_is_first [] = refl
least_is_first (t ∷ ts) = ap (before t) (least_is_first ts) ∙ sym (first_with 0 t (in_order ts) (ascends ts))

-- where all pass, the first one does and the others do
pub passed : (t : Test) (ts : List Test) → Passes (t ∷ ts) → (t.passes ≡ true) × Passes ts
unfolding least_code
passed t ts h = go t.passes refl h
  where
    go : (b : Bool) → t.passes ≡ b → cond b (least_code ts) (Some (lower (least_code ts) t.code)) ≡ None
        → (t.passes ≡ true) × Passes ts
    go true e p = (e, p)
    go false e p = absurd (cc)

-- and of two lists both pass
pub passed_both : (ts us : List Test) → Passes (ts ++ us) → Passes ts × Passes us
unfolding least_code
passed_both [] us h = (refl, h)
passed_both (t ∷ ts) us h =
    let p = passed t (ts ++ us) h in
    let q = passed_both ts us p.1 in
    (rw p.0 q.0, q.1)
