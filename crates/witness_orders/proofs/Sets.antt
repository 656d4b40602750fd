-- Which classes the sets have that are made bit by bit.
use Rattle.std.proofs.Common.{◌≡◌, ℕ, ◌^◌, ◌<◌, max, min, bit_and, bit_or, true, false, ◌||◌, ◌&&◌, eqb, eq-eqb, refl, sym, ap, subst, inl, inr, ◌∙◌, arith, w64}
use Rattle.std.specs.Int.{bit_at, trailing_zeros}
use Rattle.std.proofs.lemmas.Nat.Bits.{bit_at_and, bit_at_or, bit_at-lt, bit_at-zero, bit_at-pow_same, bit_at-pow_other, bit_at-trailing_zeros}
use Rattle.std.proofs.lemmas.Bool.{cases_eq, ne_eqb}
use Rattle.std.proofs.lemmas.Bool.Decides.{nat_tests}
use Rattle.lock_model.specs.Counts.{has_bit}

-- of two bits
either : (x y : ℕ) → x < 2 → y < 2 → eqb (max x y) 1 ≡ (eqb x 1 || eqb y 1)
either x y l m = grind (arith, nat_tests)

both : (x y : ℕ) → x < 2 → y < 2 → eqb (min x y) 1 ≡ (eqb x 1 && eqb y 1)
both x y l m = grind (arith, nat_tests)

pub has_or : (a b c : ℕ) → has_bit c (bit_or a b) ≡ (has_bit c a || has_bit c b)
unfolding has_bit
has_or a b c = ap (λ n. eqb n 1) (bit_at_or a b c) ∙ either (bit_at a c) (bit_at b c) (bit_at-lt a c) (bit_at-lt b c)

pub has_and : (a b c : ℕ) → has_bit c (bit_and a b) ≡ (has_bit c a && has_bit c b)
unfolding has_bit
has_and a b c = ap (λ n. eqb n 1) (bit_at_and a b c) ∙ both (bit_at a c) (bit_at b c) (bit_at-lt a c) (bit_at-lt b c)

pub has_none : (c : ℕ) → has_bit c 0 ≡ false
unfolding has_bit
has_none c = ap (λ n. eqb n 1) (bit_at-zero c)

-- the set of one class
pub has_only : (a c : ℕ) → has_bit c (2 ^ a) ≡ eqb a c
unfolding has_bit
has_only a c = elim (cases_eq c a) [
  | inl x ↦ subst (λ k. has_bit k (2 ^ a) ≡ eqb a k) (sym x)
      (ap (λ n. eqb n 1) (bit_at-pow_same a) ∙ sym (eq-eqb a a refl))
  | inr x ↦ ap (λ n. eqb n 1) (bit_at-pow_other a c x) ∙ sym (ne_eqb a c (λ y. x (sym y)))
]

-- a set that isn't empty has a class, whose bit is below 64
pub has_some : (n : ℕ) → n < 2 ^ 64 → (n ≡ 0 → ⊥) → (c : ℕ) × (has_bit c n ≡ true) × (c < 64)
unfolding has_bit
has_some n l ne =
    let some : 0 < n = omega arith in
    let t = bit_at-trailing_zeros w64 n some l in
    (trailing_zeros w64 n, ap (λ k. eqb k 1) t.1, t.0)
