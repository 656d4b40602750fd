-- The bits of a set of threads are its members.
use Rattle.lock_laws.proofs.Names
use Names.{ℕ, zero, suc, cond, eqb, nat_lt, List, [], refl, sym, ap, arith, add-mul, pow-add, pow_pos, div-mul-add}
use Names.{mod-mul-add, nat_tests, sum_below, one, times, has_bit, bits_of_threads}
use Rattle.std.proofs.Common.{◌≡◌, ◌+◌, ◌-◌, ◌*◌, ◌/◌, ◌^◌, ◌<◌, ◌≤◌, ◌∷◌, ◌∙◌}
use Rattle.lock_laws.proofs.Sums.{sum_below-add, sum_below-le}
use Rattle.lock_laws.proofs.Kit.{sum_below-zero, sum_below-same}

-- the sum of the powers below t, and how many units of 2 ^ suc t those above t come to
low : ℕ → List ℕ → ℕ
low t [] = 0
low t (u ∷ us) = cond (nat_lt u t) (2 ^ u) 0 + low t us

high : ℕ → List ℕ → ℕ
high t [] = 0
high t (u ∷ us) = cond (nat_lt t u) (2 ^ (u - suc t)) 0 + high t us

-- a power above t
above : (t u : ℕ) → t < u → 2 ^ u ≡ 2 ^ (u - suc t) * 2 * 2 ^ t
above t u l =
    let e : (u - suc t) + 1 + t ≡ u = omega arith in
    ap (λ k. 2 ^ k) (sym e) ∙ pow-add 2 ((u - suc t) + 1) t
    ∙ ap (λ k. k * 2 ^ t) (pow-add 2 (u - suc t) 1)

parts : (t : ℕ) (us : List ℕ) → bits_of_threads us ≡ (high t us * 2 + times t us) * 2 ^ t + low t us
unfolding high low
parts t [] = grind arith
parts t (u ∷ us) = grind (arith, nat_tests, parts t us, above t u)

-- the powers below t, each at most once, come to less than 2 ^ t
powers : (t : ℕ) → sum_below t (λ j. 2 ^ j) + 1 ≡ 2 ^ t
unfolding sum_below
powers zero = refl
powers (suc t) = grind (arith, powers t, pow-add 2 t 1)

single : (t u : ℕ) → cond (nat_lt u t) (2 ^ u) 0 ≡ sum_below t (λ j. one (eqb j u) * 2 ^ j)
unfolding sum_below
single zero u = grind (arith, nat_tests)
single (suc t) u = grind (arith, nat_tests, single t u)

low_sum : (t : ℕ) (us : List ℕ) → low t us ≡ sum_below t (λ j. times j us * 2 ^ j)
unfolding low
low_sum t [] = sym (sum_below-zero t (λ j. 0 * 2 ^ j) (λ j l. grind arith))
low_sum t (u ∷ us) =
    let a = sum_below-add t (λ j. one (eqb j u) * 2 ^ j) (λ j. times j us * 2 ^ j) in
    let b = sum_below-same t (λ j. (one (eqb j u) + times j us) * 2 ^ j)
    (λ j. one (eqb j u) * 2 ^ j + times j us * 2 ^ j)
    (λ j l. add-mul (one (eqb j u)) (times j us) (2 ^ j)) in
    omega (arith, low_sum t us, single t u)

low_less : (t : ℕ) (us : List ℕ) → ((j : ℕ) → times j us ≤ 1) → low t us < 2 ^ t
low_less t us h =
    let a = sum_below-le t (λ j. times j us * 2 ^ j) (λ j. 2 ^ j) (λ j l. grind (arith, h j)) in
    omega (arith, low_sum t us, powers t)

pub bit_of : (t : ℕ) (us : List ℕ) → ((j : ℕ) → times j us ≤ 1)
    → one (has_bit t (bits_of_threads us)) ≡ times t us
unfolding has_bit
bit_of t us h =
    let n = high t us * 2 + times t us in
    let l = low_less t us h in
    let q = ap (λ k. k / 2 ^ t) (parts t us) ∙ div-mul-add n (2 ^ t) (low t us) l in
    let r = mod-mul-add (high t us) 2 (times t us) in
    grind (arith, nat_tests, h t)

-- a set of no threads is empty
pub no_bits : (us : List ℕ) → bits_of_threads us ≡ 0 → us ≡ []
no_bits [] e = refl
no_bits (u ∷ us) e = absurd (omega (arith, pow_pos u))

-- a set of threads below t comes to less than 2 ^ t
all_low : (t : ℕ) (us : List ℕ) → ((j : ℕ) → 1 ≤ times j us → j < t) → bits_of_threads us ≡ low t us
unfolding low
all_low t [] h = refl
all_low t (u ∷ us) h = grind (arith, nat_tests, h u, all_low t us (λ j i. h j (omega arith)))

pub bits_below : (t : ℕ) (us : List ℕ) → ((j : ℕ) → times j us ≤ 1) → ((j : ℕ) → 1 ≤ times j us → j < t)
    → bits_of_threads us < 2 ^ t
bits_below t us once below = omega (arith, all_low t us below, low_less t us once)
