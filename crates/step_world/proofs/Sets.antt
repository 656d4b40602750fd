-- Sets of threads as bits: whom they have, who is the first of them, and how many stand before another.
use Rattle.step_world.proofs.Names
use Names.{ℕ, zero, suc, min, Bool, true, false, cond, not, eqb, List, [], length, filter, All, bit_and, bit_or, w32}
use Names.{length-append, suc-add, add-zero, zero-add, refl, sym, ap, ap₂, subst, inl, inr, arith, bit_at, bit_not}
use Names.{trailing_zeros, range_with_len, ones, ones_in, and_right, cases_Bool, cases_eq, cases_lt, eqb-true, ne_eqb}
use Names.{filter-append, All-nil, All-cons, All-tail, pow_pos, and_mask, shr_split, shr-shr, mod-pow-add, one_shl}
use Names.{ones_cat, bit_at-lt, bit_at_above, bit_at_and, bit_at_not, bit_at-trailing_zeros, bit_at_set_same}
use Names.{bit_at_set_other, bit_at_clear_same, bit_at_clear_other, bit_at_cat_low, bit_at_cat_high, bit_at-zero}
use Names.{shr_and_one, has_bit, is_empty, members, Passes, IsBelow}
use Rattle.std.proofs.Common.{◌≡◌, ◌+◌, ◌-◌, ◌*◌, ◌/◌, ◌%◌, ◌^◌, ◌<◌, ◌≤◌, ◌&&◌, ◌||◌, ◌∷◌, ◌++◌, ◌∙◌}
use Rattle.std.proofs.lemmas.Bool.{eq-eqb}

-- 1. What a test keeps of a range

-- two tests that agree there keep the same
pub keep_alike : (p q : ℕ → Bool) (a n : ℕ) → ((t : ℕ) → a ≤ t → t < a + n → p t ≡ q t)
    → filter p (range_with_len a n) ≡ filter q (range_with_len a n)
keep_alike p q a zero h = refl
keep_alike p q a (suc n) h =
    ap₂ (λ (b : Bool) (ts : List ℕ). cond b (a ∷ ts) ts) (h a (omega arith) (omega arith))
    (keep_alike p q (a + 1) n (λ t i l. h t (omega arith) (omega arith)))

keep_none : (a n : ℕ) → filter (λ t. false) (range_with_len a n) ≡ []
keep_none a zero = refl
keep_none a (suc n) = keep_none (a + 1) n

pub keeps_none : (p : ℕ → Bool) (a n : ℕ) → ((t : ℕ) → a ≤ t → t < a + n → p t ≡ false)
    → filter p (range_with_len a n) ≡ []
keeps_none p a n h = keep_alike p (λ t. false) a n h ∙ keep_none a n

range_apart : (a m n : ℕ) → range_with_len a (m + n) ≡ range_with_len a m ++ range_with_len (a + m) n
range_apart a zero n = ap₂ range_with_len (sym (add-zero a)) (zero-add n)
range_apart a (suc m) n =
    let e : a + 1 + m ≡ a + suc m = omega arith in
    ap (range_with_len a) (suc-add m n)
    ∙ ap (λ (ts : List ℕ). a ∷ ts)
    (range_apart (a + 1) m n ∙ ap (λ (b : ℕ). range_with_len (a + 1) m ++ range_with_len b n) e)

-- below a number, and from it on
pub apart : (p : ℕ → Bool) (k n m : ℕ) → k + n ≡ m
    → filter p (range_with_len 0 m) ≡ filter p (range_with_len 0 k) ++ filter p (range_with_len k n)
apart p k n m e =
    ap (λ (i : ℕ). filter p (range_with_len 0 i)) (sym e) ∙ ap (filter p) (range_apart 0 k n)
    ∙ filter-append p (range_with_len 0 k) (range_with_len (0 + k) n)
    ∙ ap (λ (a : ℕ). filter p (range_with_len 0 k) ++ filter p (range_with_len a n)) (zero-add k)

-- of whom it keeps something holds where it holds of all that pass
pub All-kept : (P : ℕ → Type 0) (p : ℕ → Bool) (a n : ℕ) → ((t : ℕ) → a ≤ t → t < a + n → p t ≡ true → P t)
    → All P (filter p (range_with_len a n))
All-kept P p a zero h = All-nil P
All-kept P p a (suc n) h = go (p a) refl (All-kept P p (a + 1) n (λ t i l. h t (omega arith) (omega arith)))
  where
    go : (b : Bool) → p a ≡ b → All P (filter p (range_with_len (a + 1) n))
        → All P (cond b (a ∷ filter p (range_with_len (a + 1) n)) (filter p (range_with_len (a + 1) n)))
    go true e rest = All-cons P a (filter p (range_with_len (a + 1) n)) (h a (omega arith) (omega arith) e) rest
    go false e rest = rest

-- 2. Who is in a set

pub has_of : (a b t u : ℕ) → bit_at a t ≡ bit_at b u → has_bit t a ≡ has_bit u b
unfolding has_bit
has_of a b t u e = ap (λ n. eqb n 1) e

pub has_no : (t bits : ℕ) → bit_at bits t ≡ 0 → has_bit t bits ≡ false
unfolding has_bit
has_no t bits e = ap (λ n. eqb n 1) e

pub has_it : (t bits : ℕ) → bit_at bits t ≡ 1 → has_bit t bits ≡ true
unfolding has_bit
has_it t bits e = ap (λ n. eqb n 1) e

pub has_none : (t : ℕ) → has_bit t 0 ≡ false
has_none t = has_no t 0 (bit_at-zero t)

pub has_none_above : (bits t : ℕ) → bits < 2 ^ 32 → 32 ≤ t → has_bit t bits ≡ false
has_none_above bits t l i = has_no t bits (bit_at_above bits 32 t l i)

-- nobody is in an empty set
pub no_members : (bits : ℕ) → ((t : ℕ) → has_bit t bits ≡ false) → members bits ≡ []
unfolding members
no_members bits h = keeps_none (λ t. has_bit t bits) 0 32 (λ t i l. h t)

one_member : (bits : ℕ) → bits < 2 ^ 32 → (bits ≡ 0 → ⊥) → is_empty (members bits) ≡ false
unfolding members
one_member bits l ne =
    let k = trailing_zeros w32 bits in
    let first = bit_at-trailing_zeros w32 bits (omega (arith, ne)) l in
    let n : ℕ = 31 - k in
    let split : k + suc n ≡ 32 = omega (arith, first.0) in
    let p : ℕ → Bool = λ t. has_bit t bits in
    let here = ap (λ (b : Bool). cond b (k ∷ filter p (range_with_len (k + 1) n)) (filter p (range_with_len (k + 1) n)))
    (has_it k bits first.1) in
    ap is_empty (apart p k (suc n) 32 split
    ∙ ap₂ (λ (xs ys : List ℕ). xs ++ ys) (keeps_none p 0 k (λ t i s. has_no t bits (first.2 t (omega (arith, s)))))
    here)

pub empty_is : (bits : ℕ) → bits < 2 ^ 32 → eqb bits 0 ≡ is_empty (members bits)
empty_is bits l = elim (cases_eq bits 0) [
  | inl e ↦ eq-eqb bits 0 e ∙ sym (ap is_empty (ap members e ∙ no_members 0 has_none))
  | inr ne ↦ ne_eqb bits 0 ne ∙ sym (one_member bits l ne)
]

-- one more, or one less
pub has_more : (bits t u : ℕ) → t < 32 → has_bit u (bit_or bits (1 * 2 ^ t % 2 ^ 32)) ≡ (eqb t u || has_bit u bits)
has_more bits t u l = elim (cases_eq t u) [
  | inl e ↦ subst (λ (v : ℕ). has_bit v (bit_or bits (1 * 2 ^ t % 2 ^ 32)) ≡ (eqb t v || has_bit v bits)) e
      (has_it t _ (bit_at_set_same w32 bits t l) ∙ sym (ap (λ (x : Bool). x || has_bit t bits) (eq-eqb t t refl)))
  | inr ne ↦ has_of _ bits u u (bit_at_set_other w32 bits t l u (λ e. ne (sym e)))
      ∙ sym (ap (λ (x : Bool). x || has_bit u bits) (ne_eqb t u ne))
]

pub has_less : (bits t u : ℕ) → bits < 2 ^ 32 → t < 32
    → has_bit u (bit_and bits (bit_not w32 (1 * 2 ^ t % 2 ^ 32))) ≡ (not (eqb t u) && has_bit u bits)
has_less bits t u b l = elim (cases_eq t u) [
  | inl e ↦ subst (λ (v : ℕ). has_bit v (bit_and bits (bit_not w32 (1 * 2 ^ t % 2 ^ 32))) ≡
      (not (eqb t v) && has_bit v bits)) e
      (has_no t _ (bit_at_clear_same w32 bits t l) ∙ sym (ap (λ (x : Bool). not x && has_bit t bits) (eq-eqb t t refl)))
  | inr ne ↦ other ne ∙ sym (ap (λ (x : Bool). not x && has_bit u bits) (ne_eqb t u ne))
]
  where
    other : (t ≡ u → ⊥) → has_bit u (bit_and bits (bit_not w32 (1 * 2 ^ t % 2 ^ 32))) ≡ has_bit u bits
    other ne = elim (cases_lt u 32) [
      | inl s ↦ has_of _ bits u u (bit_at_clear_other w32 bits t l u s (λ e. ne (sym e)))
      | inr s ↦ has_no u _ (bit_at_and bits (bit_not w32 (1 * 2 ^ t % 2 ^ 32)) u
          ∙ ap (λ (x : ℕ). min x (bit_at (bit_not w32 (1 * 2 ^ t % 2 ^ 32)) u)) (bit_at_above bits 32 u b s)
          ∙ least_none (bit_at (bit_not w32 (1 * 2 ^ t % 2 ^ 32)) u)) ∙ sym (has_none_above bits u b s)
    ]
      where
        least_none : (n : ℕ) → min 0 n ≡ 0
        least_none n = omega arith

-- 3. The first of a set

-- where one is in a set and none below it, it is the first, and without it the others are left
pub first_is : (old new k : ℕ) → k < 32 → has_bit k old ≡ true → ((t : ℕ) → t < k → has_bit t old ≡ false)
    → ((u : ℕ) → has_bit u new ≡ (not (eqb k u) && has_bit u old))
    → members old ≡ k ∷ members new
unfolding members
first_is old new k l here below less =
    let p : ℕ → Bool = λ t. has_bit t old in
    let q : ℕ → Bool = λ t. has_bit t new in
    let n : ℕ = 31 - k in
    let split : k + suc n ≡ 32 = omega (arith, l) in
    let gone : q k ≡ false = less k ∙ ap (λ (x : Bool). not x && has_bit k old) (eq-eqb k k refl) in
    let rest : filter p (range_with_len (k + 1) n) ≡ filter q (range_with_len (k + 1) n) =
    keep_alike p q (k + 1) n
    (λ t i s. sym (less t ∙ ap (λ (x : Bool). not x && has_bit t old) (ne_eqb k t (λ e. omega (arith, e, i))))) in
    let front : filter q (range_with_len 0 k) ≡ [] =
    keeps_none q 0 k (λ t i s. less t ∙ ap (λ (x : Bool). not (eqb k t) && x) (below t (omega (arith, s)))
    ∙ and_right (not (eqb k t)) false refl) in
    let kept : ℕ → Bool → List ℕ =
    λ i b. cond b (i ∷ filter p (range_with_len (k + 1) n)) (filter p (range_with_len (k + 1) n)) in
    apart p k (suc n) 32 split
    ∙ ap₂ (λ (xs ys : List ℕ). xs ++ ys) (keeps_none p 0 k (λ t i s. below t (omega (arith, s))))
    (ap (kept k) here ∙ ap (λ (ts : List ℕ). k ∷ ts) rest)
    ∙ ap (λ (ts : List ℕ). k ∷ ts) (sym (apart q k (suc n) 32 split ∙ ap₂ (λ (xs ys : List ℕ). xs ++ ys) front
    (ap (λ (b : Bool). cond b (k ∷ filter q (range_with_len (k + 1) n)) (filter q (range_with_len (k + 1) n))) gone)))

-- a test of one bit
pub has_at : (bits t : ℕ) → eqb (bit_and (bits / 2 ^ t) 1) 1 ≡ has_bit t bits
unfolding has_bit
has_at bits t = ap (λ n. eqb n 1) (shr_and_one bits t)

-- 4. Those below a number

one_digit : (d : ℕ) → d < 2 → ones d ≡ length {A = ℕ} (cond (eqb d 1) (0 ∷ []) [])
unfolding ones ones_in
one_digit d l = grind arith

same_length : (b : Bool) (i j : ℕ) → length {A = ℕ} (cond b (i ∷ []) []) ≡ length {A = ℕ} (cond b (j ∷ []) [])
same_length true i j = refl
same_length false i j = refl

-- are as many as bits are set below it
pub number_below : (bits k : ℕ) → length (filter (λ t. has_bit t bits) (range_with_len 0 k)) ≡ ones (bits % 2 ^ k)
unfolding has_bit ones ones_in
number_below bits zero = let none : bits % 2 ^ 0 ≡ 0 = omega arith in sym (ap ones none)
number_below bits (suc k) =
    let p : ℕ → Bool = λ t. has_bit t bits in
    let d = bit_at bits k in
    let low : bits % 2 ^ k < 2 ^ k = omega (arith, pow_pos k) in
    let more : bits % 2 ^ (1 + k) ≡ d * 2 ^ k + bits % 2 ^ k = mod-pow-add bits 1 k in
    let next : 1 + k ≡ suc k = omega arith in
    ap length (apart p k 1 (suc k) (let e : k + 1 ≡ suc k = omega arith in e))
    ∙ length-append (filter p (range_with_len 0 k)) (filter p (range_with_len k 1))
    ∙ ap₂ (λ (x y : ℕ). x + y) (number_below bits k) (same_length (eqb d 1) k 0 ∙ sym (one_digit d (bit_at-lt bits k)))
    ∙ (let turn : ones (bits % 2 ^ k) + ones d ≡ ones d + ones (bits % 2 ^ k) = omega arith in turn)
    ∙ sym (ap ones (sym (ap (λ (i : ℕ). bits % 2 ^ i) next) ∙ more) ∙ ones_cat k d (bits % 2 ^ k) low)

-- 5. Those who stand before the first that another set doesn't have

is_zero : (n : ℕ) → n < 2 → eqb n 1 ≡ false → n ≡ 0
is_zero n l e = grind arith

module _ (old passed mask : ℕ) (below : IsBelow (bit_and old (bit_not w32 passed)) mask) (small : passed < 2 ^ 32) where
  abbrev front : ℕ
  front = bit_and old mask

  abbrev left : ℕ
  left = old - front

  front_is : front ≡ old % 2 ^ below.k
  front_is = ap (bit_and old) below.mask_is ∙ and_mask old below.k

  left_is : left ≡ old / 2 ^ below.k * 2 ^ below.k + 0
  left_is = let split = shr_split old below.k in omega (arith, split, front_is)

  none_low : (t : ℕ) → t < below.k → has_bit t left ≡ false
  none_low t l = has_no t left
      (ap (λ (x : ℕ). bit_at x t) left_is ∙ bit_at_cat_low (old / 2 ^ below.k) below.k 0 t l ∙ bit_at-zero t)

  same_high : (t : ℕ) → below.k ≤ t → has_bit t left ≡ has_bit t old
  same_high t i = has_of left old t t
      (ap (λ (x : ℕ). bit_at x t) left_is ∙ bit_at_cat_high (old / 2 ^ below.k) below.k 0 t (pow_pos below.k) i
      ∙ ap (λ (x : ℕ). x % 2) (shr-shr old below.k (t - below.k))
      ∙ ap (λ (j : ℕ). old / 2 ^ j % 2) (let e : below.k + (t - below.k) ≡ t = omega (arith, i) in e))

  passes_one : (t : ℕ) → t < below.k → has_bit t old ≡ true → has_bit t passed ≡ true
  unfolding has_bit
  passes_one t l here = elim (cases_Bool (has_bit t passed)) [
    | inl e ↦ e
    | inr e ↦
        let both = bit_at_and old (bit_not w32 passed) t
        ∙ ap₂ min (eqb-true (bit_at old t) 1 here)
        (bit_at_not w32 passed t small (omega (arith, l, below.few))
        ∙ ap (λ (n : ℕ). 1 - n) (is_zero (bit_at passed t) (bit_at-lt passed t) e)) in
        absurd (let z : true ≡ false = sym (has_it t (bit_and old (bit_not w32 passed)) both) ∙ below.none t l in cc)
  ]

  pub passes : Passes passed old left (ones front)
  unfolding members
  passes =
      let p : ℕ → Bool = λ t. has_bit t old in
      let q : ℕ → Bool = λ t. has_bit t left in
      let k = below.k in
      let n : ℕ = 32 - k in
      let split : k + n ≡ 32 = omega (arith, below.few) in
      record {
        front = filter p (range_with_len 0 k);
        are = apart p k n 32 split ∙ ap (λ (ts : List ℕ). filter p (range_with_len 0 k) ++ ts)
            (sym (apart q k n 32 split
            ∙ ap₂ (λ (xs ys : List ℕ). xs ++ ys) (keeps_none q 0 k (λ t i l. none_low t (omega (arith, l))))
            (keep_alike q p k n (λ t i l. same_high t i))));
        number_is = number_below old k ∙ ap ones (sym front_is);
        each = All-kept (λ t. has_bit t passed ≡ true) p 0 k (λ t i l e. passes_one t (omega (arith, l)) e);
      }

-- who is in a set passes where each number does whose bit it has
pub All-members : (P : ℕ → Type 0) (bits : ℕ) → ((t : ℕ) → has_bit t bits ≡ true → P t) → All P (members bits)
unfolding members
All-members P bits h = All-kept P (λ t. has_bit t bits) 0 32 (λ t i l e. h t e)

-- nobody was taken off
pub passes_none : (passed bits : ℕ) → Passes passed bits bits 0
passes_none passed bits =
    record { front = []; are = refl; number_is = refl; each = All-nil (λ t. has_bit t passed ≡ true) }

-- 6. Lists

-- what holds of all holds of those behind
pub All-behind : (P : ℕ → Type 0) (front rest : List ℕ) → All P (front ++ rest) → All P rest
All-behind P [] rest h = h
All-behind P (t ∷ front) rest h = All-behind P front rest (All-tail P t (front ++ rest) h)

-- 7. The bits below the lowest

pub all_below : (bits : ℕ) → bits ≡ 0 → IsBelow bits 4294967295
all_below bits e = record { k = 32; few = omega arith; mask_is = refl; none = λ t l. ap (has_bit t) e ∙ has_none t }

pub some_below : (bits : ℕ) → bits < 2 ^ 32 → (bits ≡ 0 → ⊥)
    → IsBelow bits (1 * 2 ^ trailing_zeros w32 bits % 2 ^ 32 - 1)
some_below bits l ne =
    let first = bit_at-trailing_zeros w32 bits (omega (arith, ne)) l in
    let k = trailing_zeros w32 bits in
    record {
      k = k;
      few = omega (arith, first.0);
      mask_is = ap (λ (n : ℕ). n - 1) (one_shl k 32 first.0);
      none = λ t i. has_no t bits (first.2 t i);
    }

-- the place of the lowest
pub lowest : (bits : ℕ) → bits < 2 ^ 32 → (bits ≡ 0 → ⊥) → (has_bit (trailing_zeros w32 bits) bits ≡ true)
    × ((u : ℕ) → u < trailing_zeros w32 bits → has_bit u bits ≡ false)
lowest bits l ne =
    let first = bit_at-trailing_zeros w32 bits (omega (arith, ne)) l in
    (has_it (trailing_zeros w32 bits) bits first.1, λ u i. has_no u bits (first.2 u i))
