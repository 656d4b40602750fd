-- Laws of sums of sums, and of how often the numbers below a bound stand in lists.
use Rattle.lock_laws.proofs.Names
use Names.{ℕ, zero, suc, Bool, true, false, cond, eqb, List, [], length, Option, Some, None, refl, sym, ap, inl, inr}
use Names.{arith, ne_eqb, cases_eq, cases_lt, sum_below, one, some, at_option, times, Config, Waiter, Mark}
use Names.{is_turnstile_queue, times_waiting, only, times_object}
use Rattle.std.proofs.Common.{◌≡◌, ◌∙◌, ◌+◌, ◌<◌, ◌≤◌, ◌∷◌}
use Rattle.lock_laws.proofs.Kit.{sum_below-zero, sum_below-at, sum_below-same, one_same}

-- 1. Sums

pub zero_unless : (k : ℕ) → (1 ≤ k → ⊥) → k ≡ 0
zero_unless zero h = refl
zero_unless (suc k) h = absurd (h (omega arith))

pub sum_below-add : (n : ℕ) (f g : ℕ → ℕ) → sum_below n (λ j. f j + g j) ≡ sum_below n f + sum_below n g
unfolding sum_below
sum_below-add zero f g = refl
sum_below-add (suc n) f g = omega (arith, sum_below-add n f g)

pub sum_below-le : (n : ℕ) (f g : ℕ → ℕ) → ((j : ℕ) → j < n → f j ≤ g j) → sum_below n f ≤ sum_below n g
unfolding sum_below
sum_below-le zero f g h = omega arith
sum_below-le (suc n) f g h =
    let here = h n (omega arith) in
    let rest = sum_below-le n f g (λ j l. h j (omega arith)) in
    omega arith

-- a sum of entries that are at most 1
pub sum_below-most : (n : ℕ) (f : ℕ → ℕ) → ((j : ℕ) → f j ≤ 1) → sum_below n f ≤ n
unfolding sum_below
sum_below-most zero f h = omega arith
sum_below-most (suc n) f h = let here = h n in let rest = sum_below-most n f h in omega arith

-- and of entries of which one is 0
pub sum_below-less : (n : ℕ) (f : ℕ → ℕ) → ((j : ℕ) → f j ≤ 1) → (i : ℕ) → i < n → f i ≡ 0 → sum_below n f < n
unfolding sum_below
sum_below-less zero f h i low none = absurd (omega arith)
sum_below-less (suc n) f h i low none =
    elim (cases_eq i n) [
      | inl e ↦
          let here : f n ≡ 0 = ap f (sym e) ∙ none in
          let rest = sum_below-most n f h in
          omega arith
      | inr ne ↦ let here = h n in let rest = sum_below-less n f h i (omega arith) none in omega arith
    ]

-- and of entries that are at least 1
pub sum_below-all : (n : ℕ) (f : ℕ → ℕ) → ((j : ℕ) → j < n → 1 ≤ f j) → n ≤ sum_below n f
unfolding sum_below
sum_below-all zero f h = omega arith
sum_below-all (suc n) f h =
    let here = h n (omega arith) in
    let rest = sum_below-all n f (λ j l. h j (omega arith)) in
    omega arith

-- a sum whose entries are 0 but at i
pub sum_below-single : (n : ℕ) (f : ℕ → ℕ) (i : ℕ) → ((j : ℕ) → (i ≡ j → ⊥) → f j ≡ 0) → sum_below n f ≤ f i
unfolding sum_below
sum_below-single zero f i h = omega arith
sum_below-single (suc n) f i h =
    elim (cases_eq i n) [
      | inl e ↦ let here : f i ≡ f n = ap f e in
          let rest = sum_below-zero n f (λ j l. h j (λ z. omega arith)) in
          omega arith
      | inr e ↦ let here = h n e in let rest = sum_below-single n f i h in omega arith
    ]

-- an entry at n or beyond comes on top of the sum below n
pub sum_below-beyond : (n l : ℕ) (f : ℕ → ℕ) → n ≤ l → sum_below n f + f l ≤ sum_below (suc l) f
unfolding sum_below
sum_below-beyond n l f h = let a = longer l h in omega arith
  where
    longer : (m : ℕ) → n ≤ m → sum_below n f ≤ sum_below m f
    longer zero i = let z : n ≡ 0 = omega arith in rw z (omega arith)
    longer (suc m) i = elim (cases_lt m n) [
      | inl k ↦ let z : n ≡ suc m = omega arith in rw z (omega arith)
      | inr k ↦ let rest = longer m k in omega arith
    ]

-- the two sums of a table come to the same
pub sum_below-swap : (n m : ℕ) (f : ℕ → ℕ → ℕ)
    → sum_below n (λ i. sum_below m (f i)) ≡ sum_below m (λ j. sum_below n (λ i. f i j))
unfolding sum_below
sum_below-swap zero m f = sym (sum_below-zero m (λ j. 0) (λ j l. refl))
sum_below-swap (suc n) m f = omega (arith, sum_below-swap n m f, sum_below-add m (f n) (λ j. sum_below n (λ i. f i j)))

pub columns-le : (n m : ℕ) (f : ℕ → ℕ → ℕ) (g : ℕ → ℕ) → ((j : ℕ) → j < m → sum_below n (λ i. f i j) ≤ g j)
    → sum_below n (λ i. sum_below m (f i)) ≤ sum_below m g
columns-le n m f g h = let a = sum_below-le m (λ j. sum_below n (λ i. f i j)) g h in omega (arith, sum_below-swap n m f)

pub le-columns : (n m : ℕ) (f : ℕ → ℕ → ℕ) (g : ℕ → ℕ) → ((j : ℕ) → j < m → g j ≤ sum_below n (λ i. f i j))
    → sum_below m g ≤ sum_below n (λ i. sum_below m (f i))
le-columns n m f g h = let a = sum_below-le m g (λ j. sum_below n (λ i. f i j)) h in omega (arith, sum_below-swap n m f)

-- 2. Each number below n is counted in an option or a list

pub one-sum : (n x : ℕ) → sum_below n (λ j. one (eqb j x)) ≤ 1
one-sum n x =
    let a = sum_below-single n (λ j. one (eqb j x)) x (λ j e. ap one (ne_eqb j x (λ i. e (sym i)))) in
    omega (arith, one_same x)

pub option-sum : (n : ℕ) (o : Option ℕ) → sum_below n (λ j. at_option j o) ≤ some o
option-sum n None = omega (arith, sum_below-zero n (λ j. 0) (λ j l. refl))
option-sum n (Some x) = one-sum n x

pub times-sum : (n : ℕ) (xs : List ℕ) → sum_below n (λ j. times j xs) ≤ length xs
times-sum n [] = omega (arith, sum_below-zero n (λ j. 0) (λ j l. refl))
times-sum n (x ∷ xs) =
    omega (arith, sum_below-add n (λ j. one (eqb j x)) (λ j. times j xs), one-sum n x, times-sum n xs)

pub only-sum : (n : ℕ) (b : Bool) (f : ℕ → ℕ) (k : ℕ) → sum_below n f ≤ k → sum_below n (λ j. only b (f j)) ≤ only b k
only-sum n true f k l = l
only-sum n false f k l = omega (arith, sum_below-zero n (λ j. 0) (λ j i. refl))

pub sum-only : (n : ℕ) (b : Bool) (f : ℕ → ℕ) (k : ℕ) → k ≤ sum_below n f → only b k ≤ sum_below n (λ j. only b (f j))
sum-only n true f k l = l
sum-only n false f k l = omega arith

pub only-le : (b : Bool) (k : ℕ) → only b k ≤ k
only-le true k = omega arith
only-le false k = omega arith

-- the threads with a turnstile in a marked list
abbrev pub marked_threads : Config → List Mark → List ℕ
marked_threads c [] = []
marked_threads c (m ∷ ms) = cond (is_turnstile_queue c m.queue) (m.thread ∷ marked_threads c ms) (marked_threads c ms)

-- they have a turnstile each
pub object-sum : (c : Config) (n : ℕ) (ms : List Mark)
    → sum_below n (λ j. times_object c true j ms) ≤ length (marked_threads c ms)
object-sum c n [] = omega (arith, sum_below-zero n (λ j. 0) (λ j l. refl))
object-sum c n (m ∷ ms) =
    let rest = object-sum c n ms in
    let none = sum_below-zero n (λ j. 0) (λ j l. refl) in
    elim (is_turnstile_queue c m.queue)
    as (λ b. sum_below n (λ j. only b (one (eqb j m.object)) + times_object c true j ms)
    ≤ length (cond b (m.thread ∷ marked_threads c ms) (marked_threads c ms))) [
      | true ↦
          omega (arith, sum_below-add n (λ j. one (eqb j m.object)) (λ j. times_object c true j ms), one-sum n m.object)
      | false ↦ omega (arith, sum_below-add n (λ j. 0) (λ j. times_object c true j ms))
    ]

-- 3. Where each number of a list is below n, the numbers below n are all that it has

pub sum-times : (n : ℕ) (xs : List ℕ) → ((j : ℕ) → 1 ≤ times j xs → j < n) → length xs ≤ sum_below n (λ j. times j xs)
sum-times n [] h = omega arith
sum-times n (x ∷ xs) h =
    let here = sum_below-at n (λ j. one (eqb j x)) x (h x (omega (arith, one_same x))) in
    let rest = sum-times n xs (λ j l. h j (omega arith)) in
    omega (arith, one_same x, sum_below-add n (λ j. one (eqb j x)) (λ j. times j xs))

-- the threads of a list
abbrev pub threads_of : List Waiter → List ℕ
threads_of [] = []
threads_of (w ∷ ws) = w.thread ∷ threads_of ws

pub times-threads : (t : ℕ) (ws : List Waiter) → times t (threads_of ws) ≡ times_waiting t ws
times-threads t [] = refl
times-threads t (w ∷ ws) = omega (arith, times-threads t ws)

pub length-threads : (ws : List Waiter) → length (threads_of ws) ≡ length ws
length-threads [] = refl
length-threads (w ∷ ws) = ap suc (length-threads ws)

pub sum-waiting : (n : ℕ) (ws : List Waiter) → ((j : ℕ) → 1 ≤ times_waiting j ws → j < n)
    → length ws ≤ sum_below n (λ j. times_waiting j ws)
sum-waiting n ws h =
    omega (
      arith,
      length-threads ws,
      sum-times n (threads_of ws) (λ j l. h j (omega (arith, times-threads j ws))),
      sum_below-same n (λ j. times j (threads_of ws)) (λ j. times_waiting j ws) (λ j l. times-threads j ws),
    )
