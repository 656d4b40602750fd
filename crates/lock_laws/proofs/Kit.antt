-- Laws of columns and of sums that each law of a kind uses.
use Rattle.lock_laws.proofs.Names
use Names.{ℕ, zero, suc, true, false, cond, eqb, Option, Some, None, refl, sym, ap, inl, inr, arith, eq-eqb, subst}
use Names.{ne_eqb, cases_eq, sum_below, one, at_option, put, put_at, put_queue, is_queue, lock_queue, chan_queue}
use Names.{at_queue, QueueName, Lock, Chan}
use Rattle.std.proofs.Common.{◌≡◌, ◌+◌, ◌<◌, ◌≤◌, ◌&&◌}

pub is_queue_same : (q : QueueName) → is_queue q q ≡ true
is_queue_same q = grind arith

pub is_queue_true : (q r : QueueName) → is_queue q r ≡ true → q ≡ r
is_queue_true q r e = grind arith

-- 1. Columns

pub put_same : {A : Type 0} (f : ℕ → A) (i : ℕ) (v : A) → put f i v i ≡ v
unfolding put
put_same f i v = ap (λ b. cond b v (f i)) (eq-eqb i i refl)

-- the entry that is put was there before
pub put_back : {A : Type 0} (f : ℕ → A) (i : ℕ) (v : A) → f i ≡ v → put f i v ≡ f
unfolding put
put_back f i v e = grind arith

pub put_other : {A : Type 0} (f : ℕ → A) (i : ℕ) (v : A) (j : ℕ) → (i ≡ j → ⊥) → put f i v j ≡ f j
unfolding put
put_other f i v j h = ap (λ b. cond b v (f j)) (ne_eqb i j h)

pub put_at_same : {A : Type 0} (f : ℕ → ℕ → A) (i k : ℕ) (v : A) → put_at f i k v i k ≡ v
unfolding put_at
put_at_same f i k v = rw (eq-eqb i i refl, eq-eqb k k refl)

pub put_at_other : {A : Type 0} (f : ℕ → ℕ → A) (i k : ℕ) (v : A) (j l : ℕ) → (i ≡ j → ⊥) → put_at f i k v j l ≡ f j l
unfolding put_at
put_at_other f i k v j l h = rw (ne_eqb i j h)

-- the row of another place
pub put_at_row : {A : Type 0} (f : ℕ → ℕ → A) (i k : ℕ) (v : A) (j : ℕ) → (i ≡ j → ⊥) → put_at f i k v j ≡ f j
put_at_row f i k v j h = λ p l. put_at_other f i k v j l h p

pub put_at_beside : {A : Type 0} (f : ℕ → ℕ → A) (i k : ℕ) (v : A) (j l : ℕ) → (k ≡ l → ⊥) → put_at f i k v j l ≡ f j l
unfolding put_at
put_at_beside f i k v j l h =
    rw (ne_eqb k l h) (elim (eqb i j) as (λ b. cond (b && false) v (f j l) ≡ f j l) [ true ↦ refl | false ↦ refl ])

pub put_lock_same : {A : Type 0} (f : QueueName → A) (l : ℕ) (v : A) → put_queue f (lock_queue l) v (lock_queue l) ≡ v
unfolding put_queue
put_lock_same f l v = ap (λ b. cond b v (f (lock_queue l))) (eq-eqb l l refl)

pub put_lock_other : {A : Type 0} (f : QueueName → A) (l : ℕ) (v : A) (k : ℕ) → (l ≡ k → ⊥)
    → put_queue f (lock_queue l) v (lock_queue k) ≡ f (lock_queue k)
unfolding put_queue
put_lock_other f l v k h = ap (λ b. cond b v (f (lock_queue k))) (ne_eqb l k h)

pub put_lock_chan : {A : Type 0} (f : QueueName → A) (l : ℕ) (v : A) (d : ℕ)
    → put_queue f (lock_queue l) v (chan_queue d) ≡ f (chan_queue d)
unfolding put_queue
put_lock_chan f l v d = refl

pub put_chan_same : {A : Type 0} (f : QueueName → A) (d : ℕ) (v : A) → put_queue f (chan_queue d) v (chan_queue d) ≡ v
unfolding put_queue
put_chan_same f d v = ap (λ b. cond b v (f (chan_queue d))) (eq-eqb d d refl)

pub put_chan_other : {A : Type 0} (f : QueueName → A) (d : ℕ) (v : A) (k : ℕ) → (d ≡ k → ⊥)
    → put_queue f (chan_queue d) v (chan_queue k) ≡ f (chan_queue k)
unfolding put_queue
put_chan_other f d v k h = ap (λ b. cond b v (f (chan_queue k))) (ne_eqb d k h)

pub put_queue_same : {A : Type 0} (f : QueueName → A) (q : QueueName) (v : A) → put_queue f q v q ≡ v
unfolding put_queue
put_queue_same f q v = rw (is_queue_same q) refl

pub put_queue_other : {A : Type 0} (f : QueueName → A) (q : QueueName) (v : A) (r : QueueName) → is_queue q r ≡ false
    → put_queue f q v r ≡ f r
unfolding put_queue
put_queue_other f q v r e = rw e refl

-- what an entry of a changed column is
pub ruleset columns =
    (put_same, put_other, put_at_same, put_at_other, put_at_beside, put_lock_same, put_lock_other, put_lock_chan)

-- a fact of a place and its entry, after the entry at i is changed
pub at_put : {A : Type 0} (P : ℕ → A → Type 0) (f : ℕ → A) (i : ℕ) (v : A) → P i v → ((j : ℕ) → (i ≡ j → ⊥) → P j (f j))
    → (j : ℕ) → P j (put f i v j)
at_put P f i v here there j =
    elim (cases_eq i j) [
      | inl e ↦ let p : P i (put f i v i) = rw put_same here in subst (λ k. P k (put f i v k)) e p
      | inr e ↦ rw (put_other f i v j e) (there j e)
    ]

-- the same of a column by queue
pub at_put_lock : {A : Type 0} (P : ℕ → A → Type 0) (f : QueueName → A) (i : ℕ) (v : A) → P i v
    → ((j : ℕ) → (i ≡ j → ⊥) → P j (f (lock_queue j))) → (j : ℕ) → P j (put_queue f (lock_queue i) v (lock_queue j))
at_put_lock P f i v here there j =
    elim (cases_eq i j) [
      | inl e ↦ let p : P i (put_queue f (lock_queue i) v (lock_queue i)) = rw put_lock_same here in
          subst (λ k. P k (put_queue f (lock_queue i) v (lock_queue k))) e p
      | inr e ↦ rw (put_lock_other f i v j e) (there j e)
    ]

-- a fact of each queue and its entry, by the queue that is changed and the others
pub at_put_queue : {A : Type 0} (P : QueueName → A → Type 0) (f : QueueName → A) (q : QueueName) (v : A) → P q v
    → ((r : QueueName) → is_queue q r ≡ false → P r (f r)) → (r : QueueName) → P r (put_queue f q v r)
unfolding put_queue
at_put_queue P f q v here there r = grind arith

-- a fact of the entries of some locks, where one queue's entry is changed
pub at_locks : {A : Type 0} (K : ℕ → Type 0) (P : A → Type 0) (f : QueueName → A) (q : QueueName) (v : A)
    → ((l : ℕ) → q ≡ lock_queue l → K l → P (f q) → P v) → ((l : ℕ) → K l → P (f (lock_queue l)))
    → (l : ℕ) → K l → P (put_queue f q v (lock_queue l))
at_locks K P f q v here each l k =
    at_put_queue (λ r w. (j : ℕ) → r ≡ lock_queue j → K j → P w) f q v
    (λ j e i. here j e i (subst (λ r. P (f r)) (sym e) (each j i)))
    (λ r ne j e i. subst (λ r. P (f r)) (sym e) (each j i)) (lock_queue l) l refl k

-- a fact of each place, by the place that is changed and the others
pub each_place : (i : ℕ) (P : ℕ → Type 0) → P i → ((j : ℕ) → (i ≡ j → ⊥) → P j) → (j : ℕ) → P j
each_place i P here there j = elim (cases_eq i j) [ inl e ↦ subst P e here | inr e ↦ there j e ]

-- 2. Sums

-- two columns agree below n
pub sum_below-same : (n : ℕ) (f g : ℕ → ℕ) → ((j : ℕ) → j < n → f j ≡ g j) → sum_below n f ≡ sum_below n g
unfolding sum_below
sum_below-same zero f g h = refl
sum_below-same (suc n) f g h =
    let here : f n ≡ g n = h n (omega arith) in
    let rest : sum_below n f ≡ sum_below n g = sum_below-same n f g (λ j l. h j (omega arith)) in
    cc

-- two columns agree below n but at i
pub sum_below-change : (n : ℕ) (f g : ℕ → ℕ) (i : ℕ) → i < n → ((j : ℕ) → (i ≡ j → ⊥) → f j ≡ g j)
    → sum_below n f + g i ≡ sum_below n g + f i
unfolding sum_below
sum_below-change zero f g i l h = absurd (omega arith)
sum_below-change (suc n) f g i l h =
    elim (cases_eq i n) [
      | inl e ↦
          let rest : sum_below n f ≡ sum_below n g = sum_below-same n f g (λ j k. h j (omega arith)) in
          let a : f i ≡ f n = ap f e in
          let b : g i ≡ g n = ap g e in
          omega arith
      | inr e ↦
          let rest = sum_below-change n f g i (omega arith) h in
          let here : f n ≡ g n = h n e in
          omega arith
    ]

-- the sum after one entry of the column is changed; each place weighs an entry in its own way
pub sum_below-put : {A : Type 0} (n : ℕ) (g : A → ℕ) (f : ℕ → A) (i : ℕ) (v : A) → i < n
    → sum_below n (λ j. g (put f i v j)) + g (f i) ≡ sum_below n (λ j. g (f j)) + g v
sum_below-put n g f i v l =
    let e : g (put f i v i) ≡ g v = ap g (put_same f i v) in
    omega (arith, sum_below-change n (λ j. g (put f i v j)) (λ j. g (f j)) i l (λ j h. ap g (put_other f i v j h)))

pub sum_below-put_at : {A : Type 0} (n : ℕ) (g : A → ℕ) (f : ℕ → ℕ → A) (i k : ℕ) (v : A) → i < n
    → sum_below n (λ j. g (put_at f i k v j k)) + g (f i k) ≡ sum_below n (λ j. g (f j k)) + g v
sum_below-put_at n g f i k v l =
    let e : g (put_at f i k v i k) ≡ g v = ap g (put_at_same f i k v) in
    omega (
      arith,
      sum_below-change n (λ j. g (put_at f i k v j k)) (λ j. g (f j k)) i l (λ j h. ap g (put_at_other f i k v j k h)),
    )

pub sum_below-put_beside : {A : Type 0} (n : ℕ) (g : A → ℕ) (f : ℕ → ℕ → A) (i k : ℕ) (v : A) (l : ℕ) → (k ≡ l → ⊥)
    → sum_below n (λ j. g (put_at f i k v j l)) ≡ sum_below n (λ j. g (f j l))
sum_below-put_beside n g f i k v l h =
    sum_below-same n (λ j. g (put_at f i k v j l)) (λ j. g (f j l)) (λ j x. ap g (put_at_beside f i k v j l h))

pub sum_below-put_lock : {A : Type 0} (n : ℕ) (g : ℕ → A → ℕ) (f : QueueName → A) (i : ℕ) (v : A) → i < n
    → sum_below n (λ j. g j (put_queue f (lock_queue i) v (lock_queue j))) + g i (f (lock_queue i))
    ≡ sum_below n (λ j. g j (f (lock_queue j))) + g i v
sum_below-put_lock n g f i v l =
    let e : g i (put_queue f (lock_queue i) v (lock_queue i)) ≡ g i v = ap (g i) (put_lock_same f i v) in
    omega (
      arith,
      sum_below-change n (λ j. g j (put_queue f (lock_queue i) v (lock_queue j))) (λ j. g j (f (lock_queue j))) i l
          (λ j h. ap (g j) (put_lock_other f i v j h)),
    )

pub sum_below-put_chan : {A : Type 0} (n : ℕ) (g : A → ℕ) (f : QueueName → A) (i : ℕ) (v : A) → i < n
    → sum_below n (λ j. g (put_queue f (chan_queue i) v (chan_queue j))) + g (f (chan_queue i))
    ≡ sum_below n (λ j. g (f (chan_queue j))) + g v
sum_below-put_chan n g f i v l =
    let e : g (put_queue f (chan_queue i) v (chan_queue i)) ≡ g v = ap g (put_chan_same f i v) in
    omega (
      arith,
      sum_below-change n (λ j. g (put_queue f (chan_queue i) v (chan_queue j))) (λ j. g (f (chan_queue j))) i l
          (λ j h. ap g (put_chan_other f i v j h)),
    )

-- an entry is at most the sum
pub sum_below-at : (n : ℕ) (f : ℕ → ℕ) (i : ℕ) → i < n → f i ≤ sum_below n f
unfolding sum_below
sum_below-at zero f i h = absurd (omega arith)
sum_below-at (suc n) f i h =
    elim (cases_eq i n) [
      | inl e ↦ let here : f i ≡ f n = ap f e in omega arith
      | inr e ↦ let rest = sum_below-at n f i (omega arith) in omega arith
    ]

-- so are two entries
pub sum_below-two : (n : ℕ) (f : ℕ → ℕ) (i j : ℕ) → i < n → j < n → (i ≡ j → ⊥) → f i + f j ≤ sum_below n f
unfolding sum_below
sum_below-two zero f i j k l h = absurd (omega arith)
sum_below-two (suc n) f i j k l h =
    elim (cases_eq i n) [
      | inl e ↦ let here : f i ≡ f n = ap f e in let rest = sum_below-at n f j (omega arith) in omega arith
      | inr e ↦ elim (cases_eq j n) [
        | inl x ↦ let here : f j ≡ f n = ap f x in let rest = sum_below-at n f i (omega arith) in omega arith
        | inr x ↦ let rest = sum_below-two n f i j (omega arith) (omega arith) h in omega arith
      ]
    ]

-- a sum of zeros
pub sum_below-zero : (n : ℕ) (f : ℕ → ℕ) → ((j : ℕ) → j < n → f j ≡ 0) → sum_below n f ≡ 0
unfolding sum_below
sum_below-zero zero f h = refl
sum_below-zero (suc n) f h =
    let here : f n ≡ 0 = h n (omega arith) in
    let rest : sum_below n f ≡ 0 = sum_below-zero n f (λ j l. h j (omega arith)) in
    omega arith

-- 3. Counts

pub one_same : (n : ℕ) → one (eqb n n) ≡ 1
one_same n = ap one (eq-eqb n n refl)

pub at_option_one : (n : ℕ) (o : Option ℕ) → 1 ≤ at_option n o → o ≡ Some n
at_option_one n o l = grind arith

-- 4. Queues

number_of : Option QueueName → ℕ
number_of None = 0
number_of (Some (Lock l)) = l.0
number_of (Some (Chan d)) = 0

-- a lock is known by its queue
pub same_lock : (l k : ℕ) → ◌≡◌ {A = Option QueueName} (Some (lock_queue l)) (Some (lock_queue k)) → l ≡ k
unfolding number_of
same_lock l k e = ap number_of e

pub at_queue_one : (q : QueueName) (o : Option QueueName) → 1 ≤ at_queue q o → o ≡ Some q
at_queue_one q o l = grind arith
