-- Laws of loans, of kept priorities and of walks.
use Rattle.lock_laws.proofs.Names
use Names.{ℕ, zero, suc, true, false, cond, eqb, leb, List, [], length, Option, Some, refl, sym, ap, inl, inr, arith}
use Names.{eq-eqb, ne_eqb, cases_eq, one, least, lower, is_empty, Config, Waiter, Lists, list_of, with_list}
use Names.{times_waiting, stands, waiting, insert, without, reinsert, with_kept, Loan, Walk, put, put_at, effective_of}
use Names.{prio_of, walk_up, Each, EachOf, IsKept, at_lock, at_thread, Side, X, S, times_waiting-reinsert}
use Names.{length-reinsert, by_reinsert}
use Rattle.std.proofs.Common.{◌≡◌, ◌≢◌, ◌<◌, ◌≤◌, ◌∷◌, ◌∙◌}
use Rattle.lock_state.specs.Facts.Loans.{EffectiveIsLeast}
use Rattle.lock_laws.proofs.Kit.{put_same, put_other, put_at_same, put_at_other, put_at_beside, each_place}

-- 1. The least

pub least-same : (n : ℕ) (f g : ℕ → Option ℕ) (d : ℕ) → ((j : ℕ) → f j ≡ g j) → least n f d ≡ least n g d
unfolding least
least-same zero f g d h = refl
least-same (suc n) f g d h = let a = h n in let b = least-same n f g d h in cc

pub least-le_base : (n : ℕ) (f : ℕ → Option ℕ) (d : ℕ) → least n f d ≤ d
unfolding least
least-le_base zero f d = omega arith
least-le_base (suc n) f d = grind (arith, least-le_base n f d)

-- the least is the base, or it is one of the others
pub by_least : (P : ℕ → Type 0) (n : ℕ) (f : ℕ → Option ℕ) (d : ℕ) → P d → ((j p : ℕ) → j < n → f j ≡ Some p → P p)
    → P (least n f d)
unfolding least
by_least P zero f d b o = b
by_least P (suc n) f d b o =
    go (f n) (λ p e. o n p (omega arith) e) (least n f d) (by_least P n f d b (λ j p l e. o j p (omega arith) e))
  where
    go : (x : Option ℕ) → ((p : ℕ) → x ≡ Some p → P p) → (m : ℕ) → P m → P (lower x m)
    go x k m q = grind arith

-- 2. Effective priorities

-- a loan of one thread is changed, and its effective priority is made anew
pub effective-put : (c : Config) (effective base : ℕ → ℕ) (loan : ℕ → ℕ → Option Loan) (t l : ℕ) (v : Option Loan)
    → EffectiveIsLeast c effective base loan
    → EffectiveIsLeast c (put effective t (effective_of c (put (loan t) l v) (base t))) base (put_at loan t l v)
unfolding EffectiveIsLeast
effective-put c effective base loan t l v h =
    each_place t (λ u. put effective t (effective_of c (put (loan t) l v) (base t)) u
    ≡ effective_of c (put_at loan t l v u) (base u))
    (put_same effective t (effective_of c (put (loan t) l v) (base t))
    ∙ least-same c.locks (λ k. prio_of (put (loan t) l v k)) (λ k. prio_of (put_at loan t l v t k)) (base t)
    (each_place l (λ k. prio_of (put (loan t) l v k) ≡ prio_of (put_at loan t l v t k))
    (ap prio_of (put_same (loan t) l v ∙ sym (put_at_same loan t l v)))
    (λ k ne. ap prio_of (put_other (loan t) l v k ne ∙ sym (put_at_beside loan t l v t k ne)))))
    (λ u ne. put_other effective t (effective_of c (put (loan t) l v) (base t)) u ne ∙ h u
    ∙ least-same c.locks (λ k. prio_of (loan u k)) (λ k. prio_of (put_at loan t l v u k)) (base u)
    (λ k. ap prio_of (sym (put_at_other loan t l v u k ne))))

-- the same with a new base
pub effective-base : (c : Config) (effective base : ℕ → ℕ) (loan : ℕ → ℕ → Option Loan) (t p : ℕ)
    → EffectiveIsLeast c effective base loan
    → EffectiveIsLeast c (put effective t (effective_of c (loan t) p)) (put base t p) loan
unfolding EffectiveIsLeast
effective-base c effective base loan t p h =
    each_place t (λ u. put effective t (effective_of c (loan t) p) u ≡ effective_of c (loan u) (put base t p u))
    (rw (put_same effective t (effective_of c (loan t) p), put_same base t p) refl)
    (λ u ne. rw (put_other effective t (effective_of c (loan t) p) u ne, put_other base t p u ne) (h u))

-- 3. Facts of each waiter

pub each-map : (P Q : Waiter → Type 0) (ws : List Waiter) → ((w : Waiter) → 1 ≤ times_waiting w.thread ws → P w → Q w)
    → Each P ws → Each Q ws
each-map P Q [] f e = tt
each-map P Q (w ∷ ws) f e =
    let a : one (eqb w.thread w.thread) ≡ 1 = ap one (eq-eqb w.thread w.thread refl) in
    (f w (omega arith) e.0, each-map P Q ws (λ v l p. f v (omega arith) p) e.1)

pub each-insert : (P : Waiter → Type 0) (w : Waiter) (ws : List Waiter) → P w → Each P ws → Each P (insert w ws)
each-insert P w [] p e = (p, tt)
each-insert P w (v ∷ vs) p e =
    elim (leb v.kept w.kept) as (λ b. Each P (cond b (v ∷ insert w vs) (w ∷ v ∷ vs))) [
      | true ↦ (e.0, each-insert P w vs p e.1)
      | false ↦ (p, e)
    ]

is_empty-length : (ws vs : List Waiter) → length ws ≡ length vs → is_empty ws ≡ is_empty vs
is_empty-length ws vs e = grind arith

pub is_empty-reinsert : (t p : ℕ) (ws : List Waiter) → is_empty (reinsert t p ws) ≡ is_empty ws
is_empty-reinsert t p ws = is_empty-length (reinsert t p ws) ws (length-reinsert t p ws)

-- the others are as they were
each-without-other : (P : Waiter → Type 0) (t : ℕ) (ws : List Waiter) → times_waiting t ws ≤ 1
    → Each (λ w. w.thread ≢ t → P w) ws → 1 ≤ times_waiting t ws → Each P (without t ws)
each-without-other P t [] m e l = tt
each-without-other P t (w ∷ ws) m e l =
    elim (cases_eq t w.thread) [
      | inl x ↦ rw (← x, eq-eqb t t refl)
          (let z : one (eqb t w.thread) ≡ 1 = ap one (eq-eqb t w.thread x) in
          each-map (λ v. v.thread ≢ t → P v) P ws (λ v k f. f (λ y. let q : times_waiting v.thread ws
          ≡ times_waiting t ws = ap (λ i. times_waiting i ws) y in absurd (omega arith))) e.1)
      | inr x ↦ rw (ne_eqb t w.thread x)
          (let z : one (eqb t w.thread) ≡ 0 = ap one (ne_eqb t w.thread x) in
          (e.0 (λ y. x (sym y)), each-without-other P t ws (omega arith) e.1 (omega arith)))
    ]

pub each-reinsert : (P : Waiter → Type 0) (t p : ℕ) (ws : List Waiter) → times_waiting t ws ≤ 1
    → P (record { thread = t; kept = p }) → Each (λ w. w.thread ≢ t → P w) ws → Each P (reinsert t p ws)
each-reinsert P t p ws m here e =
    by_reinsert (Each P) t p ws
    (λ z. each-map (λ v. v.thread ≢ t → P v) P ws (λ v k f. f (λ y.
    let q : times_waiting v.thread ws ≡ times_waiting t ws = ap (λ i. times_waiting i ws) y in absurd (omega arith))) e)
    (λ l. each-insert P (record { thread = t; kept = p }) (without t ws) here (each-without-other P t ws m e l))

-- The same of both lists of each queue

pub each_of-map : (P Q : Waiter → Type 0) (q : Lists) → ((w : Waiter) → 1 ≤ stands w.thread q → P w → Q w) → EachOf P q
    → EachOf Q q
each_of-map P Q q f e =
    (each-map P Q q.exclusive (λ w l. f w (omega arith)) e.0, each-map P Q q.shared (λ w l. f w (omega arith)) e.1)

-- one side of a lock's queue is changed
pub each_of-with : (P : Waiter → Type 0) (side : Side) (ws : List Waiter) (q : Lists)
    → (Each P (list_of side q) → Each P ws)
    → EachOf P q → EachOf P (with_list side ws q)
each_of-with P X ws q f e = (f e.0, e.1)
each_of-with P S ws q f e = (e.0, f e.1)

pub each_of-kept : (P : Waiter → Type 0) (t p : ℕ) (q : Lists) → stands t q ≤ 1 → P (record { thread = t; kept = p })
    → EachOf (λ w. w.thread ≢ t → P w) q → EachOf P (with_kept t p q)
each_of-kept P t p q m here e =
    (each-reinsert P t p q.exclusive (omega arith) here e.0, each-reinsert P t p q.shared (omega arith) here e.1)

pub stands-kept : (u t p : ℕ) (q : Lists) → stands u (with_kept t p q) ≡ stands u q
stands-kept u t p q = omega (arith, times_waiting-reinsert u t p q.exclusive, times_waiting-reinsert u t p q.shared)

pub waiting-kept : (t p : ℕ) (q : Lists) → waiting (with_kept t p q) ≡ waiting q
waiting-kept t p q = omega (arith, length-reinsert t p q.exclusive, length-reinsert t p q.shared)

-- the effective priority of a thread that doesn't stand here is changed
pub each_of-elsewhere : (c : Config) (walk : ℕ → Walk) (effective : ℕ → ℕ) (t v : ℕ) (q : Lists) → stands t q ≡ 0
    → EachOf (IsKept c walk effective) q → EachOf (IsKept c walk (put effective t v)) q
each_of-elsewhere c walk effective t v q z =
    each_of-map (IsKept c walk effective) (IsKept c walk (put effective t v)) q
    (λ w k p e. p e ∙ sym (put_other effective t v w.thread
    (λ x. let y : stands t q ≡ stands w.thread q = ap (λ i. stands i q) x in absurd (omega arith))))

-- 4. A walk goes on to the lock where there is an owner to lend to

pub at_thread-walk_up : (o l : ℕ) (x : Option ℕ) → at_thread o (walk_up l x) ≡ 0
at_thread-walk_up o l x = grind arith

pub walk_up-there : (l : ℕ) (x : Option ℕ) (u : ℕ) → x ≡ Some u → at_lock l (walk_up l x) ≡ 1
walk_up-there l x u e = grind arith
