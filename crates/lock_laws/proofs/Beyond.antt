-- Nobody waits at a turnstile of a lock that isn't one of the plan's: the plan's threads have a turnstile each, and
-- these are all in its own places.
use Rattle.lock_laws.proofs.Names
use Names.{ℕ, suc, Bool, true, false, cond, eqb, ltb, List, [], length, Option, Some, None, refl, sym, ap, inl, inr}
use Names.{arith, eq-eqb, ne_eqb, cases_eq, lt-ltb, sum_below, one, some, at_option, times, is_turnstile, Config, State}
use Names.{Mark, is_queue, lock_queue, is_turnstile_queue, names_turnstile, times_waiting, stands, waiting, Lawful}
use Names.{OneTurnstileEach, TurnstileIsLent, HeadsFitWaiters, StandsOnce, OnlyThreadsStand, only, turnstile_places}
use Names.{times_object, times_marked, at_queue, QueueName, Lock, Chan}
use Rattle.std.proofs.Common.{◌≡◌, ◌+◌, ◌<◌, ◌≤◌, ◌&&◌, ◌∷◌, ◌∙◌}
use Rattle.lock_laws.proofs.Kit.{sum_below-same, sum_below-zero, is_queue_same, same_lock, one_same}
use Rattle.lock_laws.proofs.Standing.{standing_named, standing_thread, times_named}
use Rattle.lock_laws.proofs.Sums.{sum_below-add, sum_below-le, sum_below-most, sum_below-all, sum_below-single, sum_below-beyond, columns-le, le-columns, option-sum, times-sum, only-sum, sum-only, only-le, zero_unless, marked_threads, object-sum, sum-times, sum-waiting}

-- 1. Marks

-- a thread among those with a turnstile in a marked list is marked from the queue of one
marked_from : (c : Config) (u : ℕ) (ms : List Mark) → 1 ≤ times u (marked_threads c ms)
    → (q : QueueName) × (is_turnstile_queue c q ≡ true) × (1 ≤ times_marked u q ms)
marked_from c u [] l = absurd (omega arith)
marked_from c u (m ∷ ms) l = go (is_turnstile_queue c m.queue) refl l (marked_from c u ms)
  where
    later : (q : QueueName) × (is_turnstile_queue c q ≡ true) × (1 ≤ times_marked u q ms)
        → (q : QueueName) × (is_turnstile_queue c q ≡ true) × (1 ≤ times_marked u q (m ∷ ms))
    later r = (r.0, r.1, let a = r.2 in omega arith)

    go : (b : Bool) → is_turnstile_queue c m.queue ≡ b
        → 1 ≤ times u (cond b (m.thread ∷ marked_threads c ms) (marked_threads c ms))
        → (1 ≤ times u (marked_threads c ms)
        → (q : QueueName) × (is_turnstile_queue c q ≡ true) × (1 ≤ times_marked u q ms))
        → (q : QueueName) × (is_turnstile_queue c q ≡ true) × (1 ≤ times_marked u q (m ∷ ms))
    go false e i f = later (f i)
    go true e i f =
        elim (cases_eq u m.thread) [
          | inl x ↦ (m.queue, e, rw (is_queue_same m.queue, eq-eqb u m.thread x) (omega arith))
          | inr x ↦ later (f (let z : one (eqb u m.thread) ≡ 0 = ap one (ne_eqb u m.thread x) in omega arith))
        ]

-- where all its marks are from one queue, it has a mark from there for each turnstile
marked_at : (c : Config) (u : ℕ) (q : QueueName) (ms : List Mark)
    → ((r : QueueName) → (r ≡ q → ⊥) → times_marked u r ms ≡ 0) → times u (marked_threads c ms) ≤ times_marked u q ms
marked_at c u q [] h = omega arith
marked_at c u q (m ∷ ms) h = go (is_turnstile_queue c m.queue) (is_queue q m.queue) refl
    (marked_at c u q ms (λ r n. let a = h r n in omega arith))
  where
    go : (b d : Bool) → is_queue q m.queue ≡ d → times u (marked_threads c ms) ≤ times_marked u q ms
        → times u (cond b (m.thread ∷ marked_threads c ms) (marked_threads c ms)) ≤ one (d && eqb u m.thread)
        + times_marked u q ms
    go false d e i = omega arith
    go true true e i = omega arith
    go true false e i =
        let a = rw (is_queue_same m.queue) at (h m.queue
        (λ f. let k : is_queue q m.queue ≡ true = rw f (is_queue_same q) in let z : true ≡ false = sym k ∙ e in cc)) in
        omega arith

module _ (c : Config) (s : State) (h : Lawful c s) where
  -- 2. Each thread has its turnstile at home, stands at one, or is marked with one

  -- how often a thread stands at the turnstiles of the locks below m
  abbrev standing : ℕ → ℕ → ℕ
  standing m u = sum_below m (λ k. only (is_turnstile (c.kind k)) (stands u (s.lists (lock_queue k))))

  -- how often it is marked with a turnstile
  abbrev marks : ℕ → ℕ
  marks u = sum_below c.threads (λ t. times u (marked_threads c (s.marked t)))

  -- a thread whose record names no turnstile neither stands at one nor is marked with one
  unnamed : (m u : ℕ) → names_turnstile c (s.blocked_on u) ≡ false → standing m u + marks u ≡ 0
  unnamed m u e =
      let a = sum_below-zero m (λ k. only (is_turnstile (c.kind k)) (stands u (s.lists (lock_queue k))))
      (λ k l. stand k (is_turnstile (c.kind k)) refl) in
      let b = sum_below-zero c.threads (λ t. times u (marked_threads c (s.marked t))) mark in
      omega arith
    where
      other : (q : QueueName) → s.blocked_on u ≡ Some q → is_turnstile_queue c q ≡ true → ⊥
      other q n k =
          let a : names_turnstile c (s.blocked_on u) ≡ true = rw (n, k) refl in
          let z : true ≡ false = sym a ∙ e in
          cc

      stand : (k : ℕ) (b : Bool) → is_turnstile (c.kind k) ≡ b → only b (stands u (s.lists (lock_queue k))) ≡ 0
      stand k false i = refl
      stand k true i = zero_unless (stands u (s.lists (lock_queue k)))
          (λ a. other (lock_queue k) (standing_named c s u (lock_queue k) h a) i)

      mark : (t : ℕ) → t < c.threads → times u (marked_threads c (s.marked t)) ≡ 0
      mark t l = zero_unless (times u (marked_threads c (s.marked t)))
          (λ a. let r = marked_from c u (s.marked t) a in other r.0 (times_named c s u t r.0 h l r.2) r.1)

  -- one whose record names a turnstile does so once
  named_once : (m u x : ℕ) → s.blocked_on u ≡ Some (lock_queue x) → standing m u + marks u ≤ 1
  unfolding StandsOnce
  named_once m u x e =
      let a = sum_below-single m (λ k. only (is_turnstile (c.kind k)) (stands u (s.lists (lock_queue k)))) x stand in
      let b = only-le (is_turnstile (c.kind x)) (stands u (s.lists (lock_queue x))) in
      let d = sum_below-le c.threads (λ t. times u (marked_threads c (s.marked t)))
      (λ t. times_marked u (lock_queue x) (s.marked t)) (λ t l. marked_at c u (lock_queue x) (s.marked t) (mark t l)) in
      let f : at_queue (lock_queue x) (s.blocked_on u) ≡ 1 = rw e (one_same x) in
      omega (arith, h.waits.stands_once u (lock_queue x))
    where
      stand : (k : ℕ) → (x ≡ k → ⊥) → only (is_turnstile (c.kind k)) (stands u (s.lists (lock_queue k))) ≡ 0
      stand k n =
          let z = zero_unless (stands u (s.lists (lock_queue k)))
          (λ a. n (same_lock x k (sym e ∙ standing_named c s u (lock_queue k) h a))) in
          omega (arith, only-le (is_turnstile (c.kind k)) (stands u (s.lists (lock_queue k))))

      mark : (t : ℕ) → t < c.threads → (r : QueueName) → (r ≡ lock_queue x → ⊥) → times_marked u r (s.marked t) ≡ 0
      mark t l r n =
          zero_unless (times_marked u r (s.marked t)) (λ a. n (let z = sym (times_named c s u t r h l a) ∙ e in cc))

  placed_once : (m u : ℕ) → some (s.turnstile u) + standing m u + marks u ≤ 1
  unfolding TurnstileIsLent
  placed_once m u = go (s.blocked_on u) refl (names_turnstile c (s.blocked_on u)) refl
    where
      go : (o : Option QueueName) → s.blocked_on u ≡ o → (b : Bool) → names_turnstile c o ≡ b
          → some (s.turnstile u) + standing m u + marks u ≤ 1
      go o e false k = let a = unnamed m u (rw e k) in omega (arith, h.queues.turnstile_is_lent u)
      go (Some (Lock x)) e true k =
          let a = named_once m u x.0 e in
          let b : one (names_turnstile c (s.blocked_on u)) ≡ 1 = rw (e, k) refl in
          omega (arith, h.queues.turnstile_is_lent u)
      go (Some (Chan d)) e true k = absurd cc
      go None e true k = absurd cc

  -- 3. Turnstiles by place

  -- how many are at home, are lent at the locks below m, and are marked
  abbrev homes : ℕ
  homes = sum_below c.threads (λ t. some (s.turnstile t))

  abbrev lent : ℕ → ℕ
  lent m = sum_below m (λ k. only (is_turnstile (c.kind k)) (waiting (s.lists (lock_queue k))))

  abbrev all_marks : ℕ
  all_marks = sum_below c.threads (λ t. length (marked_threads c (s.marked t)))

  -- a lock has as many heads and free turnstiles as waiters
  heads_and_frees : sum_below c.locks (λ k. only (is_turnstile (c.kind k)) (some (s.head (lock_queue k))))
      + sum_below c.locks (λ k. only (is_turnstile (c.kind k)) (length (s.free_list (lock_queue k)))) ≡ lent c.locks
  unfolding HeadsFitWaiters
  heads_and_frees =
      let f : ℕ → ℕ = λ k. only (is_turnstile (c.kind k)) (some (s.head (lock_queue k))) in
      let g : ℕ → ℕ = λ k. only (is_turnstile (c.kind k)) (length (s.free_list (lock_queue k))) in
      let a = sum_below-same c.locks (λ k. f k + g k)
      (λ k. only (is_turnstile (c.kind k)) (waiting (s.lists (lock_queue k))))
      (λ k l. joined (is_turnstile (c.kind k)) _ _ _ (h.queues.heads_fit_waiters (lock_queue k)).balanced) in
      omega (arith, sum_below-add c.locks f g)
    where
      joined : (b : Bool) (x y z : ℕ) → y + x ≡ z → only b x + only b y ≡ only b z
      joined true x y z e = omega arith
      joined false x y z e = refl

  -- each thread's turnstile is somewhere
  turnstiles_placed : c.threads ≤ homes + lent c.locks + all_marks
  unfolding OneTurnstileEach turnstile_places
  turnstiles_placed =
      let n = c.threads in
      let at_home : ℕ → ℕ = λ j. sum_below n (λ t. at_option j (s.turnstile t)) in
      let at_head : ℕ
      → ℕ = λ j. sum_below c.locks (λ k. only (is_turnstile (c.kind k)) (at_option j (s.head (lock_queue k)))) in
      let in_free : ℕ
      → ℕ = λ j. sum_below c.locks (λ k. only (is_turnstile (c.kind k)) (times j (s.free_list (lock_queue k)))) in
      let in_mark : ℕ → ℕ = λ j. sum_below n (λ t. times_object c true j (s.marked t)) in
      let all = sum_below-all n (λ j. at_home j + at_head j + in_free j + in_mark j)
      (λ j l. let a : one (ltb j n) ≡ 1 = rw (lt-ltb j n l) refl in omega (arith, h.queues.one_turnstile_each j)) in
      let a = columns-le n n (λ j t. at_option j (s.turnstile t)) (λ t. some (s.turnstile t))
      (λ t l. option-sum n (s.turnstile t)) in
      let b = columns-le n c.locks (λ j k. only (is_turnstile (c.kind k)) (at_option j (s.head (lock_queue k))))
      (λ k. only (is_turnstile (c.kind k)) (some (s.head (lock_queue k))))
      (λ k l. only-sum n (is_turnstile (c.kind k)) (λ j. at_option j (s.head (lock_queue k)))
      (some (s.head (lock_queue k))) (option-sum n (s.head (lock_queue k)))) in
      let d = columns-le n c.locks (λ j k. only (is_turnstile (c.kind k)) (times j (s.free_list (lock_queue k))))
      (λ k. only (is_turnstile (c.kind k)) (length (s.free_list (lock_queue k))))
      (λ k l. only-sum n (is_turnstile (c.kind k)) (λ j. times j (s.free_list (lock_queue k)))
      (length (s.free_list (lock_queue k))) (times-sum n (s.free_list (lock_queue k)))) in
      let e = columns-le n n (λ j t. times_object c true j (s.marked t)) (λ t. length (marked_threads c (s.marked t)))
      (λ t l. object-sum c n (s.marked t)) in
      omega (
        arith,
        heads_and_frees,
        sum_below-add n (λ j. at_home j + at_head j + in_free j) in_mark,
        sum_below-add n (λ j. at_home j + at_head j) in_free,
        sum_below-add n at_home at_head,
      )

  -- each waiter is a thread, and so is each that is marked
  waiters_stand : (q : QueueName) → waiting (s.lists q) ≤ sum_below c.threads (λ u. stands u (s.lists q))
  waiters_stand q =
      let there = s.lists q in
      let a = sum-waiting c.threads there.exclusive (λ u i. standing_thread c s u q h (omega arith)) in
      let b = sum-waiting c.threads there.shared (λ u i. standing_thread c s u q h (omega arith)) in
      omega (arith, sum_below-add c.threads (λ u. times_waiting u there.exclusive) (λ u. times_waiting u there.shared))

  marked_stand : (t : ℕ) → t < c.threads
      → length (marked_threads c (s.marked t)) ≤ sum_below c.threads (λ u. times u (marked_threads c (s.marked t)))
  unfolding OnlyThreadsStand
  marked_stand t l = sum-times c.threads (marked_threads c (s.marked t))
      (λ u i. let r = marked_from c u (s.marked t) i in
      h.waits.only_threads_stand u r.0 (times_named c s u t r.0 h l r.2))

  -- so there are no more turnstiles in all these places than threads
  threads_placed : (m : ℕ) → homes + lent m + all_marks ≤ c.threads
  threads_placed m =
      let home : ℕ → ℕ = λ u. some (s.turnstile u) in
      let a = sum_below-most c.threads (λ u. home u + standing m u + marks u) (placed_once m) in
      let b = le-columns c.threads m (λ u k. only (is_turnstile (c.kind k)) (stands u (s.lists (lock_queue k))))
      (λ k. only (is_turnstile (c.kind k)) (waiting (s.lists (lock_queue k))))
      (λ k l. sum-only c.threads (is_turnstile (c.kind k)) (λ u. stands u (s.lists (lock_queue k)))
      (waiting (s.lists (lock_queue k))) (waiters_stand (lock_queue k))) in
      let d = le-columns c.threads c.threads (λ u t. times u (marked_threads c (s.marked t)))
      (λ t. length (marked_threads c (s.marked t))) marked_stand in
      omega
      (arith, sum_below-add c.threads (λ u. home u + standing m u) marks, sum_below-add c.threads home (standing m))

  pub beyond_none : (l : ℕ) → c.locks ≤ l → is_turnstile (c.kind l) ≡ true → waiting (s.lists (lock_queue l)) ≡ 0
  beyond_none l i k =
      let a = sum_below-beyond c.locks l (λ j. only (is_turnstile (c.kind j)) (waiting (s.lists (lock_queue j)))) i in
      let b : only (is_turnstile (c.kind l)) (waiting (s.lists (lock_queue l)))
      ≡ waiting (s.lists (lock_queue l)) = rw k refl in
      omega (arith, turnstiles_placed, threads_placed (suc l))

  -- and no more threads wait on a queue, of whichever sort, than the plan has, as each stands there once
  pub few_wait : (q : QueueName) → waiting (s.lists q) ≤ c.threads
  unfolding StandsOnce
  few_wait q = omega (
    arith,
    waiters_stand q,
    sum_below-most c.threads (λ u. stands u (s.lists q))
        (λ u. omega (arith, h.waits.stands_once u q, one_at (s.blocked_on u))),
  )
    where
      one_at : (o : Option QueueName) → at_queue q o ≤ 1
      one_at o = grind arith
