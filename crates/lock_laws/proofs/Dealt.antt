-- Marks of threads that were taken off a channel by a signal.
use Rattle.lock_laws.proofs.Names
use Names.{ℕ, true, eqb, List, [], map, length, Option, Some, None, refl, ap, arith, nat_tests, Config, sum_below, one}
use Names.{some, times, Waiter, Mark, is_queue, lock_queue, chan_queue, dealt, times_waiting, QueueName, State, Wake}
use Names.{put, Lawful, StandsOnce, times_marked, at_queue, is_chan, signals, signals_noted, AreSignals}
use Rattle.std.proofs.Common.{◌≡◌, ◌+◌, ◌<◌, ◌≤◌, ◌&&◌, ◌∷◌}
use Rattle.lock_laws.proofs.Kit.{put_same, put_other, sum_below-at, sum_below-change, sum_below-two, is_queue_same}
use Rattle.lock_laws.proofs.Standing.{times_named}

-- 1. Those that are dealt

pub no_signals_of_lock : (t l : ℕ) (ws : List Waiter) (xs : List ℕ) (h : Option ℕ)
    → signals t (dealt (lock_queue l) ws xs h) ≡ 0
no_signals_of_lock t l [] xs h = refl
no_signals_of_lock t l (w ∷ ws) [] None = refl
no_signals_of_lock t l (w ∷ ws) [] (Some h) = omega (arith, no_signals_of_lock t l ws [] None)
no_signals_of_lock t l (w ∷ ws) (x ∷ xs) h = omega (arith, no_signals_of_lock t l ws xs h)

pub signals-dealt : (t d : ℕ) (ws : List Waiter) (xs : List ℕ) (h : Option ℕ) → length ws ≤ length xs + some h
    → signals t (dealt (chan_queue d) ws xs h) ≡ times_waiting t ws
signals-dealt t d [] xs h p = refl
signals-dealt t d (w ∷ ws) [] None p = absurd (omega arith)
signals-dealt t d (w ∷ []) [] (Some h) p = refl
signals-dealt t d (w ∷ v ∷ ws) [] (Some h) p = absurd (omega arith)
signals-dealt t d (w ∷ ws) (x ∷ xs) h p = omega (arith, signals-dealt t d ws xs h (omega arith))

pub all_signals-dealt : (q : QueueName) (ws : List Waiter) (xs : List ℕ) (h : Option ℕ) → AreSignals (dealt q ws xs h)
all_signals-dealt q [] xs h = tt
all_signals-dealt q (w ∷ ws) [] None = tt
all_signals-dealt q (w ∷ ws) [] (Some h) = (refl, all_signals-dealt q ws [] None)
all_signals-dealt q (w ∷ ws) (x ∷ xs) h = (refl, all_signals-dealt q ws xs h)

pub times-map : (t : ℕ) (ws : List Waiter) → times t (map (λ w. w.thread) ws) ≡ times_waiting t ws
times-map t [] = refl
times-map t (w ∷ ws) = omega (arith, times-map t ws)

-- where there are objects enough, their marks name each of them
pub threads-dealt : (q : QueueName) (ws : List Waiter) (xs : List ℕ) (h : Option ℕ) → length ws ≤ length xs + some h
    → map (λ m. m.thread) (dealt q ws xs h) ≡ map (λ w. w.thread) ws
threads-dealt q [] xs h p = refl
threads-dealt q (w ∷ ws) [] None p = absurd (omega arith)
threads-dealt q (w ∷ []) [] (Some h) p = refl
threads-dealt q (w ∷ v ∷ ws) [] (Some h) p = absurd (omega arith)
threads-dealt q (w ∷ ws) (x ∷ xs) h p = ap (λ us. w.thread ∷ us) (threads-dealt q ws xs h (omega arith))

-- 2. Lists of noted wakes

-- how often a thread is in the lists of noted wakes by a signal from a channel
abbrev pub in_lists : ℕ → ℕ → (ℕ → Option Wake) → (ℕ → List Mark) → ℕ
in_lists n u unstamped marked = sum_below n (λ v. signals_noted u (unstamped v) (marked v))

-- one list is changed
pub marked_sum : (n t u : ℕ) (f : ℕ → Option Wake) (x : ℕ → List Mark) (ms : List Mark) → t < n
    → in_lists n u f (put x t ms) + signals_noted u (f t) (x t)
    ≡ in_lists n u f x + signals_noted u (f t) ms
marked_sum n t u f x ms lt =
    let e = ap (signals_noted u (f t)) (put_same x t ms) in
    let here = λ (v : ℕ) (ne : t ≡ v → ⊥). ap (signals_noted u (f v)) (put_other x t ms v ne) in
    omega
    (arith, sum_below-change n (λ v. signals_noted u (f v) (put x t ms v)) (λ v. signals_noted u (f v) (x v)) t lt here)

-- a wake begins, or is noted
pub unstamped_sum : (n t u : ℕ) (f : ℕ → Option Wake) (x : ℕ → List Mark) (w : Option Wake) → t < n
    → in_lists n u (put f t w) x + signals_noted u (f t) (x t)
    ≡ in_lists n u f x + signals_noted u w (x t)
unstamped_sum n t u f x w lt =
    let e = ap (λ y. signals_noted u y (x t)) (put_same f t w) in
    let here = λ (v : ℕ) (ne : t ≡ v → ⊥). ap (λ y. signals_noted u y (x v)) (put_other f t w v ne) in
    omega
    (arith, sum_below-change n (λ v. signals_noted u (put f t w v) (x v)) (λ v. signals_noted u (f v) (x v)) t lt here)

-- 3. Signals are marks

-- where each mark of a thread is from one queue, its signals are at most its marks from there
signals_at : (u : ℕ) (q : QueueName) (ms : List Mark)
    → ((r : QueueName) → 1 ≤ times_marked u r ms → r ≡ q) → signals u ms ≤ times_marked u q ms
signals_at u q [] f = omega arith
signals_at u q (m ∷ ms) f =
    let rest = signals_at u q ms (λ r l. f r (omega arith)) in
    grind (arith, nat_tests, f m.queue, is_queue_same m.queue)

module _ (c : Config) (s : State) (u : ℕ) (l : Lawful c s) where
  -- a thread is in marked lists from the queue that its record names
  pub signals_named : (q : QueueName) (v : ℕ) → v < c.threads → s.blocked_on u ≡ Some q
      → signals u (s.marked v) ≤ times_marked u q (s.marked v)
  signals_named q v lt e =
      signals_at u q (s.marked v) (λ r i. let a = times_named c s u v r l lt i in cc)

  -- a thread whose record names none is in no marked list
  pub signals_nowhere : (v : ℕ) → v < c.threads → s.blocked_on u ≡ None → signals u (s.marked v) ≡ 0
  signals_nowhere v lt e =
      grind (arith, signals_at u (chan_queue 0) (s.marked v) (λ r i. absurd (none r i)), none (chan_queue 0))
    where
      none : (r : QueueName) → 1 ≤ times_marked u r (s.marked v) → ⊥
      none r i = let a = times_named c s u v r l lt i in cc

  -- it is in one list at most, and there once
  pub marked_once : (q : QueueName) (v : ℕ) → v < c.threads → times_marked u q (s.marked v) ≤ 1
  unfolding StandsOnce
  marked_once q v lt =
      let a = sum_below-at c.threads (λ w. times_marked u q (s.marked w)) v lt in
      grind (arith, l.waits.stands_once u q, times_named c s u v q l lt, is_queue_same q)

  pub marked_nowhere_else : (q : QueueName) (v w : ℕ) → v < c.threads → w < c.threads
      → (v ≡ w → ⊥) → 1 ≤ times_marked u q (s.marked v) → times_marked u q (s.marked w) ≡ 0
  unfolding StandsOnce
  marked_nowhere_else q v w lt lw ne i =
      let a = ap (at_queue q) (times_named c s u v q l lt i) in
      let o = ap one (is_queue_same q) in
      let b = sum_below-two c.threads (λ x. times_marked u q (s.marked x)) v w lt lw ne in
      omega (arith, l.waits.stands_once u q)
