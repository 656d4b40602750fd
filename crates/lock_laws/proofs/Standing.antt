-- Who stands on a queue or is marked in a lawful state, and where that thread's turnstile or sleep queue is.
use Rattle.lock_laws.proofs.Names
use Names.{ℕ, true, not, List, Option, Some, None, refl, sym, arith, eq-eqb, some, one, is_turnstile, Config, State}
use Names.{Mark, lock_queue, is_turnstile_queue, names_turnstile, names_sleep_queue, stands, Lawful, TurnstileIsLent}
use Names.{SleepQueueIsLent, StandsOnce, OnlyThreadsStand, times_marked, QueueName}
use Rattle.std.proofs.Common.{◌≡◌, ◌<◌, ◌≤◌, ◌∷◌, ◌∙◌}
use Rattle.lock_laws.proofs.Kit.{sum_below-at, is_queue_same, at_queue_one}
use Rattle.lock_laws.proofs.Sums.{zero_unless}

-- the record of a thread that stands on a queue names it
pub standing_named : (c : Config) (s : State) (t : ℕ) (q : QueueName) → Lawful c s → 1 ≤ stands t (s.lists q)
    → s.blocked_on t ≡ Some q
unfolding StandsOnce
standing_named c s t q h a = at_queue_one q (s.blocked_on t) (omega (arith, h.waits.stands_once t q))

-- so does that of a thread with a mark from there
pub times_named : (c : Config) (s : State) (t u : ℕ) (q : QueueName) → Lawful c s → u < c.threads
    → 1 ≤ times_marked t q (s.marked u) → s.blocked_on t ≡ Some q
unfolding StandsOnce
times_named c s t u q h lt a =
    let b = sum_below-at c.threads (λ v. times_marked t q (s.marked v)) u lt in
    at_queue_one q (s.blocked_on t) (omega (arith, h.waits.stands_once t q))

none_there : (o : Option ℕ) → some o ≡ 0 → o ≡ None
none_there o z = grind arith

-- where the record names a turnstile, the thread's own is out
pub named_out : (c : Config) (s : State) (t : ℕ) (q : QueueName) → Lawful c s → s.blocked_on t ≡ Some q
    → is_turnstile_queue c q ≡ true → s.turnstile t ≡ None
unfolding TurnstileIsLent
named_out c s t q h e k =
    let a : one (names_turnstile c (s.blocked_on t)) ≡ 1 = rw (e, k) refl in
    none_there (s.turnstile t) (omega (arith, h.queues.turnstile_is_lent t))

-- and where it names a sleep queue, the thread's own
pub asleep_out : (c : Config) (s : State) (t : ℕ) (q : QueueName) → Lawful c s → s.blocked_on t ≡ Some q
    → not (is_turnstile_queue c q) ≡ true → s.sleep_queue t ≡ None
unfolding SleepQueueIsLent
asleep_out c s t q h e k =
    let a : one (names_sleep_queue c (s.blocked_on t)) ≡ 1 = rw (e, k) refl in
    none_there (s.sleep_queue t) (omega (arith, h.queues.sleep_queue_is_lent t))

pub marked_named : (c : Config) (s : State) (t : ℕ) (m : Mark) (ms : List Mark) → Lawful c s → t < c.threads
    → s.marked t ≡ m ∷ ms → s.blocked_on m.thread ≡ Some m.queue
marked_named c s t m ms h lt e =
    times_named c s m.thread t m.queue h lt (rw (e, is_queue_same m.queue, eq-eqb m.thread m.thread refl) (omega arith))

pub marked_thread : (c : Config) (s : State) (t : ℕ) (m : Mark) (ms : List Mark) → Lawful c s → t < c.threads
    → s.marked t ≡ m ∷ ms → m.thread < c.threads
unfolding OnlyThreadsStand
marked_thread c s t m ms h lt e = h.waits.only_threads_stand m.thread m.queue (marked_named c s t m ms h lt e)

pub marked_out : (c : Config) (s : State) (t : ℕ) (m : Mark) (ms : List Mark) → Lawful c s → t < c.threads
    → s.marked t ≡ m ∷ ms → is_turnstile_queue c m.queue ≡ true → s.turnstile m.thread ≡ None
marked_out c s t m ms h lt e = named_out c s m.thread m.queue h (marked_named c s t m ms h lt e)

pub standing_thread : (c : Config) (s : State) (t : ℕ) (q : QueueName) → Lawful c s → 1 ≤ stands t (s.lists q)
    → t < c.threads
unfolding OnlyThreadsStand
standing_thread c s t q h a = h.waits.only_threads_stand t q (standing_named c s t q h a)

pub home_nowhere : (c : Config) (s : State) (t l h : ℕ) → Lawful c s → s.turnstile t ≡ Some h
    → is_turnstile (c.kind l) ≡ true → stands t (s.lists (lock_queue l)) ≡ 0
home_nowhere c s t l x h e k =
    zero_unless (stands t (s.lists (lock_queue l)))
    (λ a. let n = named_out c s t (lock_queue l) h (standing_named c s t (lock_queue l) h a) k in
    let f : None ≡ Some x = sym n ∙ e in cc)
