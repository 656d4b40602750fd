-- Facts of queues: where turnstiles, sleep queues and loan nodes are, heads and free lists, waiters' bits, and the
-- order of lists. A fact reads the columns that it names, and no others, so that a step which leaves these alone
-- keeps it.
use Rattle.std.specs.Prelude.{◌≡◌, ℕ, ◌+◌, Bool, true, false, not, ◌&&◌, ◌==◌, nat_lt, List, [], ◌∷◌, length, Option, Some, None}
use Rattle.lock_model.specs.Counts.{sum_below, one, some, at_option, times, is_empty}
use Rattle.lock_model.specs.Words.{Word, is_turnstile}
use Rattle.lock_model.specs.Config.{Config}
use Rattle.lock_model.specs.Queues.{Lists, Mark, lock_queue, chan_queue, is_turnstile_queue, names_turnstile, names_sleep_queue, waiting}
pub use Rattle.lock_model.specs.Queues.{Ascends}
use Rattle.lock_state.specs.State.{Loan}
use Rattle.lock_model.specs.declared.plan.Kind.TheVariants.{Mtx}
use Rattle.lock_model.specs.declared.plan.QueueName.{QueueName}

-- 1. Places

-- the number, where the condition holds, else 0
abbrev pub only : Bool → ℕ → ℕ
only true n = n
only false n = 0

-- how often an object of a sort, a turnstile or a sleep queue, stands in a marked list
abbrev pub times_object : Config → Bool → ℕ → List Mark → ℕ
times_object c turnstile n [] = 0
times_object c true n (m ∷ ms) =
    only (is_turnstile_queue c m.queue) (one (n == m.object)) + times_object c true n ms
times_object c false n (m ∷ ms) =
    only (not (is_turnstile_queue c m.queue)) (one (n == m.object)) + times_object c false n ms

-- how often a turnstile is in a record, a head, a free list or a marked list
unfoldable pub turnstile_places : Config → (ℕ → Option ℕ) → (QueueName → Option ℕ)
    → (QueueName → List ℕ) → (ℕ → List Mark) → ℕ → ℕ
turnstile_places c turnstile head free_list marked n =
    sum_below c.threads (λ t. at_option n (turnstile t))
    + sum_below c.locks (λ l. only (is_turnstile (c.kind l)) (at_option n (head (lock_queue l))))
    + sum_below c.locks (λ l. only (is_turnstile (c.kind l)) (times n (free_list (lock_queue l))))
    + sum_below c.threads (λ t. times_object c true n (marked t))

-- the same of a sleep queue
unfoldable pub sleep_queue_places : Config → (ℕ → Option ℕ) → (QueueName → Option ℕ)
    → (QueueName → List ℕ) → (ℕ → List Mark) → ℕ → ℕ
sleep_queue_places c sleep_queue head free_list marked n =
    sum_below c.threads (λ t. at_option n (sleep_queue t))
    + sum_below c.locks (λ l. only (not (is_turnstile (c.kind l)))
    (at_option n (head (lock_queue l))))
    + sum_below c.locks (λ l. only (not (is_turnstile (c.kind l)))
    (times n (free_list (lock_queue l))))
    + sum_below c.chans (λ d. at_option n (head (chan_queue d)))
    + sum_below c.chans (λ d. times n (free_list (chan_queue d)))
    + sum_below c.threads (λ t. times_object c false n (marked t))

-- each thread's turnstile is in exactly one place, and no other number is in any
unfoldable pub OneTurnstileEach : Config → (ℕ → Option ℕ) → (QueueName → Option ℕ)
    → (QueueName → List ℕ) → (ℕ → List Mark) → Type 0
OneTurnstileEach c turnstile head free_list marked =
    (n : ℕ) → turnstile_places c turnstile head free_list marked n ≡ one (nat_lt n c.threads)

-- each thread's sleep queue is in exactly one place, and no other number is in any
unfoldable pub OneSleepQueueEach : Config → (ℕ → Option ℕ) → (QueueName → Option ℕ)
    → (QueueName → List ℕ) → (ℕ → List Mark) → Type 0
OneSleepQueueEach c sleep_queue head free_list marked =
    (n : ℕ) → sleep_queue_places c sleep_queue head free_list marked n ≡ one (nat_lt n c.threads)

-- 1 where the loan is on the node
abbrev pub at_loan : ℕ → Option Loan → ℕ
at_loan n None = 0
at_loan n (Some loan) = one (n == loan.number)

-- how many loans are on a node
unfoldable pub loans_on : Config → (ℕ → ℕ → Option Loan) → ℕ → ℕ
loans_on c loan n = sum_below c.threads (λ t. sum_below c.locks (λ l. at_loan n (loan t l)))

-- each turnstile's loan node is in exactly one place, its turnstile or a record, and no other number is in any
unfoldable pub OneNodeEach : Config → (ℕ → Bool) → (ℕ → ℕ → Option Loan) → Type 0
OneNodeEach c loan_home loan =
    (n : ℕ) → one (nat_lt n c.threads && loan_home n) + loans_on c loan n ≡ one (nat_lt n c.threads)

-- a thread's turnstile is at home, or its record names a turnstile
unfoldable pub TurnstileIsLent : Config → (ℕ → Option ℕ) → (ℕ → Option QueueName) → Type 0
TurnstileIsLent c turnstile blocked_on =
    (t : ℕ) → some (turnstile t) + one (names_turnstile c (blocked_on t)) ≡ 1

-- a thread's sleep queue is at home, or its record names a sleep queue
unfoldable pub SleepQueueIsLent : Config → (ℕ → Option ℕ) → (ℕ → Option QueueName) → Type 0
SleepQueueIsLent c sleep_queue blocked_on =
    (t : ℕ) → some (sleep_queue t) + one (names_sleep_queue c (blocked_on t)) ≡ 1

-- 2. Heads

-- a queue has a head exactly where it has a waiter, and one free object fewer than waiters; without a head it has no
-- owner
pub record HeadFits (lists : Lists) (free : List ℕ) (head owner : Option ℕ) : Type 0 where
  pub balanced : length free + some head ≡ waiting lists
  pub no_free : head ≡ None → free ≡ []
  pub no_owner : head ≡ None → owner ≡ None

-- that of each queue
unfoldable pub HeadsFitWaiters : (QueueName → Lists) → (QueueName → List ℕ)
    → (QueueName → Option ℕ) → (QueueName → Option ℕ) → Type 0
HeadsFitWaiters lists free_list head owner =
    (q : QueueName) → HeadFits (lists q) (free_list q) (head q) (owner q)

-- 3. Bits

-- a word shows the waiters of a side exactly where that list isn't empty
pub record ShowsItsWaiters (w : Word) (lists : Lists) : Type 0 where
  pub exclusive : w.exclusive_waiters ≡ not (is_empty lists.exclusive)
  pub shared : w.shared_waiters ≡ not (is_empty lists.shared)

-- that of each lock
unfoldable pub BitsShowWaiters : (ℕ → Word) → (QueueName → Lists) → Type 0
BitsShowWaiters word lists = (l : ℕ) → ShowsItsWaiters (word l) (lists (lock_queue l))

-- 4. Lists

-- each list of a turnstile ascends by kept priority
unfoldable pub ListsAscend : Config → (QueueName → Lists) → Type 0
ListsAscend c lists =
    (l : ℕ) → is_turnstile (c.kind l) ≡ true
    → Ascends (lists (lock_queue l)).exclusive × Ascends (lists (lock_queue l)).shared

-- nobody waits shared for a mutex
unfoldable pub MutexWaitersAreExclusive : Config → (QueueName → Lists) → Type 0
MutexWaitersAreExclusive c lists = (l : ℕ) → c.kind l ≡ Mtx → (lists (lock_queue l)).shared ≡ []
