-- Facts of waiting threads: where they stand, what they want, and who is called for a free lock.
use Rattle.std.specs.Prelude.{◌≡◌, ◌≢◌, ℕ, ◌+◌, ◌<◌, ◌≤◌, Bool, true, false, ◌&&◌, ◌==◌, List, [], ◌∷◌, Option, Some, None}
use Rattle.lock_model.specs.Counts.{sum_below, one, at_option}
use Rattle.lock_model.specs.Words.{Word, Holder, Free, HeldBy, SharedBy, shows_waiters}
use Rattle.lock_model.specs.Config.{Config}
use Rattle.lock_state.specs.State.{Wait, Running, Queued, Woken}
use Rattle.lock_model.specs.Queues.{Cause, BySignal, ByAbort, Lists, Mark, is_queue, lock_queue, stands}
use Rattle.lock_state.specs.Steps.LockWords.{is_woken}
use Rattle.lock_model.specs.declared.plan.Kind.TheVariants.{Mtx}
use Rattle.lock_model.specs.declared.plan.QueueName.{QueueName}

-- 1. Standing

-- how often a thread stands in a marked list from the queue
abbrev pub times_marked : ℕ → QueueName → List Mark → ℕ
times_marked t q [] = 0
times_marked t q (m ∷ ms) = one (is_queue q m.queue && (t == m.thread)) + times_marked t q ms

-- 1 where the queue is named
abbrev pub at_queue : QueueName → Option QueueName → ℕ
at_queue q None = 0
at_queue q (Some r) = one (is_queue q r)

-- a thread stands once on the queue that its record names, or is once in a marked list from there, and it is on no
-- other
unfoldable pub StandsOnce : Config → (QueueName → Lists) → (ℕ → List Mark)
    → (ℕ → Option QueueName) → Type 0
StandsOnce c lists marked blocked_on =
    (t : ℕ) (q : QueueName)
    → stands t (lists q) + sum_below c.threads (λ u. times_marked t q (marked u)) ≡ at_queue q
    (blocked_on t)

-- only the plan's threads stand on queues
unfoldable pub OnlyThreadsStand : Config → (ℕ → Option QueueName) → Type 0
OnlyThreadsStand c blocked_on = (t : ℕ) (q : QueueName) → blocked_on t ≡ Some q → t < c.threads

-- a thread whose record names a queue is Queued
unfoldable pub StandingIsQueued : (ℕ → Option QueueName) → (ℕ → Wait) → Type 0
StandingIsQueued blocked_on wait = (t : ℕ) (q : QueueName) → blocked_on t ≡ Some q → wait t ≡ Queued

-- a Queued thread whose record names no queue is about to stand on one, and has its own record out
unfoldable pub QueuedHasRecord : (ℕ → Wait) → (ℕ → Option QueueName) → (ℕ → Option ℕ) → Type 0
QueuedHasRecord wait blocked_on record_with =
    (t : ℕ) → wait t ≡ Queued → blocked_on t ≡ None → record_with t ≡ Some t

-- between two turns of a scheduled run, a Queued thread's record names the queue on which it stands, or from which it
-- is in a marked list
unfoldable pub QueuedStands : (ℕ → Wait) → (ℕ → Option QueueName) → Type 0
QueuedStands wait blocked_on = (t : ℕ) → wait t ≡ Queued → blocked_on t ≢ None

-- 2. Wanting

-- a thread that stands on a lock's queue, or is in a marked list from there, wants that lock
unfoldable pub StandingWants : (ℕ → Option QueueName) → (ℕ → Option ℕ) → Type 0
StandingWants blocked_on wanted = (t l : ℕ) → blocked_on t ≡ Some (lock_queue l) → wanted t ≡ Some l

-- a thread that was woken by a signal from a lock's queue wants that lock
unfoldable pub WokenWants : (ℕ → Wait) → (ℕ → Option ℕ) → Type 0
WokenWants wait wanted = (t l : ℕ) → wait t ≡ Woken (lock_queue l) BySignal → wanted t ≡ Some l

-- a thread that says that it is called for a lock wants it
unfoldable pub CalledWants : (ℕ → Option ℕ) → (ℕ → Option ℕ) → Type 0
CalledWants called wanted = (t l : ℕ) → called t ≡ Some l → wanted t ≡ Some l

-- a thread that stands on a queue does not say that it is called
unfoldable pub StandingIsUncalled : (ℕ → Option QueueName) → (ℕ → Option ℕ) → Type 0
StandingIsUncalled blocked_on called =
    (t : ℕ) (q : QueueName) → blocked_on t ≡ Some q → called t ≡ None

-- nor does one that is woken, until it resumes
unfoldable pub WokenIsUncalled : (ℕ → Wait) → (ℕ → Option ℕ) → Type 0
WokenIsUncalled wait called = (t : ℕ) → is_woken (wait t) ≡ true → called t ≡ None

-- 3. Calling

-- whether a waiter was taken off by a signal
abbrev pub is_signal : Cause → Bool
is_signal BySignal = true
is_signal ByAbort = false

-- how many marks call for the lock
abbrev pub calls_marked : ℕ → List Mark → ℕ
calls_marked l [] = 0
calls_marked l (m ∷ ms) =
    one (is_queue (lock_queue l) m.queue && is_signal m.cause) + calls_marked l ms

-- 1 where the wait word calls for the lock
abbrev pub calls_woken : ℕ → Wait → ℕ
calls_woken l Running = 0
calls_woken l Queued = 0
calls_woken l (Woken q cause) = one (is_queue (lock_queue l) q && is_signal cause)

-- how many are called for the lock: in a marked list by signal, woken by signal, or by their share
unfoldable pub callers : Config → (ℕ → List Mark) → (ℕ → Wait) → (ℕ → Option ℕ) → ℕ → ℕ
callers c marked wait called l =
    sum_below c.threads (λ t. calls_marked l (marked t)) + sum_below c.threads
    (λ t. calls_woken l (wait t)) + sum_below c.threads (λ t. at_option l (called t))

-- 1 where there is a holder
abbrev pub busy : Holder → ℕ
busy Free = 0
busy (HeldBy t) = 1
busy (SharedBy n) = 1

-- a free word that shows waiters has a thread that is called for the lock
unfoldable pub FreeWordHasCalled : Config → (ℕ → Word) → (ℕ → List Mark) → (ℕ → Wait)
    → (ℕ → Option ℕ) → Type 0
FreeWordHasCalled c word marked wait called =
    (l : ℕ) → one (shows_waiters (word l)) ≤ busy (word l).holder + callers c marked wait called l

-- a free mutex shows no waiters
unfoldable pub FreeMutexShowsNone : Config → (ℕ → Word) → Type 0
FreeMutexShowsNone c word =
    (l : ℕ) → c.kind l ≡ Mtx → one (shows_waiters (word l)) ≤ busy (word l).holder
