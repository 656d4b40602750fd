-- Facts of priorities: effective ones, owners with their loans, and those that queues keep.
use Rattle.std.specs.Prelude.{◌≡◌, ℕ, ◌<◌, Bool, true, false, ◌==◌, List, [], ◌∷◌, Option, Some, None, ⊤}
use Rattle.lock_model.specs.Counts.{sum_below, one}
use Rattle.lock_model.specs.Words.{Word, Holder, is_turnstile, owner_of}
use Rattle.lock_model.specs.History.{is_known}
use Rattle.lock_state.specs.Steps.LockWords.{prio_of, effective_of}
use Rattle.lock_model.specs.Config.{Config}
use Rattle.lock_model.specs.Queues.{Waiter, Lists, lock_queue, chan_queue, least_of}
use Rattle.lock_state.specs.State.{Loan, Walk, NoWalk, AtLock, AtThread}
use Rattle.lock_model.specs.declared.plan.QueueName.{QueueName}
use Rattle.lock_model.specs.declared.event.Entry.{Entry}

-- 1. Walks

-- 1 where a walk is at the lock
abbrev pub at_lock : ℕ → Walk → ℕ
at_lock l NoWalk = 0
at_lock l (AtLock k) = one (l == k)
at_lock l (AtThread t) = 0

-- 1 where a walk is at the thread
abbrev pub at_thread : ℕ → Walk → ℕ
at_thread t NoWalk = 0
at_thread t (AtLock k) = 0
at_thread t (AtThread u) = one (t == u)

-- how many walks are at the lock
unfoldable pub walkers_at_lock : Config → (ℕ → Walk) → ℕ → ℕ
walkers_at_lock c walk l = sum_below c.threads (λ t. at_lock l (walk t))

-- how many walks are at the thread
unfoldable pub walkers_at_thread : Config → (ℕ → Walk) → ℕ → ℕ
walkers_at_thread c walk o = sum_below c.threads (λ t. at_thread o (walk t))

-- 2. Effective priorities

-- a thread's effective priority is the least of its base and its loans
unfoldable pub EffectiveIsLeast : Config → (ℕ → ℕ) → (ℕ → ℕ) → (ℕ → ℕ → Option Loan) → Type 0
EffectiveIsLeast c effective base loan = (t : ℕ) → effective t ≡ effective_of c (loan t) (base t)

-- 3. Owners and loans

-- the owner that the turnstile of a lock has, by its head and the word's holder
abbrev pub owner_if : Bool → Option ℕ → Holder → Option ℕ
owner_if turnstile None h = None
owner_if true (Some x) h = owner_of h
owner_if false (Some x) h = None

-- a turnstile that stands at a lock has as owner the word's exclusive holder, or none where there is none; a sleep
-- queue has no owner
unfoldable pub OwnersHold : Config → (QueueName → Option ℕ) → (QueueName → Option ℕ) → (ℕ → Word)
    → Type 0
OwnersHold c owner head word =
    (l : ℕ) → owner (lock_queue l) ≡ owner_if (is_turnstile (c.kind l)) (head (lock_queue l))
    (word l).holder

-- nor has the sleep queue of a channel
unfoldable pub ChannelsHaveNoOwner : (QueueName → Option ℕ) → Type 0
ChannelsHaveNoOwner owner = (d : ℕ) → owner (chan_queue d) ≡ None

-- an owner's loan is the least kept priority of both lists, or some walk is at the lock
unfoldable pub LoansAreLeast : Config → (QueueName → Option ℕ) → (ℕ → Walk)
    → (ℕ → ℕ → Option Loan) → (QueueName → Lists) → Type 0
LoansAreLeast c owner walk loan lists =
    (l o : ℕ) → owner (lock_queue l) ≡ Some o → walkers_at_lock c walk l ≡ 0
    → prio_of (loan o l) ≡ least_of (lists (lock_queue l))

-- a loan for a lock is with the owner of the turnstile there
unfoldable pub LoansAreWithOwners : (ℕ → ℕ → Option Loan) → (QueueName → Option ℕ) → Type 0
LoansAreWithOwners loan owner =
    (t l : ℕ) (x : Loan) → loan t l ≡ Some x → owner (lock_queue l) ≡ Some t

-- and on the node of that turnstile
unfoldable pub LoansAreOnHeads : (ℕ → ℕ → Option Loan) → (QueueName → Option ℕ) → Type 0
LoansAreOnHeads loan head =
    (t l : ℕ) (x : Loan) → loan t l ≡ Some x → head (lock_queue l) ≡ Some x.number

-- 4. Kept priorities

-- of each waiter of a list
abbrev pub Each : (Waiter → Type 0) → List Waiter → Type 0
Each P [] = ⊤
Each P (w ∷ ws) = P w × Each P ws

-- of each waiter of both lists
abbrev pub EachOf : (Waiter → Type 0) → Lists → Type 0
EachOf P q = Each P q.exclusive × Each P q.shared

-- a kept priority is the thread's effective priority, where no walk is at the thread
abbrev pub IsKept : Config → (ℕ → Walk) → (ℕ → ℕ) → Waiter → Type 0
IsKept c walk effective w = walkers_at_thread c walk w.thread ≡ 0 → w.kept ≡ effective w.thread

-- each priority that a turnstile keeps is its thread's effective priority, or some walk is at that thread
unfoldable pub KeptIsEffective : Config → (ℕ → Walk) → (ℕ → ℕ) → (QueueName → Lists) → Type 0
KeptIsEffective c walk effective lists =
    (l : ℕ) → is_turnstile (c.kind l) ≡ true
    → EachOf (IsKept c walk effective) (lists (lock_queue l))

-- 5. Where priorities come from: each is, or was, some thread's base

-- p is, or was, the base priority of some thread
abbrev pub IsKnown : Config → List Entry → ℕ → Type 0
IsKnown c history p = is_known c history p ≡ true

-- each effective priority is known
unfoldable pub EffectiveIsKnown : Config → (ℕ → ℕ) → List Entry → Type 0
EffectiveIsKnown c effective history = (t : ℕ) → t < c.threads → IsKnown c history (effective t)

-- so is each loan
unfoldable pub LoansAreKnown : Config → (ℕ → ℕ → Option Loan) → List Entry → Type 0
LoansAreKnown c loan history = (t l : ℕ) (x : Loan) → loan t l ≡ Some x → IsKnown c history x.prio

-- and each kept priority
unfoldable pub KeptIsKnown : Config → (QueueName → Lists) → List Entry → Type 0
KeptIsKnown c lists history =
    (l : ℕ) → is_turnstile (c.kind l) ≡ true
    → EachOf (λ w. IsKnown c history w.kept) (lists (lock_queue l))
