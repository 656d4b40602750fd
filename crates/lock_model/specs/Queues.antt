-- The two lists of a queue and what is done with them: who stands where, the rule of insertion, how woken waiters get
-- their objects back, and the least kept priority.
use Rattle.std.specs.Prelude.{ℕ, ◌+◌, ◌≤◌, Bool, true, false, not, ◌==◌, nat_le, nat_lt, if◌then◌else◌, List, [], ◌∷◌, ◌++◌, length, drop, Option, Some, None, ⊤}
use Rattle.lock_model.specs.Counts.{one, lower}
use Rattle.lock_model.specs.Words.{is_turnstile}
use Rattle.lock_model.specs.Config.{Config}
use Rattle.lock_model.specs.declared.plan.Mode.{Mode}
use Rattle.lock_model.specs.declared.plan.Mode.TheVariants.{Excl, Shared}
use Rattle.lock_model.specs.declared.plan.Side.{Side}
use Rattle.lock_model.specs.declared.plan.Side.TheVariants.{X, S}
use Rattle.lock_model.specs.declared.plan.QueueName.{QueueName}
use Rattle.lock_model.specs.declared.plan.QueueName.TheVariants.{Lock, Chan}

-- 1. Queues and their waiters

-- why a waiter was taken off its queue
pub data Cause : Type 0 where
  BySignal : Cause
  ByAbort : Cause

-- a thread on a queue, and the priority by which the queue keeps it
pub record Waiter : Type 0 where
  pub thread : ℕ
  pub kept : ℕ

-- the two lists of a queue, each from its front
pub record Lists : Type 0 where
  pub exclusive : List Waiter
  pub shared : List Waiter

-- a thread that was taken off a queue and is still to be woken, with the turnstile or sleep queue that it takes back
pub record Mark : Type 0 where
  pub thread : ℕ
  pub object : ℕ
  pub queue : QueueName
  pub cause : Cause

-- whether two names are of the same queue
abbrev pub is_queue : QueueName → QueueName → Bool
is_queue (Lock l) (Lock k) = l.0 == k.0
is_queue (Chan c) (Chan d) = c.0 == d.0
is_queue (Lock l) (Chan d) = false
is_queue (Chan c) (Lock k) = false

-- the queue of a lock
abbrev pub lock_queue : ℕ → QueueName
lock_queue l = Lock (record { 0 = l })

-- the queue of a condition variable or channel
abbrev pub chan_queue : ℕ → QueueName
chan_queue d = Chan (record { 0 = d })

-- the queues of mutexes and rw locks are turnstiles, all others are sleep queues
abbrev pub is_turnstile_queue : Config → QueueName → Bool
is_turnstile_queue c (Lock l) = is_turnstile (c.kind l.0)
is_turnstile_queue c (Chan d) = false

-- whether a turnstile is named
abbrev pub names_turnstile : Config → Option QueueName → Bool
names_turnstile c None = false
names_turnstile c (Some q) = is_turnstile_queue c q

-- whether a sleep queue is named
abbrev pub names_sleep_queue : Config → Option QueueName → Bool
names_sleep_queue c None = false
names_sleep_queue c (Some q) = not (is_turnstile_queue c q)

-- 2. Sides

-- exclusive waiters wait on X and shared ones on S
abbrev pub side_of : Mode → Side
side_of Excl = X
side_of Shared = S

-- the list of a side
abbrev pub list_of : Side → Lists → List Waiter
list_of X q = q.exclusive
list_of S q = q.shared

-- the queue with another list on a side
abbrev pub with_list : Side → List Waiter → Lists → Lists
with_list X ws q = record q { exclusive = ws }
with_list S ws q = record q { shared = ws }

-- 3. Who stands

-- how often a thread stands in a list
abbrev pub times_waiting : ℕ → List Waiter → ℕ
times_waiting t [] = 0
times_waiting t (w ∷ ws) = one (t == w.thread) + times_waiting t ws

-- how often a thread stands on a queue
abbrev pub stands : ℕ → Lists → ℕ
stands t q = times_waiting t q.exclusive + times_waiting t q.shared

-- how many waiters a queue has
abbrev pub waiting : Lists → ℕ
waiting q = length q.exclusive + length q.shared

-- 4. A waiter more

-- before the first whose number is greater, so behind its equals
abbrev pub insert : Waiter → List Waiter → List Waiter
insert w [] = w ∷ []
insert w (v ∷ vs) = if nat_le v.kept w.kept then v ∷ insert w vs else w ∷ v ∷ vs

-- at the tail, so behind all others
abbrev pub with_last : Waiter → List Waiter → List Waiter
with_last w ws = ws ++ w ∷ []

-- the head, where the object x is lent: the first waiter's object becomes it
abbrev pub head_with : Option ℕ → ℕ → Option ℕ
head_with None x = Some x
head_with (Some h) x = Some h

-- the free list, where the object x is lent: each later waiter's object goes to its front
abbrev pub free_with : Option ℕ → ℕ → List ℕ → List ℕ
free_with None x xs = xs
free_with (Some h) x xs = x ∷ xs

-- 5. Waiters taken off a queue

-- What each takes back, in queue order: the first free object that is left, and behind these the head, where there is
-- one.
abbrev pub handed_out : List Waiter → List ℕ → Option ℕ → List (Waiter × Option ℕ)
handed_out [] xs h = []
handed_out (w ∷ ws) (x ∷ xs) h = (w, Some x) ∷ handed_out ws xs h
handed_out (w ∷ ws) [] h = (w, h) ∷ handed_out ws [] None

-- the marks of waiters that a signal takes off a queue, up to the first that takes nothing back
abbrev pub marks : QueueName → List (Waiter × Option ℕ) → List Mark
marks q [] = []
marks q ((w, None) ∷ ds) = []
marks q ((w, Some x) ∷ ds) =
    record { thread = w.thread; object = x; queue = q; cause = BySignal } ∷ marks q ds

-- Their marks, in queue order. Each gets the first free object, and the last of all the head.
abbrev pub dealt : QueueName → List Waiter → List ℕ → Option ℕ → List Mark
dealt q ws xs h = marks q (handed_out ws xs h)

-- the free list that is left
abbrev pub free_after : List Waiter → List ℕ → List ℕ
free_after ws xs = drop (length ws) xs

-- the head that is left
abbrev pub head_after : List Waiter → List ℕ → Option ℕ → Option ℕ
head_after [] xs h = h
head_after (w ∷ ws) [] h = None
head_after (w ∷ ws) (x ∷ xs) h = head_after ws xs h

-- 6. Who goes: a thread, the best, or all

-- the better of a sleeper and the best behind it: of equals the one that has slept longest
abbrev pub better : Waiter → Option Waiter → Waiter
better w None = w
better w (Some v) = if nat_lt v.kept w.kept then v else w

-- the most important sleeper
abbrev pub best_of : List Waiter → Option Waiter
best_of [] = None
best_of (w ∷ ws) = Some (better w (best_of ws))

abbrev pub one_or_none : Option Waiter → List Waiter
one_or_none None = []
one_or_none (Some w) = w ∷ []

-- a list without the thread's entry
abbrev pub without : ℕ → List Waiter → List Waiter
without t [] = []
without t (w ∷ ws) = if t == w.thread then ws else w ∷ without t ws

-- the thread's entry, where it has one
abbrev pub entry_of : ℕ → List Waiter → Option Waiter
entry_of t [] = None
entry_of t (w ∷ ws) = if t == w.thread then Some w else entry_of t ws

abbrev pub without_best : Option Waiter → List Waiter → List Waiter
without_best None ws = ws
without_best (Some w) ws = without w.thread ws

-- who is taken off, where all are woken or one
abbrev pub taken_off : Bool → List Waiter → List Waiter
taken_off true ws = ws
taken_off false ws = one_or_none (best_of ws)

-- who stays
abbrev pub left_on : Bool → List Waiter → List Waiter
left_on true ws = []
left_on false ws = without_best (best_of ws) ws

-- 7. Kept priorities

-- kept priorities ascend from the front
abbrev pub Ascends : List Waiter → Type 0
Ascends [] = ⊤
Ascends (w ∷ []) = ⊤
Ascends (w ∷ v ∷ ws) = (w.kept ≤ v.kept) × Ascends (v ∷ ws)

-- the least kept priority of a list
abbrev pub least_kept : List Waiter → Option ℕ
least_kept [] = None
least_kept (w ∷ ws) = Some (lower (least_kept ws) w.kept)

-- the lesser of two numbers that may be there
abbrev pub least_of_two : Option ℕ → Option ℕ → Option ℕ
least_of_two None o = o
least_of_two (Some p) o = Some (lower o p)

-- the least kept priority of both lists
abbrev pub least_of : Lists → Option ℕ
least_of q = least_of_two (least_kept q.exclusive) (least_kept q.shared)

-- a list in which the thread's entry, where it has one, is inserted anew with the priority
abbrev pub reinsert : ℕ → ℕ → List Waiter → List Waiter
reinsert t p ws =
    if times_waiting t ws == 0 then ws else insert (record { thread = t; kept = p }) (without t ws)

-- the same in both lists
abbrev pub with_kept : ℕ → ℕ → Lists → Lists
with_kept t p q = record { exclusive = reinsert t p q.exclusive; shared = reinsert t p q.shared }
