-- What each call makes of a sleep queue, in the words of lock_model for the lists of a queue.
use Rattle.std.specs.Prelude.{◌≡◌, ◌≢◌, ◌↔◌, ℕ, Bool, List, [], ◌∷◌, ◌++◌, map, Some, None}
use Rattle.lock_model.specs.Queues.{Waiter as Waiting, Lists, with_list, with_last, handed_out, free_after, one_or_none, entry_of, without, taken_off, left_on}
use Rattle.lock_model.specs.declared.plan.Side.{Side}
use Rattle.lock_model.specs.declared.plan.QueueName.{QueueName}
use Rattle.wait_objects.specs.Seen.{Place}
use Rattle.wait_objects.specs.Lists.{place, LastHasNone, AllButLastHold}
use Rattle.wait_objects.specs.SleepQueues.Seen.{Contents}
pub use Rattle.wait_objects.specs.Changes.{lists_of, with_lists, waiters, with_waiters, all_waiters, waits}

-- the head for a queue, with one sleeper
abbrev pub begun : QueueName → Waiting → Side → Contents → Contents
begun q w side c = with_waiters side (w ∷ []) (record c { own = record { name = Some q } })

-- one more sleeper, at the tail, whose sleep queue goes first on the free list
abbrev pub joined : ℕ → Waiting → Side → Contents → Contents
joined n w side c =
    with_waiters side (with_last w (waiters side c)) (record c { free = n ∷ c.free })

-- sleepers that were taken off, each with the free sleep queue that it takes back, where one is left
abbrev pub taken : List Waiting → Contents → List Place
taken ws c = map place (handed_out ws c.free None)

-- what stays behind them: the lists without them, and what is left of the free list
abbrev pub left_by : List Waiting → Lists → Contents → Contents
left_by ws q c = with_lists q (record c { free = free_after ws c.free })

-- what a wake of the best sleeper of a side, or of all, leaves behind
abbrev pub without_woken : Bool → Side → Contents → Contents
without_woken all side c =
    left_by (taken_off all (waiters side c))
    (with_list side (left_on all (waiters side c)) (lists_of c)) c

-- the entries of a thread in both lists, of which there is at most one
abbrev pub entries_of : ℕ → Lists → List Waiting
entries_of t q = one_or_none (entry_of t q.exclusive) ++ one_or_none (entry_of t q.shared)

-- both lists without the thread's entry
abbrev pub without_thread : ℕ → Lists → Lists
without_thread t q = record { exclusive = without t q.exclusive; shared = without t q.shared }

-- Sleepers that were taken off a head, which is left behind as another: each but the last has a sleep queue, and the
-- last one has none exactly where nobody is left.
pub record AreTaken (ws : List Waiting) (c left : Contents) (ps : List Place) : Type 0 where
  pub taken : ps ≡ taken ws c
  pub others : AllButLastHold ps
  pub last : LastHasNone ps ↔ (ps ≢ []) × (all_waiters left ≡ [])
