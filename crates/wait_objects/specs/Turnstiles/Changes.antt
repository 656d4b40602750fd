-- What each call makes of a turnstile, in the words of lock_model for the lists of a queue.
use Rattle.std.specs.Prelude.{ℕ, Bool, true, List, [], ◌∷◌, map, take, drop, Option, Some, None, option_map}
use Rattle.lock_model.specs.Queues.{Waiter as Waiting, lock_queue, insert, handed_out, least_of, with_kept}
use Rattle.lock_model.specs.declared.plan.Side.{Side}
use Rattle.lock_model.specs.declared.plan.QueueName.{QueueName}
use Rattle.wait_objects.specs.Seen.{Place}
use Rattle.wait_objects.specs.Lists.{place}
use Rattle.wait_objects.specs.Turnstiles.Seen.{Contents}
use Rattle.wait_objects.specs.Changes as object
pub use Rattle.wait_objects.specs.Changes.{lists_of, with_lists, waiters, with_waiters, all_waiters, waits}

-- the queue that a turnstile belongs to
abbrev pub name_of : Contents → Option QueueName
name_of c = option_map lock_queue c.own.lock

-- the turnstile with another lock, or none
abbrev pub with_lock : Option ℕ → Contents → Contents
with_lock o c = record c { own = record c.own { lock = o } }

-- the turnstile with another owner, or none
abbrev pub with_owner : Option ℕ → Contents → Contents
with_owner o c = record c { own = record c.own { owner = o } }

-- the turnstile with its loan node at home or out
abbrev pub with_loan_home : Bool → Contents → Contents
with_loan_home home c = record c { own = record c.own { loan_home = home } }

-- the head for a lock, with one waiter
abbrev pub begun : ℕ → Waiting → Side → Contents → Contents
begun l w side c = with_waiters side (w ∷ []) (with_lock (Some l) c)

-- one more waiter, whose turnstile goes first on the free list
abbrev pub joined : ℕ → Waiting → Side → Contents → Contents
joined n w side c = with_waiters side (insert w (waiters side c)) (record c { free = n ∷ c.free })

-- the first waiters of a side, so many, gone with as many free turnstiles
abbrev pub left_by : ℕ → Side → Contents → Contents
left_by k side c = with_waiters side (drop k (waiters side c)) (record c { free = drop k c.free })

-- the first waiters of a side, so many, each with the free turnstile that it takes back, where one is left
abbrev pub taken : ℕ → Side → Contents → List Place
taken k side c = map place (handed_out (take k (waiters side c)) c.free None)

-- a thread's waiter taken out of its list and inserted again with another priority
abbrev pub moved : ℕ → ℕ → Contents → Contents
moved t k c = with_lists (with_kept t k (lists_of c)) c

-- the least priority kept in either list
abbrev pub best : Contents → Option ℕ
best c = least_of (lists_of c)

-- what is true of each turnstile: its lists ascend, each thread waits once, and the free list is one shorter than
-- both lists together, or as empty as they are
abbrev pub IsWellFormed : Contents → Type 0
IsWellFormed c = object.IsWellFormed true c
