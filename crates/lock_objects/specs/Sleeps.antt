-- What a thread that goes to stand on a sleep queue makes of its record and of the chain, and what the taking off of
-- sleepers makes of the chain.
use Rattle.std.specs.Prelude.{◌≡◌, ℕ, ◌+◌, Bool, if◌then◌else◌, List, [], ◌∷◌, length, Option, Some, None}
use Rattle.lock_model.specs.Counts.{is_empty, some}
use Rattle.lock_model.specs.Queues.{Waiter, list_of, with_list, with_last as with_last_waiter, head_with, free_with, free_after, head_after, taken_off, left_on, waiting}
use Rattle.lock_state.specs.State.{State, put_queue}
use Rattle.lock_model.specs.declared.plan.Side.{Side}
use Rattle.lock_model.specs.declared.plan.QueueName.{QueueName}
use Rattle.sleep_queues.specs.Seen.{SleepQueue, Contents, Place, idle}
use Rattle.sleep_queues.specs.Lists.{with_last}
use Rattle.sleep_queues.specs.Changes.{begun, joined, waiters, all_waiters, taken, without_woken}
use Rattle.thread_records.specs.Records.{Record}
use Rattle.chain_table.specs.Chains.{head_of, without}
use Rattle.lock_objects.specs.Represents.{SleepColumns, sleepers_in}

-- 1. What it asks

-- a queue has as many sleepers as sleep queues, and without a head it has neither
pub record IsBalanced (x : SleepColumns) : Type 0 where
  pub balanced : length x.free_list + some x.head ≡ waiting x.lists
  pub no_free : x.head ≡ None → x.free_list ≡ []

-- 2. What a thread that goes to stand makes

-- the thread of a record, as a sleeper
abbrev pub sleeper_of : Record → Waiter
sleeper_of r = record { thread = r.thread; kept = r.base }

-- the record with its sleep queue lent, and the queue named
abbrev pub record_asleep : QueueName → Record → Record
record_asleep q r = record r { sleep_queue = None; on = Some q }

-- the sleep queue with one sleeper more, whose own is x: x itself where none was there, and else x goes to the front of
-- its free list
abbrev pub head_asleep : QueueName → Side → ℕ → Waiter → Option SleepQueue → SleepQueue
head_asleep q side x w None =
    record { contents = begun q w side (idle x).contents; next = [] }
head_asleep q side x w (Some h) = record h { contents = joined x w side h.contents }

-- the chain with that sleep queue
abbrev pub chain_asleep : QueueName → Side → ℕ → Waiter → List (QueueName × SleepQueue)
    → List (QueueName × SleepQueue)
chain_asleep q side x w chain = (q, head_asleep q side x w (head_of q chain)) ∷ without q chain

-- and what the columns say of the queue
abbrev pub slept : Side → ℕ → Waiter → SleepColumns → SleepColumns
slept side x w a = record {
  head = head_with a.head x;
  lists = with_list side (with_last_waiter w (list_of side a.lists)) a.lists;
  free_list = free_with a.head x a.free_list;
}

-- 3. What a taking off makes

-- those that are taken off: where nobody sleeps there any more, the last of them takes the sleep queue itself
abbrev pub woken_from : Bool → Side → Contents → List Place
woken_from all side h =
    if is_empty (all_waiters (without_woken all side h))
    then with_last h.number (taken (taken_off all (waiters side h)) h)
    else taken (taken_off all (waiters side h)) h

abbrev pub woken_of : Bool → Side → Option SleepQueue → List Place
woken_of all side None = []
woken_of all side (Some h) = woken_from all side h.contents

-- the sleep queue is gone from the chain then; else it stays
abbrev pub chain_woken : QueueName → Bool → Side → Option SleepQueue
    → List (QueueName × SleepQueue) → List (QueueName × SleepQueue)
chain_woken q all side None chain = chain
chain_woken q all side (Some h) chain =
    if is_empty (all_waiters (without_woken all side h.contents)) then without q chain
    else (q, record h { contents = without_woken all side h.contents }) ∷ without q chain

-- and what the columns say of the queue
abbrev pub woken : Bool → Side → SleepColumns → SleepColumns
woken all side a =
    let ws : List Waiter = taken_off all (list_of side a.lists) in
    record {
      head = head_after ws a.free_list a.head;
      lists = with_list side (left_on all (list_of side a.lists)) a.lists;
      free_list = free_after ws a.free_list;
    }

-- 4. States

-- the sleep queues of a state are those of another, but for one
abbrev pub ChangesSleepers : State → State → QueueName → (SleepColumns → SleepColumns) → Type 0
ChangesSleepers s n q f = (r : QueueName)
    → sleepers_in n r ≡ put_queue (sleepers_in s) q (f (sleepers_in s q)) r
