-- What the taking off of one sleeper, whoever that is, makes of the chain of sleep queues.
use Rattle.std.specs.Prelude.{◌≡◌, ℕ, ◌<◌, ◌≤◌, false, if◌then◌else◌, List, [], ◌∷◌}
use Rattle.lock_model.specs.Config.{Config}
use Rattle.lock_model.specs.Counts.{is_empty}
use Rattle.lock_model.specs.Queues.{Waiter, is_turnstile_queue, list_of, with_list, times_waiting, stands, without as without_waiter, free_after, head_after}
use Rattle.lock_model.specs.declared.plan.QueueName.{QueueName}
use Rattle.lock_model.specs.declared.plan.Side.{Side}
use Rattle.lock_state.specs.State.{State}
use Rattle.sleep_queues.specs.Seen.{SleepQueue, Contents, Place}
use Rattle.sleep_queues.specs.Lists.{with_last}
use Rattle.sleep_queues.specs.Changes.{lists_of, all_waiters, taken, left_by, entries_of, without_thread}
use Rattle.chain_table.specs.Chains.{without}
use Rattle.lock_objects.specs.Represents.{SleepColumns, sleepers_in}
use Rattle.lock_objects.specs.Sleeps.{IsBalanced}

-- 1. What it asks

-- a thread sleeps once on a queue, on that side
pub record IsSleeper (c : Config) (s : State) (q : QueueName) (side : Side) (w : Waiter) : Type 0
  where
    pub sleeps : is_turnstile_queue c q ≡ false
    pub balanced : IsBalanced (sleepers_in s q)
    pub there : 0 < times_waiting w.thread (list_of side (s.lists q))
    pub once : stands w.thread (s.lists q) ≤ 1

-- 2. What it makes

-- the sleep queue without the thread
abbrev pub without_sleeper : ℕ → Contents → Contents
without_sleeper t h = left_by (entries_of t (lists_of h)) (without_thread t (lists_of h)) h

-- it alone is taken off: where nobody sleeps there any more, it takes the sleep queue itself
abbrev pub aborted_from : ℕ → Contents → List Place
aborted_from t h =
    if is_empty (all_waiters (without_sleeper t h))
    then with_last h.number (taken (entries_of t (lists_of h)) h)
    else taken (entries_of t (lists_of h)) h

-- the sleep queue is gone from the chain then; else it stays
abbrev pub chain_aborted : QueueName → ℕ → SleepQueue → List (QueueName × SleepQueue)
    → List (QueueName × SleepQueue)
chain_aborted q t h chain =
    if is_empty (all_waiters (without_sleeper t h.contents)) then without q chain
    else (q, record h { contents = without_sleeper t h.contents }) ∷ without q chain

-- and what the columns say of the queue
abbrev pub aborted : Side → Waiter → SleepColumns → SleepColumns
aborted side w a = record {
  head = head_after (w ∷ []) a.free_list a.head;
  lists = with_list side (without_waiter w.thread (list_of side a.lists)) a.lists;
  free_list = free_after (w ∷ []) a.free_list;
}
