-- What objects say of the columns of a state: the turnstiles and the sleep queues, in a chain each, of the columns by
-- queue, and a thread's record of those by thread. What the columns say of one queue, or of one thread's record, is one
-- value, so that "the others stay" is one equation.
use Rattle.std.specs.Prelude.{◌≡◌, ℕ, Bool, true, false, ◌≤◌, List, unwrap_or, option_map, Option, Some, None}
use Rattle.lock_model.specs.Config.{Config}
use Rattle.lock_model.specs.Words.{is_turnstile}
use Rattle.lock_state.specs.State as state
use Rattle.lock_state.specs.State.{State, Loan}
use Rattle.lock_model.specs.Queues.{Lists, Mark, Cause, BySignal, lock_queue, is_turnstile_queue}
use Rattle.lock_model.specs.declared.plan.QueueName.{QueueName}
use Rattle.wait_objects.specs.Seen as object
use Rattle.turnstile_core.specs.Seen.{Place, Contents, Turnstile, Terms}
use Rattle.turnstile_core.specs.Changes.{lists_of}
use Rattle.sleep_queues.specs.Seen.{SleepQueue}
use Rattle.thread_records.specs.Records.{Record}
use Rattle.thread_records.specs.Loans.{loan_for, loans_for}
use Rattle.chain_table.specs.Chains.{head_of}
use Rattle.lock_model.specs.Holds.{Hold, NotHeld, Holds}
use Rattle.lock_model.specs.declared.plan.Mode.{Mode}
use Rattle.prio_lending.specs.declared.walk.Walk as walks
use Rattle.prio_lending.specs.declared.walk.Walk.TheVariants as walk
use Rattle.lock_objects.specs.declared.wait.Wait as waits
use Rattle.lock_objects.specs.declared.wait.Wait.TheVariants as wait

-- 1. Turnstiles

-- what the columns say of a queue
pub record QueueColumns : Type 0 where
  pub head : Option ℕ
  pub lists : Lists
  pub free_list : List ℕ
  pub owner : Option ℕ

-- those of a state
abbrev pub queue_in : State → QueueName → QueueColumns
queue_in s q =
    record { head = s.head q; lists = s.lists q; free_list = s.free_list q; owner = s.owner q }

-- what the turnstile that is lent to a lock says of its queue
abbrev pub queue_of : Contents → QueueColumns
queue_of h =
    record { head = Some h.number; lists = lists_of h; free_list = h.free; owner = h.own.owner }

-- it says what the columns say, and so does its loan node
pub record RepresentsHead (h : Contents) (x : QueueColumns) (homes : ℕ → Bool) : Type 0 where
  pub queue : x ≡ queue_of h
  pub loan_home : homes h.number ≡ h.own.loan_home

-- where no turnstile is lent, the queue has no head
abbrev pub RepresentsQueue : Option Turnstile → QueueColumns → (ℕ → Bool) → Type 0
RepresentsQueue None x homes = x.head ≡ None
RepresentsQueue (Some h) x homes = RepresentsHead h.contents x homes

-- the chain has a turnstile for each lock of a kind with turnstiles of which the columns say that it has a head
pub record RepresentsQueues (c : Config) (chain : List (QueueName × Turnstile))
    (queues : QueueName → QueueColumns) (homes : ℕ → Bool) : Type 0 where
  pub lock : (l : ℕ) → is_turnstile (c.kind l) ≡ true
      → RepresentsQueue (head_of (lock_queue l) chain) (queues (lock_queue l)) homes

-- 2. Sleep queues

-- what the columns say of the queue of an sx lock or of a channel
pub record SleepColumns : Type 0 where
  pub head : Option ℕ
  pub lists : Lists
  pub free_list : List ℕ

-- those of a state
abbrev pub sleepers_in : State → QueueName → SleepColumns
sleepers_in s q = record { head = s.head q; lists = s.lists q; free_list = s.free_list q }

-- what the object that is lent to a lock or a channel says of it: a sleep queue no more, a turnstile its owner too
abbrev pub sleepers_of : {E : Type 0} → object.Contents E → SleepColumns
sleepers_of h = record { head = Some h.number; lists = lists_of h; free_list = h.free }

-- where no sleep queue is lent, the queue has no head
abbrev pub RepresentsSleepQueue : Option SleepQueue → SleepColumns → Type 0
RepresentsSleepQueue None x = x.head ≡ None
RepresentsSleepQueue (Some h) x = x ≡ sleepers_of h.contents

-- the chain has a sleep queue for each sx lock and channel of which the columns say that it has a head
pub record RepresentsSleepers (c : Config) (chain : List (QueueName × SleepQueue))
    (queues : QueueName → SleepColumns) : Type 0 where
  pub queue : (q : QueueName) → is_turnstile_queue c q ≡ false
      → RepresentsSleepQueue (head_of q chain) (queues q)

-- 3. Records

-- what the columns say of a thread's record
pub record RecordColumns : Type 0 where
  pub thread : ℕ
  pub base : ℕ
  pub effective : ℕ
  pub turnstile : Option ℕ
  pub sleep_queue : Option ℕ
  pub loan : ℕ → Option Loan
  pub blocked_on : Option QueueName

-- those of a state
abbrev pub record_in : State → ℕ → RecordColumns
record_in s t = record {
  thread = t;
  base = s.base t;
  effective = s.effective t;
  turnstile = s.turnstile t;
  sleep_queue = s.sleep_queue t;
  loan = s.loan t;
  blocked_on = s.blocked_on t;
}

-- the loan that a record has
abbrev pub loan_of : Terms → Loan
loan_of t = record { number = t.number; prio = t.prio }

-- what a record says
abbrev pub columns_of : Record → RecordColumns
columns_of r = record {
  thread = r.thread;
  base = r.base;
  effective = r.effective;
  turnstile = r.turnstile;
  sleep_queue = r.sleep_queue;
  loan = λ l. option_map loan_of (loan_for l r.loans);
  blocked_on = r.on;
}

-- a record says of its thread what the columns say, and has one loan for a lock at most
pub record RepresentsRecord (r : Record) (x : RecordColumns) : Type 0 where
  pub columns : columns_of r ≡ x
  pub one_loan_each : (l : ℕ) → loans_for l r.loans ≤ 1

-- 4. Waiters that were taken off

-- a waiter that was taken off a queue, by a signal or by an abort, with the object that it takes back
abbrev pub mark_by : Cause → QueueName → Place → Mark
mark_by cause q p =
    record { thread = p.thread; object = unwrap_or p.object 0; queue = q; cause = cause }

-- the same of one that a signal took off
abbrev pub mark_of : QueueName → Place → Mark
mark_of q p = mark_by BySignal q p

-- 5. Walks, wait words and holds

-- where a thread's walk stands
abbrev pub walk_of : walks.Walk → state.Walk
walk_of walk.None = state.NoWalk
walk_of (walk.AtLock l) = state.AtLock l.0
walk_of (walk.AtThread t) = state.AtThread t.0

-- what a thread's wait word says
abbrev pub wait_of : waits.Wait → state.Wait
wait_of wait.Running = state.Running
wait_of wait.Queued = state.Queued
wait_of (wait.Woken q) = state.Woken q BySignal

-- how a lock is held, where there is a mode
abbrev pub hold_of : Option Mode → Hold
hold_of None = NotHeld
hold_of (Some mode) = Holds mode
