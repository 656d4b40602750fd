-- The sleep queues of threads, lent to keys or at home: who lies where, and that nothing is lost and nothing there
-- twice.
use Rattle.std.specs.Prelude.{◌≡◌, ◌≢◌, ℕ, zero, suc, ◌+◌, Bool, true, false, ◌||◌, ◌==◌, nat_lt, is_some, if◌then◌else◌, List, [], ◌∷◌, ◌++◌, length, slice_get, slice_set, unwrap_or, option_map, Option, None, Some, IsSome, ⊤}
use Rattle.lock_model.specs.Counts.{one, some, times, at_option, is_empty}
use Rattle.lock_model.specs.Queues.{Waiter, chan_queue, times_waiting, taken_off, left_on, one_or_none, entry_of, without, free_after}
use Rattle.lock_model.specs.declared.plan.QueueName.{QueueName}
use Rattle.lock_model.specs.declared.plan.Side.TheVariants.{X}
use Rattle.sleep_queues.specs.Seen.{SleepQueue, Contents, Place, idle}
use Rattle.sleep_queues.specs.Lists.{with_last}
use Rattle.sleep_queues.specs.Changes.{begun, joined, all_waiters, waits, taken}
use Rattle.wait_objects.specs.Seen.{Kept}
use Rattle.chain_table.specs.Chains.{head_of}
use Rattle.tick_sleep.specs.declared.who.Who.{Who}
use Rattle.tick_sleep.specs.declared.who.Who.TheVariants.{Best, All, Thread}

-- 1. What there is

-- the sleep queues that are lent, by the names of their queues, and by thread what it has at home, if anything
pub record Table : Type 0 where
  pub chain : List (QueueName × SleepQueue)
  pub homes : List (Option Kept)

abbrev pub lying_at : Option SleepQueue → List Waiter
lying_at None = []
lying_at (Some h) = h.contents.exclusive

-- who lies on a key, in order of arrival
abbrev pub lying : ℕ → Table → List Waiter
lying key a = lying_at (head_of (chan_queue key) a.chain)

abbrev pub home_at : ℕ → List (Option Kept) → Option Kept
home_at t homes = unwrap_or (slice_get homes t) None

-- whether a thread's node is at home
abbrev pub is_home : ℕ → Table → Bool
is_home t a = is_some (home_at t a.homes)

-- 2. Where it is

-- how often a thread's node lies in a queue
abbrev pub times_lying : ℕ → List (QueueName × SleepQueue) → ℕ
times_lying t [] = 0
times_lying t (e ∷ es) = times_waiting t e.1.contents.exclusive + times_lying t es

-- the sleep queues of a key: that which is its head, and those on its free list
abbrev pub lent : Contents → List ℕ
lent h = h.number ∷ h.free

-- how often a sleep queue is lent
abbrev pub times_lent : ℕ → List (QueueName × SleepQueue) → ℕ
times_lent x [] = 0
times_lent x (e ∷ es) = times x (lent e.1.contents) + times_lent x es

-- how often it is at home
abbrev pub times_home : ℕ → List (Option Kept) → ℕ
times_home x [] = 0
times_home x (o ∷ os) = at_option x (option_map (λ k. k.object) o) + times_home x os

-- somebody lies on a queue that has a head, and its other side isn't used
abbrev pub AreHeads : List (QueueName × SleepQueue) → Type 0
AreHeads [] = ⊤
AreHeads (e ∷ es) = (e.1.contents.exclusive ≢ []) × (e.1.contents.shared ≡ []) × AreHeads es

pub record IsSound (a : Table) : Type 0 where
  -- each thread's node is in exactly one place: at home, or in one queue
  pub one_place_each_node : (t : ℕ) → some (home_at t a.homes) + times_lying t a.chain
      ≡ one (nat_lt t (length a.homes))
  -- each sleep queue is in exactly one place: at home, the head of a key, or on the free list of one
  pub one_place_each : (x : ℕ) → times_home x a.homes + times_lent x a.chain
      ≡ one (nat_lt x (length a.homes))
  -- a node at home is the thread's own
  pub own_nodes : (t : ℕ) (k : Kept) → home_at t a.homes ≡ Some k → k.thread ≡ t
  pub heads : AreHeads a.chain

-- 3. How it is made

-- so many threads, each with its own sleep queue at home
abbrev pub homes_of : ℕ → List (Option Kept)
homes_of zero = []
homes_of (suc n) = homes_of n ++ Some (record { object = n; thread = n }) ∷ []

-- nobody lies down
abbrev pub made_table : ℕ → Table
made_table threads = record { chain = []; homes = homes_of threads }

-- 4. A thread lies down

-- where somebody lies on the key the thread isn't there
abbrev pub CanJoin : ℕ → Option SleepQueue → Type 0
CanJoin t None = ⊤
CanJoin t (Some h) = (all_waiters h.contents ≢ []) × (waits t h.contents ≡ false)

-- the head of a key with one more, whose sleep queue is x: it becomes the head where there is none
abbrev pub head_joined : QueueName → ℕ → Waiter → Option SleepQueue → SleepQueue
head_joined q x w None = record { contents = begun q w X (idle x).contents; next = [] }
head_joined q x w (Some h) = record h { contents = joined x w X h.contents }

-- 5. Threads get up

-- who of a queue
abbrev pub off : Who → List Waiter → List Waiter
off Best ws = taken_off false ws
off All ws = taken_off true ws
off (Thread t) ws = one_or_none (entry_of t.0 ws)

-- who stays there
abbrev pub staying : Who → List Waiter → List Waiter
staying Best ws = left_on false ws
staying All ws = left_on true ws
staying (Thread t) ws = without t.0 ws

-- the head of a key without them
abbrev pub left_by : Who → Contents → Contents
left_by who c = record c {
  exclusive = staying who c.exclusive;
  free = free_after (off who c.exclusive) c.free;
}

-- those that were taken off, each with a sleep queue: the last of them with the head's own where nobody stays
abbrev pub gone : Who → Contents → List Place
gone who c =
    if is_empty (staying who c.exclusive) then with_last c.number (taken (off who c.exclusive) c)
    else taken (off who c.exclusive) c

-- what a thread has at home that took a sleep queue back
abbrev pub kept_by : Place → Option Kept
kept_by p = option_map (λ x. record { object = x; thread = p.thread }) p.object

-- homes to which those went
abbrev pub homes_with : List Place → List (Option Kept) → List (Option Kept)
homes_with [] homes = homes
homes_with (p ∷ ps) homes = homes_with ps (slice_set homes p.thread (kept_by p))

-- each of them has a sleep queue, and nothing at home
abbrev pub CanGoHome : List Place → List (Option Kept) → Type 0
CanGoHome [] homes = ⊤
CanGoHome (p ∷ ps) homes =
    IsSome p.object × (slice_get homes p.thread ≡ Some None)
    × CanGoHome ps (slice_set homes p.thread (kept_by p))

-- the first of a list's threads
abbrev pub first_thread : List Waiter → Option ℕ
first_thread [] = None
first_thread (w ∷ ws) = Some w.thread

abbrev pub first_place : List Place → Option ℕ
first_place [] = None
first_place (p ∷ ps) = Some p.thread

-- some of those that lie on a key got up, and nothing else changed
pub record Wakes (old new : Table) (key : ℕ) (who : Who) : Type 0 where
  pub queues : (k : ℕ) → lying k new
      ≡ (if key == k then staying who (lying k old) else lying k old)
  pub homes : (u : ℕ) → is_home u new
      ≡ (is_home u old || nat_lt 0 (times_waiting u (off who (lying key old))))
  pub size : length new.homes ≡ length old.homes
