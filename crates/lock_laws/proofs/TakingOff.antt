-- The law of taking off. Waiters are taken off one side of a queue, of a lock or of a channel, and go to a thread's
-- marked list with an object each. Whichever the queue and its sort, who is taken and who is left, and whatever the
-- cause, what that could break is kept: places of objects, heads, the order of lists, and who stands. A word's bits and
-- callers, owners, loans and kept priorities are for the steps that change these.
use Rattle.lock_laws.proofs.Names
use Names.{ℕ, Bool, true, false, List, [], length, Option, None, refl, arith, some, Config, Waiter, Lists, Mark}
use Names.{Ascends, is_queue, is_turnstile_queue, list_of, with_list, times_waiting, stands, waiting, dealt, free_after}
use Names.{head_after, without, is_turnstile, Mtx, Side, X, S, QueueName, State, put, put_queue, with_marked, Lawful}
use Names.{OneTurnstileEach, OneSleepQueueEach, HeadsFitWaiters, ListsAscend, MutexWaitersAreExclusive, StandsOnce}
use Names.{times_object, turnstile_places, sleep_queue_places, times_marked, times_waiting-without, length-without}
use Names.{ascends-without}
use Rattle.std.proofs.Common.{◌≡◌, ◌+◌, ◌<◌, ◌≤◌, ◌∷◌}
use Rattle.lock_laws.proofs.Kit.{at_locks, sum_below-put}
use Rattle.lock_laws.proofs.Queues.{stands-with, waiting-with, BothAscend, ascends-with, times_marked-dealt, times_marked-elsewhere, length-after, headless-after}
use Rattle.lock_laws.proofs.Places.{IsThere, is_sort, on_queue, objects-dealt, taken_places}
use Rattle.lock_laws.proofs.OneQueue.{QueuesKept, SameElsewhere, other_queue, heads_put, stand_put}

-- 1. What is owed

-- who is taken off a list and who is left make up the whole
pub record Parts (ws taken left : List Waiter) : Type 0 where
  pub times : (t : ℕ) → times_waiting t taken + times_waiting t left ≡ times_waiting t ws
  pub counted : length taken + length left ≡ length ws
  pub ascends : Ascends ws → Ascends left

-- all, nobody, and one by its thread
pub all_taken : (ws : List Waiter) → Parts ws ws []
all_taken ws = record { times = λ t. omega arith; counted = omega arith; ascends = λ a. tt }

pub none_taken : (ws : List Waiter) → Parts ws [] ws
none_taken ws = record { times = λ t. omega arith; counted = omega arith; ascends = λ a. a }

pub one_taken : (w : Waiter) (ws : List Waiter) → 1 ≤ times_waiting w.thread ws
    → Parts ws (w ∷ []) (without w.thread ws)
one_taken w ws stands = record {
  times = λ t. omega (arith, times_waiting-without t w.thread ws stands);
  counted = omega (arith, length-without w.thread ws stands);
  ascends = ascends-without w.thread ws;
}

-- whom the thread takes off a side of the queue, and who is left there
pub record MayTakeOff (c : Config) (s : State) (t : ℕ) (q : QueueName) (side : Side)
    (taken left : List Waiter) : Type 0
  where
    pub thread : t < c.threads
    pub queue : IsThere c q
    pub parts : Parts (list_of side (s.lists q)) taken left

-- What they leave in the thread's marked list, on the free list and at the head: whatever the cause, each has one mark,
-- with an object of the queue
pub record Deals (c : Config) (s : State) (t : ℕ) (q : QueueName) (taken : List Waiter)
    (marks : List Mark) (free : List ℕ) (head : Option ℕ) : Type 0
  where
    pub each : (u : ℕ)
        → times_marked u q marks ≡ times_marked u q (s.marked t) + times_waiting u taken
    pub elsewhere : (u : ℕ) (r : QueueName) → is_queue r q ≡ false
        → times_marked u r marks ≡ times_marked u r (s.marked t)
    pub objects : (sort : Bool) (n : ℕ)
        → times_object c sort n marks + on_queue (is_sort sort (is_turnstile_queue c q)) n head free
        ≡ times_object c sort n (s.marked t)
        + on_queue (is_sort sort (is_turnstile_queue c q)) n (s.head q) (s.free_list q)
    pub counted : length free + some head + length taken ≡ length (s.free_list q) + some (s.head q)
    pub bare : head ≡ None → free ≡ []

-- 2. The law

-- what taking off makes of the state
abbrev pub after_taking_off : State → ℕ → QueueName → Lists → List ℕ → Option ℕ → List Mark
    → (QueueName → Option ℕ) → State
after_taking_off s t q lists free head marks owner = record s {
  lists = put_queue s.lists q lists;
  free_list = put_queue s.free_list q free;
  head = put_queue s.head q head;
  owner = owner;
  marked = put s.marked t marks;
}

-- of an empty list nobody is left
none_left : (ws taken left : List Waiter) → Parts ws taken left → ws ≡ [] → left ≡ []
none_left ws taken [] p e = refl
none_left ws taken (w ∷ left) p e = absurd (let n = rw e at p.counted in omega arith)

exclusive-left : (side : Side) (q : Lists) (taken left : List Waiter)
    → Parts (list_of side q) taken left → q.shared ≡ [] → (with_list side left q).shared ≡ []
exclusive-left X q taken left p e = e
exclusive-left S q taken left p e = none_left q.shared taken left p e

module _ {c : Config} {s : State} {t : ℕ} {q : QueueName} {side : Side} {taken left : List Waiter}
    (a : MayTakeOff c s t q side taken left) (h : Lawful c s)
  where
    abbrev lists : Lists
    lists = with_list side left (s.lists q)

    fewer : waiting lists + length taken ≡ waiting (s.lists q)
    fewer = omega (arith, waiting-with side left (s.lists q), a.parts.counted)

    less : (u : ℕ) → stands u lists + times_waiting u taken ≡ stands u (s.lists q)
    less u = omega (arith, stands-with side left (s.lists q) u, a.parts.times u)

    -- each of them has an object there
    pub fits : length taken ≤ length (s.free_list q) + some (s.head q)
    unfolding HeadsFitWaiters
    fits = omega (arith, fewer, (h.queues.heads_fit_waiters q).balanced)

    pub taking_off : {marks : List Mark} {free : List ℕ} {head : Option ℕ}
        → Deals c s t q taken marks free head → (owner : QueueName → Option ℕ)
        → SameElsewhere q owner s.owner → (head ≡ None → owner q ≡ None)
        → QueuesKept c (after_taking_off s t q lists free head marks owner)
    unfolding OneTurnstileEach OneSleepQueueEach turnstile_places sleep_queue_places
        HeadsFitWaiters ListsAscend MutexWaitersAreExclusive StandsOnce
    taking_off {marks} {free} {head} d owner same unowned =
        let places = λ (k : Bool) (n : ℕ). taken_places c s k n t q head free marks a.thread a.queue (d.objects k n) in
        let marked = λ (u : ℕ) (r : QueueName). sum_below-put c.threads (times_marked u r) s.marked t marks a.thread in
        record {
          one_turnstile = λ n. omega (arith, h.queues.one_turnstile_each n, places true n);
          one_sleep_queue = λ n. omega (arith, h.queues.one_sleep_queue_each n, places false n);
          heads = heads_put h q lists free head owner same (record {
            balanced = omega (arith, fewer, d.counted, (h.queues.heads_fit_waiters q).balanced);
            no_free = d.bare;
            no_owner = unowned;
          });
          ascend = at_locks (λ l. is_turnstile (c.kind l) ≡ true) BothAscend s.lists q lists
              (λ l e k. ascends-with side left (s.lists q) a.parts.ascends) h.queues.lists_ascend;
          mutex_waiters = at_locks (λ l. c.kind l ≡ Mtx) (λ v. v.shared ≡ []) s.lists q lists
              (λ l e m. exclusive-left side (s.lists q) taken left a.parts) h.queues.mutex_waiters_are_exclusive;
          stand = stand_put h q lists (put s.marked t marks) s.blocked_on
              (λ u. omega (arith, h.waits.stands_once u q, less u, d.each u, marked u q))
              (λ r e u. omega (arith, h.waits.stands_once u r, d.elsewhere u r (other_queue q r e), marked u r));
        }

    -- 3. By a signal, into a marked list that was empty

    pub deals_signal : s.marked t ≡ []
        → Deals c s t q taken (dealt q taken (s.free_list q) (s.head q))
        (free_after taken (s.free_list q)) (head_after taken (s.free_list q) (s.head q))
    unfolding HeadsFitWaiters
    deals_signal unmarked =
        let free = s.free_list q in
        let head = s.head q in
        record {
          each = λ u. rw unmarked (omega (arith, times_marked-dealt u q taken free head fits));
          elsewhere = λ u r e. rw unmarked (times_marked-elsewhere u r q e taken free head);
          objects = λ sort n. rw unmarked (omega (arith, objects-dealt c sort n q _ refl taken free head));
          counted = length-after taken free head fits;
          bare = headless-after taken free head (h.queues.heads_fit_waiters q).no_free;
        }

    pub by_signal : s.marked t ≡ [] → (owner : QueueName → Option ℕ) → SameElsewhere q owner s.owner
        → (head_after taken (s.free_list q) (s.head q) ≡ None → owner q ≡ None)
        → QueuesKept c (record (with_marked s t q lists taken) { owner = owner })
    by_signal unmarked = taking_off (deals_signal unmarked)
