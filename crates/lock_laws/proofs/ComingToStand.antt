-- The law of standing. A thread comes to stand on a queue, of a lock or of a channel, and lends it its own turnstile or
-- sleep queue. Whichever the queue, its sort and the rule by which waiters are put in, what that could break is kept:
-- places of objects, heads, the order of lists, who stands, and what those who stand want and are called for. A word's
-- bits and callers, owners, loans and kept priorities are for the steps that change these.
use Rattle.lock_laws.proofs.Names
use Names.{ℕ, suc, Bool, true, false, not, eqb, List, [], length, Option, Some, None, refl, sym, ap, subst, arith}
use Names.{is_empty, one, Config, Waiter, Lists, Ascends, is_turnstile_queue, names_turnstile, names_sleep_queue}
use Names.{lock_queue, list_of, with_list, times_waiting, stands, waiting, insert, head_with, free_with, with_last}
use Names.{is_turnstile, Mtx, Side, X, QueueName, Lock, Chan, State, Queued, put, with_waiter, Lawful, OneTurnstileEach}
use Names.{OneSleepQueueEach, TurnstileIsLent, SleepQueueIsLent, HeadsFitWaiters, ListsAscend, MutexWaitersAreExclusive}
use Names.{StandsOnce, OnlyThreadsStand, StandingIsQueued, StandingWants, WokenWants, CalledWants, StandingIsUncalled}
use Names.{WokenIsUncalled, HeadFits, turnstile_places, sleep_queue_places, times_waiting-insert, length-insert}
use Names.{ascends-insert, times_waiting-last, length-last}
use Rattle.std.proofs.Common.{◌≡◌, ◌+◌, ◌<◌, ◌∙◌}
use Rattle.lock_laws.proofs.Kit.{columns, at_locks, is_queue_same}
use Rattle.lock_laws.proofs.Queues.{stands-with, waiting-with, BothAscend, ascends-with}
use Rattle.lock_laws.proofs.Places.{IsThere, at_home, is_sort, lent, own_there, lent_places, lent_named}
use Rattle.lock_laws.proofs.OneQueue.{QueuesKept, SameElsewhere, other_queue, heads_put, stand_put}

-- 1. What is owed

-- a rule that puts one waiter more into a list and keeps the others, in a turnstile's in order
pub record IsInsertion (turnstile : Bool) (put_in : Waiter → List Waiter → List Waiter) : Type 0
  where
    pub times : (t : ℕ) (w : Waiter) (ws : List Waiter)
        → times_waiting t (put_in w ws) ≡ one (eqb t w.thread) + times_waiting t ws
    pub longer : (w : Waiter) (ws : List Waiter) → length (put_in w ws) ≡ suc (length ws)
    pub ascends : turnstile ≡ true → (w : Waiter) (ws : List Waiter)
        → Ascends ws → Ascends (put_in w ws)

pub before_greater : IsInsertion true insert
before_greater = record { times = times_waiting-insert; longer = length-insert; ascends = λ e. ascends-insert }

pub at_tail : IsInsertion false with_last
at_tail = record { times = times_waiting-last; longer = length-last; ascends = λ e. absurd cc }

-- where a waiter is put in the list isn't empty
pub some_stand : {turnstile : Bool} {put_in : Waiter → List Waiter → List Waiter}
    → IsInsertion turnstile put_in → (w : Waiter) (ws : List Waiter) → is_empty (put_in w ws) ≡ false
some_stand {put_in} rule w ws = go (put_in w ws) (rule.longer w ws)
  where
    go : (vs : List Waiter) → length vs ≡ suc (length ws) → is_empty vs ≡ false
    go vs e = grind arith

-- the queue is a mutex's
abbrev pub IsOfMutex : Config → QueueName → Type 0
IsOfMutex c (Lock l) = c.kind l.0 ≡ Mtx
IsOfMutex c (Chan d) = ⊥

-- the thread stands on no queue, and has its object x for this one
pub record MayStand (c : Config) (s : State) (t : ℕ) (q : QueueName) (turnstile : Bool)
    (side : Side) (x : ℕ) : Type 0
  where
    pub thread : t < c.threads
    pub queue : IsThere c q
    pub sort : is_turnstile_queue c q ≡ turnstile
    pub exclusive : IsOfMutex c q → side ≡ X
    pub queued : s.wait t ≡ Queued
    pub unnamed : s.blocked_on t ≡ None
    pub own : at_home s turnstile t ≡ Some x

-- 2. The law

-- on a lock's queue the thread wants the lock, on a channel's nothing
abbrev pub wanted_on : QueueName → Option ℕ
wanted_on (Lock l) = Some l.0
wanted_on (Chan d) = None

-- what standing makes of the state
abbrev pub after_standing : State → ℕ → QueueName → Bool → ℕ → Lists → (QueueName → Option ℕ)
    → State
after_standing s t q turnstile x lists owner = record (with_waiter s t q lists x) {
  owner = owner;
  turnstile = lent turnstile s.turnstile t;
  sleep_queue = lent (not turnstile) s.sleep_queue t;
  wanted = put s.wanted t (wanted_on q);
  called = put s.called t None;
}

-- and what is kept by it
pub record Stands (c : Config) (n : State) : Type 0 where
  pub queues : QueuesKept c n
  pub turnstile_lent : TurnstileIsLent c n.turnstile n.blocked_on
  pub sleep_queue_lent : SleepQueueIsLent c n.sleep_queue n.blocked_on
  pub threads_stand : OnlyThreadsStand c n.blocked_on
  pub standing_queued : StandingIsQueued n.blocked_on n.wait
  pub standing_wants : StandingWants n.blocked_on n.wanted
  pub woken_wants : WokenWants n.wait n.wanted
  pub called_wants : CalledWants n.called n.wanted
  pub standing_uncalled : StandingIsUncalled n.blocked_on n.called
  pub woken_uncalled : WokenIsUncalled n.wait n.called

-- the first waiter's object becomes the head, each later one's a free object
head_fits : (q lists : Lists) (free : List ℕ) (head o owner : Option ℕ) (x : ℕ)
    → waiting lists ≡ suc (waiting q) → HeadFits q free head o
    → HeadFits lists (free_with head x free) (head_with head x) owner
head_fits q lists free head o owner x more f = grind (arith, f.balanced)

wants_lock : (q : QueueName) (l : ℕ) → ◌≡◌ {A = Option QueueName} (Some q) (Some (lock_queue l))
    → wanted_on q ≡ Some l
wants_lock q l e = grind arith

module _ {c : Config} {s : State} {t : ℕ} {q : QueueName} {turnstile : Bool} {side : Side} {x : ℕ}
    {put_in : Waiter → List Waiter → List Waiter} (rule : IsInsertion turnstile put_in) (kept : ℕ)
    (a : MayStand c s t q turnstile side x) (h : Lawful c s)
  where
    abbrev new : Waiter
    new = record { thread = t; kept = kept }

    abbrev old : List Waiter
    old = list_of side (s.lists q)

    abbrev lists : Lists
    lists = with_list side (put_in new old) (s.lists q)

    longer : waiting lists ≡ suc (waiting (s.lists q))
    longer = omega (arith, waiting-with side (put_in new old) (s.lists q), rule.longer new old)

    more : (u : ℕ) → stands u lists ≡ one (eqb u t) + stands u (s.lists q)
    more u = omega (arith, stands-with side (put_in new old) (s.lists q) u, rule.times u new old)

    pub comes_to_stand : (owner : QueueName → Option ℕ) → SameElsewhere q owner s.owner
        → Stands c (after_standing s t q turnstile x lists owner)
    unfolding OneTurnstileEach OneSleepQueueEach turnstile_places sleep_queue_places TurnstileIsLent SleepQueueIsLent
        HeadsFitWaiters ListsAscend MutexWaitersAreExclusive StandsOnce OnlyThreadsStand StandingIsQueued
        StandingWants WokenWants CalledWants StandingIsUncalled WokenIsUncalled
    comes_to_stand owner same =
        let queued = a.queued in
        let unnamed = a.unnamed in
        let sorts = λ (k : Bool). ap (is_sort k) a.sort in
        let own = λ (k : Bool). own_there s t x k turnstile a.own in
        let places = λ (k : Bool) (n : ℕ). lent_places c s k n t q x a.thread a.queue _ (sorts k) (own k) in
        record {
          queues = record {
            one_turnstile = λ n. omega (arith, h.queues.one_turnstile_each n, places true n);
            one_sleep_queue = λ n. omega (arith, h.queues.one_sleep_queue_each n, places false n);
            heads = heads_put h q lists _ _ owner same (head_fits (s.lists q) lists (s.free_list q) (s.head q)
                (s.owner q) (owner q) x longer (h.queues.heads_fit_waiters q));
            ascend = at_locks (λ l. is_turnstile (c.kind l) ≡ true) BothAscend s.lists q lists
                (λ l e k. ascends-with side (put_in new old) (s.lists q)
                (rule.ascends (sym a.sort ∙ (ap (is_turnstile_queue c) e ∙ k)) new old)) h.queues.lists_ascend;
            mutex_waiters = at_locks (λ l. c.kind l ≡ Mtx) (λ v. v.shared ≡ []) s.lists q lists
                (λ l e m none. rw (a.exclusive (subst (IsOfMutex c) (sym e) m)) none)
                h.queues.mutex_waiters_are_exclusive;
            stand = stand_put h q lists s.marked (put s.blocked_on t (Some q))
                (λ u. grind (arith, columns, h.waits.stands_once u q, more u, is_queue_same q))
                (λ r e u. let f = other_queue q r e in grind (arith, columns, h.waits.stands_once u r));
          };
          turnstile_lent = lent_named (names_turnstile c) s.turnstile s.blocked_on t q refl unnamed
              h.queues.turnstile_is_lent turnstile a.sort;
          sleep_queue_lent = lent_named (names_sleep_queue c) s.sleep_queue s.blocked_on t q refl unnamed
              h.queues.sleep_queue_is_lent (not turnstile) (ap not a.sort);
          threads_stand = λ u r. grind (arith, columns, h.waits.only_threads_stand u r, a.thread);
          standing_queued = λ u r. grind (arith, columns, h.waits.standing_is_queued u r);
          standing_wants = λ u l. grind (arith, columns, h.waits.standing_wants u l, wants_lock q l);
          woken_wants = λ u l. grind (arith, columns, h.waits.woken_wants u l);
          called_wants = λ u l. grind (arith, columns, h.waits.called_wants u l);
          standing_uncalled = λ u r. grind (arith, columns, h.waits.standing_is_uncalled u r);
          woken_uncalled = λ u. grind (arith, columns, h.waits.woken_is_uncalled u);
        }
