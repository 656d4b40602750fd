-- One queue changes, of a lock or of a channel: what the laws of standing and of taking off have in common.
use Rattle.lock_laws.proofs.Names
use Names.{ℕ, Bool, true, false, cond, List, Option, refl, subst, Config, sum_below, Lists, Mark, is_queue, stands}
use Names.{QueueName, State, put_queue, Lawful, OneTurnstileEach, OneSleepQueueEach, HeadsFitWaiters, ListsAscend}
use Names.{MutexWaitersAreExclusive, StandsOnce, HeadFits, at_queue, times_marked, arith}
use Rattle.std.proofs.Common.{◌≡◌, ◌+◌}
use Rattle.lock_laws.proofs.Kit.{at_put_queue, is_queue_true}

-- what is said of all queues alike: where objects are, heads, orders, and who stands
pub record QueuesKept (c : Config) (n : State) : Type 0 where
  pub one_turnstile : OneTurnstileEach c n.turnstile n.head n.free_list n.marked
  pub one_sleep_queue : OneSleepQueueEach c n.sleep_queue n.head n.free_list n.marked
  pub heads : HeadsFitWaiters n.lists n.free_list n.head n.owner
  pub ascend : ListsAscend c n.lists
  pub mutex_waiters : MutexWaitersAreExclusive c n.lists
  pub stand : StandsOnce c n.lists n.marked n.blocked_on

-- two columns differ at one queue at most
abbrev pub SameElsewhere : QueueName → (QueueName → Option ℕ) → (QueueName → Option ℕ) → Type 0
SameElsewhere q f g = (r : QueueName) → is_queue q r ≡ false → f r ≡ g r

pub other_queue : (q r : QueueName) → is_queue q r ≡ false → is_queue r q ≡ false
other_queue q r e = grind arith

module _ {c : Config} {s : State} (h : Lawful c s) (q : QueueName) (lists : Lists) where
  pub heads_put : (free : List ℕ) (head : Option ℕ) (owner : QueueName → Option ℕ)
      → SameElsewhere q owner s.owner → HeadFits lists free head (owner q)
      → HeadsFitWaiters (put_queue s.lists q lists) (put_queue s.free_list q free)
      (put_queue s.head q head) owner
  unfolding HeadsFitWaiters put_queue
  heads_put free head owner same here r = go (is_queue q r) refl
    where
      go : (b : Bool) → is_queue q r ≡ b
          → HeadFits (cond b lists (s.lists r)) (cond b free (s.free_list r))
          (cond b head (s.head r)) (owner r)
      go true e = subst (λ i. HeadFits lists free head (owner i)) (is_queue_true q r e) here
      go false e = rw (same r e) (h.queues.heads_fit_waiters r)

  module _ (marked : ℕ → List Mark) (blocked_on : ℕ → Option QueueName) where
    abbrev StandOnce : QueueName → Lists → Type 0
    StandOnce r v =
        (u : ℕ)
        → stands u v + sum_below c.threads (λ t. times_marked u r (marked t)) ≡ at_queue r (blocked_on u)

    pub stand_put : StandOnce q lists
        → ((r : QueueName) → is_queue q r ≡ false → StandOnce r (s.lists r))
        → StandsOnce c (put_queue s.lists q lists) marked blocked_on
    unfolding StandsOnce
    stand_put here there u r = at_put_queue StandOnce s.lists q lists here there r u
