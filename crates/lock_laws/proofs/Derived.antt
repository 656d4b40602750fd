-- What follows from the facts of a lawful state.
use Rattle.lock_laws.proofs.Names
use Names.{ℕ, true, not, List, Option, Some, None, refl, sym, ap, arith, is_empty, is_turnstile, shows_waiters, Config}
use Names.{State, Queued, Loan, Waiter, lock_queue, times_waiting, stands, waiting, Hold, NotHeld, Holds, value_at}
use Names.{Lawful, BitsShowWaiters, StandsOnce, StandingIsQueued, StandingWants, LoansAreOnHeads, TablesReplay}
use Names.{at_queue, best_behind, HasCycle, NobodyWalks, Excl, QueueName}
use Rattle.std.proofs.Common.{◌≡◌, ◌≢◌, ◌+◌, ◌<◌, ◌≤◌, ◌∙◌}
use Rattle.lock_laws.proofs.Kit.{at_queue_one}
use Rattle.lock_laws.proofs.Sections as sections
use Rattle.lock_laws.proofs.Shown.{lent_held}
use Rattle.lock_laws.proofs.Nodes.{some_waiting}
use Rattle.lock_laws.proofs.Best as best

pub tables : (c : Config) (s : State) (l k : ℕ) → Lawful c s → s.table l k ≡ value_at s.history l k
unfolding TablesReplay
tables c s l k h = h.books.tables_replay_logs l k

pub exclude : (c : Config) (s : State) (t u l : ℕ) → Lawful c s → s.held t l ≡ Holds Excl → s.held u l ≢ NotHeld → t ≡ u
exclude c s t u l h e n = go (s.held u l) refl
  where
    go : (x : Hold) → s.held u l ≡ x → t ≡ u
    go NotHeld f = absurd (n f)
    go (Holds mode) f = sections.apart c s h t u l mode e f

pub loans : (c : Config) (s : State) (t l : ℕ) (x : Loan) → Lawful c s → s.loan t l ≡ Some x
    → (is_turnstile (c.kind l) ≡ true) × (s.held t l ≡ Holds Excl) × (1 ≤ waiting (s.lists (lock_queue l)))
unfolding LoansAreOnHeads
loans c s t l x h e =
    let r = lent_held c s h t l x e in
    (r.0, r.1, some_waiting c s h l x.number (h.loans.loans_are_on_heads t l x e))

pub effective : (c : Config) (s : State) (t : ℕ) → Lawful c s → NobodyWalks c s → (HasCycle s → ⊥) → t < c.threads
    → s.effective t ≡ best_behind c s t
effective c s t h still free lt = best.effective_best c s h still t lt free

at_most_one : (q : QueueName) (o : Option QueueName) → at_queue q o ≤ 1
at_most_one q o = grind arith

-- a thread stands at most once, and on one queue
pub once : (c : Config) (s : State) (t : ℕ) (q : QueueName) → Lawful c s → stands t (s.lists q) ≤ 1
unfolding StandsOnce
once c s t q h = let a = at_most_one q (s.blocked_on t) in omega (arith, h.waits.stands_once t q)

pub one_queue : (c : Config) (s : State) (t : ℕ) (q r : QueueName) → Lawful c s → 1 ≤ stands t (s.lists q)
    → 1 ≤ stands t (s.lists r) → q ≡ r
unfolding StandsOnce
one_queue c s t q r h a b =
    let x = at_queue_one q (s.blocked_on t) (omega (arith, h.waits.stands_once t q)) in
    let y = at_queue_one r (s.blocked_on t) (omega (arith, h.waits.stands_once t r)) in
    let z : ◌≡◌ {A = Option QueueName} (Some q) (Some r) = sym x ∙ y in
    queue_of q r z
  where
    queue_or : QueueName → Option QueueName → QueueName
    queue_or d None = d
    queue_or d (Some i) = i

    queue_of : (q r : QueueName) → ◌≡◌ {A = Option QueueName} (Some q) (Some r) → q ≡ r
    queue_of q r e = ap (queue_or q) e

-- a thread that stands on a lock's queue is Queued, wants the lock, and the lock's word shows waiters
pub shown : (c : Config) (s : State) (t l : ℕ) → Lawful c s → 1 ≤ stands t (s.lists (lock_queue l))
    → (s.wait t ≡ Queued) × (s.wanted t ≡ Some l) × (shows_waiters (s.word l) ≡ true)
unfolding StandsOnce StandingIsQueued StandingWants BitsShowWaiters
shown c s t l h a =
    let x = at_queue_one (lock_queue l) (s.blocked_on t) (omega (arith, h.waits.stands_once t (lock_queue l))) in (
      h.waits.standing_is_queued t (lock_queue l) x,
      h.waits.standing_wants t l x,
      go (s.lists (lock_queue l)).exclusive (s.lists (lock_queue l)).shared (h.queues.bits_show_waiters l).exclusive
          (h.queues.bits_show_waiters l).shared a,
    )
  where
    go : (x y : List Waiter) → (s.word l).exclusive_waiters ≡ not (is_empty x) → (s.word l).shared_waiters
        ≡ not (is_empty y) → 1 ≤ times_waiting t x + times_waiting t y → shows_waiters (s.word l) ≡ true
    go x y e f i = grind arith
