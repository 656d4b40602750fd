-- What a thread that goes to stand on a turnstile makes of its record and of the chain.
use Rattle.std.specs.Prelude.{◌≡◌, ◌≢◌, ℕ, true, false, List, [], ◌∷◌, Option, Some, None, ⊤}
use Rattle.lock_model.specs.Config.{Config}
use Rattle.lock_model.specs.Words.{is_turnstile}
use Rattle.lock_model.specs.Queues.{Waiter, lock_queue}
use Rattle.lock_state.specs.State.{State}
use Rattle.lock_model.specs.declared.plan.Side.{Side}
use Rattle.lock_model.specs.declared.plan.QueueName.{QueueName}
use Rattle.turnstile_core.specs.Seen.{Turnstile, idle_contents}
use Rattle.turnstile_core.specs.Changes.{with_owner, begun, joined}
use Rattle.wait_objects.specs.Seen.{Object}
use Rattle.wait_objects.specs.Changes.{waits, all_waiters}
use Rattle.thread_records.specs.Records.{Record}
use Rattle.chain_table.specs.Chains.{head_of, without}

-- 1. What it asks

-- where a turnstile or a sleep queue is there, somebody waits on it, and the thread doesn't
abbrev pub CanStand : {E : Type 0} → ℕ → Option (Object E) → Type 0
CanStand t None = ⊤
CanStand t (Some h) = (all_waiters h.contents ≢ []) × (waits t h.contents ≡ false)

-- the thread has a turnstile with its loan node at home, and a queue without a head has nothing else
pub record CanLend (c : Config) (s : State) (t l x : ℕ) : Type 0 where
  pub turnstile : is_turnstile (c.kind l) ≡ true
  pub own : s.turnstile t ≡ Some x
  pub node : s.loan_home x ≡ true
  pub no_waiter : s.head (lock_queue l) ≡ None
      → s.lists (lock_queue l) ≡ record { exclusive = []; shared = [] }
  pub no_free : s.head (lock_queue l) ≡ None → s.free_list (lock_queue l) ≡ []

-- 2. What it makes

-- the thread of a record, as a waiter
abbrev pub waiter_of : Record → Waiter
waiter_of r = record { thread = r.thread; kept = r.effective }

-- the record with its turnstile lent, and the lock's queue named
abbrev pub record_entered : ℕ → Record → Record
record_entered l r = record r { turnstile = None; on = Some (lock_queue l) }

-- the turnstile of a lock with one waiter more, whose own is x: x itself, with its owner, where none was there, and
-- else x goes to the front of its free list
abbrev pub head_entered : ℕ → Side → ℕ → Option ℕ → Waiter → Option Turnstile → Turnstile
head_entered l side x owner w None =
    record { contents = with_owner owner (begun l w side (idle_contents x)); next = [] }
head_entered l side x owner w (Some h) = record h { contents = joined x w side h.contents }

-- the chain with that turnstile
abbrev pub chain_entered : ℕ → Side → ℕ → Option ℕ → Waiter → List (QueueName × Turnstile)
    → List (QueueName × Turnstile)
chain_entered l side x owner w chain =
    (lock_queue l, head_entered l side x owner w (head_of (lock_queue l) chain))
    ∷ without (lock_queue l) chain
