-- What a release that takes the waiters of one side off a turnstile makes of the releasing thread's record and of the
-- chain.
use Rattle.std.specs.Prelude.{◌≡◌, ◌≢◌, ℕ, ◌+◌, ◌<◌, true, false, ◌||◌, is_some, if◌then◌else◌, List, [], ◌∷◌, length, IfSome, Some, None}
use Rattle.lock_model.specs.Config.{Config}
use Rattle.lock_model.specs.Counts.{is_empty, some}
use Rattle.lock_model.specs.Words.{is_turnstile}
use Rattle.lock_model.specs.Queues.{lock_queue, waiting}
use Rattle.lock_state.specs.State.{State, Loan}
use Rattle.lock_state.specs.Steps.Turnstiles.{home_after}
use Rattle.lock_model.specs.declared.plan.Side.{Side}
use Rattle.lock_model.specs.declared.plan.QueueName.{QueueName}
use Rattle.turnstile_core.specs.Seen.{Contents, Place, Turnstile}
use Rattle.turnstile_core.specs.Lists.{with_last}
use Rattle.turnstile_core.specs.Changes.{waiters, all_waiters, with_owner, with_loan_home, left_by, taken}
use Rattle.thread_records.specs.Records.{Record, with_loans}
use Rattle.thread_records.specs.Loans.{loan_for, without_loan}
use Rattle.prio_lending.specs.Hops.{carrier_for, node_out}
use Rattle.chain_table.specs.Chains.{without}

-- 1. What it asks

-- somebody waits on the side, the loan that the record has for the lock is on the turnstile's node, and a node that
-- is not lent is at home
pub record CanOpen (l : ℕ) (side : Side) (r : Record) (h : Turnstile) : Type 0 where
  pub some_wait : waiters side h.contents ≢ []
  pub carried : IfSome (carrier_for l r.loans) (λ n. node_out h.contents ≡ Some n)
  pub returns : (is_some (loan_for l r.loans) || h.contents.own.loan_home) ≡ true

-- there are as many waiters as turnstiles at the lock, the loan for the lock is on its head's node, and no other
-- head's node comes home by it
pub record CanRelease (c : Config) (s : State) (t l : ℕ) : Type 0 where
  pub turnstile : is_turnstile (c.kind l) ≡ true
  pub balanced : length (s.free_list (lock_queue l)) + some (s.head (lock_queue l)) ≡ waiting
      (s.lists (lock_queue l))
  pub lent : (x : ℕ) (y : Loan) → s.head (lock_queue l) ≡ Some x → s.loan t l ≡ Some y
      → (x ≡ y.number) × (s.loan_home x ≡ false)
  pub unlent : (x : ℕ) → s.head (lock_queue l) ≡ Some x → s.loan t l ≡ None → s.loan_home x ≡ true
  pub elsewhere : (k x : ℕ) → k ≢ l → is_turnstile (c.kind k) ≡ true
      → s.head (lock_queue k) ≡ Some x → home_after s.loan_home (s.loan t l) x ≡ s.loan_home x
  pub within : (k : ℕ) (y : Loan) → s.loan t k ≡ Some y → k < c.locks

-- 2. What it makes

-- the record without the loan for the lock
abbrev pub record_opened : ℕ → Record → Record
record_opened l r = with_loans (without_loan l r.loans) r

-- the turnstile that lost its owner, whose loan node comes home where the record had it
abbrev pub settled : ℕ → Record → Contents → Contents
settled l r h =
    with_owner None (with_loan_home (is_some (loan_for l r.loans) || h.own.loan_home) h)

-- what stays of it without the waiters of the side, and those waiters
abbrev pub left_open : ℕ → Side → Record → Contents → Contents
left_open l side r h = left_by (length (waiters side (settled l r h))) side (settled l r h)

abbrev pub taken_off : ℕ → Side → Record → Contents → List Place
taken_off l side r h = taken (length (waiters side (settled l r h))) side (settled l r h)

-- where nobody waits any more, the last of them takes the turnstile itself
abbrev pub woken_of : ℕ → Side → Record → Contents → List Place
woken_of l side r h =
    if is_empty (all_waiters (left_open l side r h)) then with_last (left_open l side r h).number
    (taken_off l side r h) else taken_off l side r h

-- and it is gone from the chain; else it stays
abbrev pub chain_opened : ℕ → Side → Record → Turnstile → List (QueueName × Turnstile)
    → List (QueueName × Turnstile)
chain_opened l side r h chain =
    if is_empty (all_waiters (left_open l side r h.contents)) then without (lock_queue l) chain
    else (lock_queue l, record h { contents = left_open l side r h.contents })
    ∷ without (lock_queue l) chain
