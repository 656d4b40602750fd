-- The record of a thread as its callers see it.
use Rattle.std.specs.Prelude.{◌≡◌, ℕ, ◌≤◌, List, [], Option, None, Some}
use Rattle.lock_model.specs.declared.plan.QueueName.{QueueName}
use Rattle.turnstile_core.specs.Seen.{Terms}
use Rattle.lock_model.specs.Counts.{least_with}
use Rattle.thread_records.specs.Loans.{prios, loans_for}

-- a thread's priorities, the numbers of the turnstile and of the sleep queue that are at home with their nodes, its
-- loans, the newest first, and the queue that it names
pub record Record : Type 0 where
  pub thread : ℕ
  pub base : ℕ
  pub effective : ℕ
  pub turnstile : Option ℕ
  pub sleep_queue : Option ℕ
  pub loans : List Terms
  pub on : Option QueueName

-- the record of a new thread
abbrev pub made : ℕ → ℕ → Record
made t k =
    record {
      thread = t;
      base = k;
      effective = k;
      turnstile = Some t;
      sleep_queue = Some t;
      loans = [];
      on = None;
    }

-- with another base
abbrev pub with_base : ℕ → Record → Record
with_base k r = record r { base = k; effective = least_with k (prios r.loans) }

-- with another base, where one is given
abbrev pub with_given_base : Option ℕ → Record → Record
with_given_base None r = r
with_given_base (Some k) r = with_base k r

-- with other loans
abbrev pub with_loans : List Terms → Record → Record
with_loans ts r = record r { loans = ts; effective = least_with r.base (prios ts) }

-- what is true of each record
pub record IsWellFormed (r : Record) : Type 0 where
  pub effective_is_least : r.effective ≡ least_with r.base (prios r.loans)
  pub one_loan_each : (l : ℕ) → loans_for l r.loans ≤ 1
