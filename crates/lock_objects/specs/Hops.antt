-- What the hops of a lending walk, and a claim, ask of the objects, and what a claim makes of them.
use Rattle.std.specs.Prelude.{◌≡◌, ◌≢◌, ℕ, false, List, [], ◌∷◌, Some}
use Rattle.lock_model.specs.Queues.{lock_queue}
use Rattle.lock_model.specs.declared.plan.QueueName.{QueueName}
use Rattle.turnstile_core.specs.Seen.{Turnstile}
use Rattle.turnstile_core.specs.Changes.{all_waiters, with_owner, with_loan_home}
use Rattle.thread_records.specs.Records.{Record, with_loans}
use Rattle.chain_table.specs.Chains.{without}
use Rattle.prio_lending.specs.Hops.{loan_by, with_lent, carrier_for, node_out, with_contents}

-- 1. What they ask

-- somebody waits, and the turnstile's node carries the loan that the record has for the lock, or is at home
pub record CanBeLent (l : ℕ) (r : Record) (h : Turnstile) : Type 0 where
  pub some_wait : all_waiters h.contents ≢ []
  pub carried : carrier_for l r.loans ≡ node_out h.contents

-- and the record is of the turnstile's owner
pub record CanHop (l : ℕ) (r : Record) (h : Turnstile) : Type 0 where
  pub lends : CanBeLent l r h
  pub owned : h.contents.own.owner ≡ Some r.thread

-- 2. What a claim makes

-- the record with what those who wait lend its thread for the lock
abbrev pub record_claimed : ℕ → Turnstile → Record → Record
record_claimed l h r = with_loans (with_lent (loan_by l h.contents) r.loans) r

-- the turnstile whose owner the thread is, with its loan node out
abbrev pub head_claimed : ℕ → Turnstile → Turnstile
head_claimed t h = with_contents (with_loan_home false (with_owner (Some t) h.contents)) h

-- the chain with that turnstile
abbrev pub chain_claimed : ℕ → ℕ → Turnstile → List (QueueName × Turnstile)
    → List (QueueName × Turnstile)
chain_claimed l t h chain = (lock_queue l, head_claimed t h) ∷ without (lock_queue l) chain
