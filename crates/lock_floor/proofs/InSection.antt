-- What a thread's seat knows of a blocking call in the section of the lock's chain, step by step: what allows the next
-- step there stays, and what is out is the own record and the chain.
use Rattle.lock_floor.proofs.Names
use Names.{ℕ, Bool, true, false, Option, Some, None, IsSome, List, [], inr, refl, sym, ap, Global, Box, open_in}
use Names.{NotHeld, hold_in, lock_queue, Word, is_turnstile, QueueName, NoWalk, Round, Step, RecordOf, round_of}
use Names.{bound_to, taking_from, ThreadRec, Turnstile, config_in, Description, Slot, Record, Cell, Turnstiles}
use Names.{SleepQueues, Graph, is_off_queues, Knowledge, seeing, IsOfKind, Takes, IsGoing, IsAtRest, looked, sought}
use Names.{took, its_chain, chain_place, readied, both_out}
use Rattle.std.proofs.Common.{◌≡◌, ◌⊎◌, ◌∷◌, ◌∙◌}
use Rattle.lock_floor.proofs.MayWait.{IsNoSleeper, turnstiles_taken}
use Rattle.lock_floor.proofs.OwnRecords.{own_turnstile}

-- 1. What stays from the begin of a round to its end

pub record IsAcquiring (floor : Description) (l : ℕ) (r : Round) (v : Knowledge) : Type 0 where
  pub description : v.description ≡ floor
  pub going : IsGoing v
  pub awake : IsNoSleeper v
  pub round : v.share.doing.round ≡ Some r
  pub wants : (v.share.doing.wanted ≡ Some l) ⊎ (v.share.doing.wanted ≡ None)
  pub takes : v.share.doing.taking ≡ Some l
  pub no_walk : v.share.doing.walk ≡ NoWalk
  pub unheld : hold_in v.share.held l ≡ NotHeld
  pub sections : (k : ℕ) → open_in (config_in floor) v.share.log v.thread k ≡ hold_in v.share.held k

module _ (floor : Description) (l : ℕ) where
  -- 2. What is out

  pub chain_out : (old new : Knowledge)
      → Takes floor (its_chain floor (lock_queue l)) (chain_place floor (lock_queue l)) old new
      → is_turnstile ((config_in floor).kind l) ≡ true → old.out ≡ []
      → (chain : List (QueueName × Turnstile)) × (new.out ≡ (chain_place floor (lock_queue l), Turnstiles chain) ∷ [])
  chain_out old new k turnstile empty =
      let is = turnstiles_taken floor l (chain_place floor (lock_queue l)) old new turnstile k in (
        is.0,
        ap (λ (v : Knowledge). v.out) k.view ∙ (λ i. (chain_place floor (lock_queue l), is.1 i) ∷ empty i),
      )

  -- the own record has its turnstile
  pub record_out : (old new : Knowledge) (chain : List (QueueName × Turnstile))
      → Takes floor (RecordOf old.thread) old.thread old new → is_off_queues old.pose ≡ true
      → old.out ≡ (chain_place floor (lock_queue l), Turnstiles chain) ∷ []
      → (x : ℕ) × (b : Box ThreadRec Global) × (new.out ≡ both_out floor old.thread l b chain)
      × (b.value.turnstile ≡ Some x)
  record_out old new chain k off out =
      let b = boxed k.value k.kind in
      let x = filled b.0.value.turnstile (own_turnstile floor old new b.0 k b.1 off) in
      (x.0, b.0, ap (λ (v : Knowledge). v.out) k.view ∙ (λ i. (old.thread, b.1 i) ∷ out i), x.1)
    where
      boxed : (y : Slot) → IsOfKind (RecordOf old.thread) y → (b : Box ThreadRec Global) × (y ≡ Record b)
      boxed (Record b) is = (b, refl)
      boxed (Cell value) is = absurd is
      boxed (Turnstiles c) is = absurd is
      boxed (SleepQueues c) is = absurd is
      boxed (Graph g) is = absurd is

      filled : (o : Option ℕ) → IsSome o → (x : ℕ) × (o ≡ Some x)
      filled (Some x) some = (x, refl)
      filled None some = absurd (let z : false ≡ true = some in cc)
