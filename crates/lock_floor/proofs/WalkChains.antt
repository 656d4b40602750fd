-- The one chain of turnstiles of a floor: every lock of a kind with turnstiles has its queue there, and no other chain
-- of turnstiles has a queue.
use Rattle.lock_floor.proofs.Names
use Names.{ℕ, true, cond, List, None, Some, length, lt-ltb, refl, sym, ap, arith, mod-lt, head_of, lock_queue}
use Names.{is_turnstile, QueueName, Lock, Chan, RepresentsQueue, RepresentsQueues, queue_in, State, TurnstileChain}
use Names.{SleepChain, RecordOf, Turnstile, config_in, first_turnstile_chain, slot_of, StandsIn, HasNames}
use Names.{RepresentsTurnstiles, objects_in, Description, one_place, its_chain, turnstiles, turnstiles_place}
use Rattle.std.proofs.Common.{◌≡◌, ◌≢◌, ◌+◌, ◌%◌, ◌<◌, ◌∙◌}
use Rattle.lock_floor.proofs.ChainChanges.{stands_by, its_own}
use Rattle.lock_floor.proofs.Taking.{record_at}

module _ (floor : Description) (one : floor.chains ≡ 1) where
  -- where it lies
  pub turnstiles_at : slot_of floor turnstiles ≡ Some (turnstiles_place floor)
  turnstiles_at =
      let first : first_turnstile_chain floor + 0 ≡ first_turnstile_chain floor = omega arith in
      ap (λ b. cond b (Some (first_turnstile_chain floor + 0)) None) (lt-ltb 0 floor.chains (omega (arith, one)))
      ∙ ap Some first

  -- apart from each record
  pub apart_from : (o : ℕ) → o < length floor.threads → o ≢ turnstiles_place floor
  apart_from o low e =
      let z : RecordOf o ≡ TurnstileChain 0 =
      one_place floor (RecordOf o) turnstiles (turnstiles_place floor) (record_at floor o low ∙ ap Some e) turnstiles_at
      in
      cc

  -- that of each lock of a kind with turnstiles
  pub lock_chain : (l : ℕ) → is_turnstile ((config_in floor).kind l) ≡ true
      → its_chain floor (lock_queue l) ≡ turnstiles
  lock_chain l turnstile =
      let small : l % floor.chains < floor.chains = mod-lt l (omega (arith, one)) in
      let none : l % floor.chains ≡ 0 = omega (arith, small, one) in
      its_own floor l turnstile ∙ ap TurnstileChain none

  -- what stands in a chain of turnstiles is the queue of such a lock
  standing_kind : (k : ℕ) (q : QueueName) → StandsIn floor (TurnstileChain k) q
      → (l : ℕ) × (q ≡ lock_queue l) × (is_turnstile ((config_in floor).kind l) ≡ true)
  standing_kind k (Lock j) there =
      (j.0, refl, stands_by (is_turnstile ((config_in floor).kind j.0)) (j.0 % floor.chains) k there)
  standing_kind k (Chan d) there =
      absurd (let z : SleepChain (d.0 % floor.chains) ≡ TurnstileChain k = there in cc)

  -- and the chain is this one
  pub only_chain : (k : ℕ) (q : QueueName) → StandsIn floor (TurnstileChain k) q → TurnstileChain k ≡ turnstiles
  only_chain k q there =
      let s = standing_kind k q there in sym there ∙ ap (its_chain floor) s.1 ∙ lock_chain s.0 s.2

  -- So it says of each such lock what the columns say, where it says what they say of the queues that stand there
  pub all_queues : (s : State) (chain : List (QueueName × Turnstile))
      → RepresentsTurnstiles floor 0 chain (objects_in s)
      → RepresentsQueues (config_in floor) chain (queue_in s) s.loan_home
  all_queues s chain shows = record { lock = λ l turnstile. shows.queue (lock_queue l) (lock_chain l turnstile) }

  -- and the other way round
  pub of_queues : (s : State) (chain : List (QueueName × Turnstile)) → HasNames floor turnstiles chain
      → RepresentsQueues (config_in floor) chain (queue_in s) s.loan_home
      → RepresentsTurnstiles floor 0 chain (objects_in s)
  of_queues s chain names queues = grind arith
