-- Where chains lie: each queue's chain has its place among the values.
use Rattle.lock_floor.proofs.Names
use Names.{ℕ, Bool, true, false, Some, None, cond, lt-ltb, sym, ap, arith, unwrap_or, mod-lt, is_turnstile, LockNo}
use Names.{QueueName, Lock, Chan, TurnstileChain, SleepChain, config_in, first_turnstile_chain, first_sleep_chain}
use Names.{slot_of, Description, its_chain, chain_place}
use Rattle.std.proofs.Common.{◌≡◌, ◌+◌, ◌%◌, ◌<◌, ◌≤◌, ◌∙◌}

module _ (floor : Description) (some_chains : 1 ≤ floor.chains) where
  abbrev low : (n : ℕ) → n % floor.chains < floor.chains
  low n = mod-lt n (omega (arith, some_chains))

  turnstiles_at : (n : ℕ)
      → slot_of floor (TurnstileChain (n % floor.chains)) ≡ Some (first_turnstile_chain floor + n % floor.chains)
  turnstiles_at n = grind arith

  sleepers_at : (n : ℕ)
      → slot_of floor (SleepChain (n % floor.chains)) ≡ Some (first_sleep_chain floor + n % floor.chains)
  sleepers_at n = grind arith

  -- the chain of a lock, of a kind with turnstiles or not
  lock_chain_at : (l : ℕ) (b : Bool)
      → slot_of floor (cond b (TurnstileChain (l % floor.chains)) (SleepChain (l % floor.chains))) ≡ Some
      (cond b (first_turnstile_chain floor) (first_sleep_chain floor) + l % floor.chains)
  lock_chain_at l true = turnstiles_at l
  lock_chain_at l false = sleepers_at l

  place_is : (q : QueueName) (j : ℕ) → slot_of floor (its_chain floor q) ≡ Some j → chain_place floor q ≡ j
  place_is q j e = ap (λ o. unwrap_or o 0) e

  pub chain_at : (q : QueueName) → slot_of floor (its_chain floor q) ≡ Some (chain_place floor q)
  chain_at (Lock l) =
      let e = lock_chain_at l.0 (is_turnstile ((config_in floor).kind l.0)) in
      e ∙ ap Some (sym (place_is (Lock l) _ e))
  chain_at (Chan d) = let e = sleepers_at d.0 in e ∙ ap Some (sym (place_is (Chan d) _ e))
