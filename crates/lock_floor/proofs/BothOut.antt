-- A thread has its record out, which it took last, and before it the chain in which a queue stands: what both say of
-- the state, of whatever sort the chain is.
use Rattle.lock_floor.proofs.Names
use Names.{ℕ, Bool, true, false, cond, Some, [], ap, is_turnstile, QueueName, Lock, Chan, State, HasItem}
use Names.{TurnstileChain, SleepChain, RecordOf, config_in, IsOf, objects_in, found, Fits, Knowledge, Description, Slot}
use Names.{one_place, found_first, found_later, its_chain, chain_place, arith}
use Rattle.std.proofs.Common.{◌≡◌, ◌≢◌, ◌%◌, ◌∷◌, ◌∙◌}
use Rattle.lock_floor.proofs.ChainPlaces.{chain_at}
use Rattle.lock_floor.proofs.Taking.{record_at}

-- a chain is no record
no_record : (floor : Description) (t : ℕ) (q : QueueName) → RecordOf t ≢ its_chain floor q
no_record floor t e = grind arith

module _ (floor : Description) (v : Knowledge) (q : QueueName) (y x : Slot)
    (out : v.out ≡ (v.thread, y) ∷ (chain_place floor q, x) ∷ []) (s : State) (f : Fits floor v s) where
  pub apart : v.thread ≢ chain_place floor q
  apart e = no_record floor v.thread q
      (one_place floor (RecordOf v.thread) (its_chain floor q) (chain_place floor q)
      (record_at floor v.thread f.thread ∙ ap Some e) (chain_at floor f.sized.some_chains q))

  pub own_there : HasItem s v.thread (RecordOf v.thread) × IsOf floor (objects_in s) (RecordOf v.thread) y
  own_there = f.out.each (RecordOf v.thread) v.thread y (record_at floor v.thread f.thread)
      (ap (found v.thread) out ∙ found_first v.thread y ((chain_place floor q, x) ∷ []))

  pub chain_there : HasItem s v.thread (its_chain floor q) × IsOf floor (objects_in s) (its_chain floor q) x
  chain_there = f.out.each (its_chain floor q) (chain_place floor q) x (chain_at floor f.sized.some_chains q)
      (ap (found (chain_place floor q)) out
      ∙ found_later v.thread (chain_place floor q) y ((chain_place floor q, x) ∷ []) apart
      ∙ found_first (chain_place floor q) x [])
