-- Countings out and in, ends and halts keep each fact of a lawful state: none reads a count.
use Rattle.lock_laws.proofs.Names.{ℕ, Config, State, after_count_out, after_count_in, after_count_self_in}
use Rattle.lock_laws.proofs.Names.{after_count_end, after_halt, Lawful}

module _ (c : Config) (s : State) (h : Lawful c s) where
  pub out_lawful : (t : ℕ) → Lawful c (after_count_out s t)
  unfolding after_count_out
  out_lawful t = assumption h

  pub in_lawful : (t u : ℕ) → Lawful c (after_count_in s t u)
  unfolding after_count_in
  in_lawful t u = assumption h

  pub self_in_lawful : (t : ℕ) → Lawful c (after_count_self_in s t)
  unfolding after_count_self_in
  self_in_lawful t = assumption h

  pub end_lawful : (t : ℕ) → Lawful c (after_count_end s t)
  unfolding after_count_end
  end_lawful t = assumption h

  pub halt_lawful : Lawful c (after_halt s)
  unfolding after_halt
  halt_lawful = assumption h
