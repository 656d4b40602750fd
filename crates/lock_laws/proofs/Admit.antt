-- An admission and a refusal of a lock, by the order of locks, keep each fact.
use Rattle.lock_laws.proofs.Names
use Names.{ℕ, Option, Some, None, sym, arith, Config, QueueName, State, Running, Queued, put, Item, out_with, item_with}
use Names.{IsFreeToTake, after_admit, after_refuse, Lawful, StandingIsQueued, StandingWants, WokenWants, CalledWants}
use Names.{OutIsNarrow}
use Rattle.std.proofs.Common.{◌≡◌, ◌∙◌}
use Rattle.lock_laws.proofs.Kit.{columns}

-- what is out once the class graph is home
pub less_out : (s : State) (i : Item) (t : ℕ)
    → out_with s.turnstile_chain_with s.sleep_chain_with s.record_with s.cell_with None i ≡ Some t
    → item_with s i ≡ Some t
less_out s i t e = grind arith

narrow : (c : Config) (s : State) → Lawful c s
    → OutIsNarrow s.turnstile_chain_with s.sleep_chain_with s.record_with s.cell_with None
unfolding OutIsNarrow
narrow c s h t i j e f = h.items.out_is_narrow t i j (less_out s i t e) (less_out s j t f)

module _ (c : Config) (s : State) (t l : ℕ) (g : IsFreeToTake c s t l) (h : Lawful c s) where
  -- a running thread stands on no queue
  nowhere : (q : QueueName) → s.blocked_on t ≡ Some q → ⊥
  unfolding StandingIsQueued
  nowhere q e = let z : Running ≡ Queued = sym g.running ∙ h.waits.standing_is_queued t q e in cc

  abbrev wanted : ℕ → Option ℕ
  wanted = put s.wanted t (Some l)

  standing : StandingWants s.blocked_on wanted
  unfolding StandingWants
  standing u k = grind (arith, columns, h.waits.standing_wants u k, nowhere)

  woken : WokenWants s.wait wanted
  unfolding WokenWants
  woken u k = grind (arith, columns, h.waits.woken_wants u k, g.running)

  called : CalledWants s.called wanted
  unfolding CalledWants
  called u k = grind (arith, columns, h.waits.called_wants u k, g.wants)

  pub admit_lawful : Lawful c (after_admit c s t l)
  unfolding after_admit
  admit_lawful = assumption (h, standing, woken, called, narrow c s h)

pub refuse_lawful : (c : Config) (s : State) (t l k : ℕ) → Lawful c s → Lawful c (after_refuse s t l k)
unfolding after_refuse
refuse_lawful c s t l k h = assumption (h, narrow c s h)
