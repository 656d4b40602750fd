-- A thread at rest takes the chain in which a channel's queue stands.
use Rattle.std.proofs.Common.{◌≡◌, ℕ, true, false, Option, Some, None, List, [], ◌∷◌, refl, sym, ◌∙◌, subst}
use Rattle.std.specs.Option.{IsSome}
use Rattle.lock_model.specs.Queues.{chan_queue}
use Rattle.lock_model.specs.declared.plan.QueueName.{QueueName}
use Rattle.lock_state.specs.State.{Round}
use Rattle.lock_state.specs.Steps.{TakesItem, IsOfRound}
use Rattle.lock_state.specs.Steps.Items.{SleepChain, item_with}
use Rattle.sleep_queues.specs.Seen.{SleepQueue}
use Rattle.floor_table.specs.Descriptions.{config_in}
use Rattle.floor_table.specs.Steps.{MayMake}
use Rattle.floor_table.specs.Views.{Knowledge}
use Rattle.floor_table.specs.declared.description.Description.{Description}
use Rattle.floor_table.specs.declared.slot.Slot.{Slot}
use Rattle.floor_table.specs.declared.slot.Slot.TheVariants.{Record, Cell, Turnstiles, SleepQueues, Graph}
use Rattle.lock_floor.specs.Latches.{IsOfKind}
use Rattle.lock_floor.specs.Passes.{IsAtRest}
use Rattle.lock_floor.specs.Waits.{its_chain}
use Rattle.lock_floor.proofs.MayWait.{may_take_chain}

-- the chain of a channel has sleep queues
pub a_sleep_chain : (k : ℕ) (y : Slot) → IsOfKind (SleepChain k) y → (chain : List (QueueName × SleepQueue))
    × (y ≡ SleepQueues chain)
a_sleep_chain k (SleepQueues chain) is = (chain, refl)
a_sleep_chain k (Record b) is = absurd is
a_sleep_chain k (Cell value) is = absurd is
a_sleep_chain k (Turnstiles chain) is = absurd is
a_sleep_chain k (Graph b) is = absurd is

pub filled : (o : Option ℕ) → IsSome o → (x : ℕ) × (o ≡ Some x)
filled (Some x) some = (x, refl)
filled None some = absurd (let z : false ≡ true = some in cc)

module _ (floor : Description) (d : ℕ) (old : Knowledge) (r : IsAtRest floor old) where
  abbrev q : QueueName
  q = chan_queue d

  pub may_come : MayMake floor old (λ s. item_with s (its_chain floor q) ≡ None)
      (TakesItem old.thread (its_chain floor q) ∷ [])
  may_come = may_take_chain floor old q r.runs r.nothing_out r.going
      (subst (λ o. IsOfRound floor.chains (config_in floor) o (its_chain floor q)) (sym r.no_round) tt)
      (λ (x : Round) is. absurd (let z : None ≡ Some x = sym r.no_round ∙ is in cc))
