-- What a thread has out in the section of the chain in which a lock's queue stands. By the lock's kind that is a chain
-- of turnstiles, or one of sleep queues.
use Rattle.std.specs.Prelude.{◌≡◌, ℕ, List, [], ◌∷◌}
use Rattle.std.specs.declared.alloc.Global.{Global}
use Rattle.std.specs.declared.boxed.Box.{Box}
use Rattle.lock_model.specs.Queues.{lock_queue}
use Rattle.thread_records.specs.declared.record.ThreadRec.{ThreadRec}
use Rattle.floor_table.specs.declared.description.Description.{Description}
use Rattle.floor_table.specs.declared.slot.Slot.{Slot}
use Rattle.floor_table.specs.declared.slot.Slot.TheVariants.{Record}
use Rattle.floor_table.specs.Views.{Knowledge}
use Rattle.lock_floor.specs.Latches.{IsOfKind}
use Rattle.lock_floor.specs.Waits.{its_chain, chain_place}

-- the value is a chain such as the one in which the lock's queue stands
abbrev pub IsItsChain : Description → ℕ → Slot → Type 0
IsItsChain floor l chain = IsOfKind (its_chain floor (lock_queue l)) chain

-- the thread's record was taken last, and before it that chain
abbrev pub section_out : Description → ℕ → ℕ → Box ThreadRec Global → Slot → List (ℕ × Slot)
section_out floor t l b chain = (t, Record b) ∷ (chain_place floor (lock_queue l), chain) ∷ []

pub record HasRecordAndChain (floor : Description) (l : ℕ) (v : Knowledge) : Type 0 where
  pub box : Box ThreadRec Global
  pub chain : Slot
  pub of_lock : IsItsChain floor l chain
  pub out : v.out ≡ section_out floor v.thread l box chain
