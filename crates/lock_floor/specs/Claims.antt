-- How a thread gains a free reader-writer lock whose word shows waiters: it is the owner of the lock's turnstile then,
-- and is lent what those who wait there lend.
use Rattle.std.specs.Prelude.{◌≡◌, ℕ, Bool, List, [], ◌∷◌, Some}
use Rattle.std.specs.Box.{with_value}
use Rattle.std.specs.declared.alloc.Global.{Global}
use Rattle.std.specs.declared.boxed.Box.{Box}
use Rattle.chain_table.specs.Chains.{head_of}
use Rattle.lock_model.specs.Queues.{lock_queue}
use Rattle.lock_model.specs.Words.{Word}
use Rattle.lock_model.specs.declared.event.Held.{Held}
use Rattle.lock_model.specs.declared.numbers.LockNo.{LockNo}
use Rattle.lock_model.specs.declared.plan.Mode.TheVariants.{Excl}
use Rattle.lock_model.specs.declared.plan.QueueName.{QueueName}
use Rattle.lock_objects.specs.Hops.{record_claimed, chain_claimed}
use Rattle.lock_state.specs.Steps.{Claims}
use Rattle.thread_records.specs.declared.record.ThreadRec.{ThreadRec}
use Rattle.turnstile_core.specs.Seen.{Turnstile}
use Rattle.floor_table.specs.Steps.{MayMake, Makes}
use Rattle.floor_table.specs.Views.{Knowledge, seeing}
use Rattle.floor_table.specs.declared.description.Description.{Description}
use Rattle.floor_table.specs.declared.slot.Slot.{Slot}
use Rattle.lock_floor.specs.Opens.{HasBothOut}
use Rattle.lock_floor.specs.Views.{gained}
use Rattle.lock_floor.specs.Waits.{both_out}

-- 1. What the claim makes of what the thread has out

-- the record with what those who wait lend its thread for the lock, and the chain whose turnstile of the lock it owns
abbrev pub out_claimed : Description → ℕ → ℕ → Box ThreadRec Global → List (QueueName × Turnstile)
    → Turnstile → List (ℕ × Slot)
out_claimed floor t l b chain h =
    both_out floor t l (with_value b (record_claimed l h b.value))
    (chain_claimed l b.value.thread h chain)

-- after a claim, by which the lock is held so: what a gain leaves, with these values out then
abbrev pub claimed : Knowledge → Held → List (ℕ × Slot) → Knowledge
claimed v hold out = record (gained v hold) { out = out }

-- a claim gains the lock exclusively, for a try or for a blocking call
abbrev pub as_claimed : LockNo → Bool → Held
as_claimed l by_try = record { l = l; mode = Excl; by_try = by_try }

-- 2. What is asked of the thread, and told of it

-- The thread has its record out, which it took last, and before it the lock's chain. It may claim the lock where the
-- word is that, of whatever turnstile stands there.
pub record MayClaimIt (floor : Description) (l : ℕ) (by_try : Bool) (word : Word) (v : Knowledge)
    : Type 0 where
  pub both : HasBothOut floor l v
  pub may : (h : ℕ) → MayMake floor v (λ s. (s.word l ≡ word) × (s.head (lock_queue l) ≡ Some h))
      (Claims v.thread l h by_try ∷ [])

-- The thread gained the free lock: in one step the word is its own with the waiters' bits, it is the owner of the
-- turnstile that stands there, and its loan for the lock is the best priority of those who wait.
pub record ClaimsIt (floor : Description) (l : LockNo) (by_try : Bool) (old new : Knowledge)
    : Type 0 where
  pub both : HasBothOut floor l.0 old
  pub turnstile : Turnstile
  pub there : head_of (lock_queue l.0) both.chain ≡ Some turnstile
  pub view : new ≡ seeing new.seen (claimed old (as_claimed l by_try)
      (out_claimed floor old.thread l.0 both.box both.chain turnstile))
  pub step : Makes floor (Claims old.thread l.0 turnstile.contents.number by_try ∷ []) old new
