-- How the last holder of a lock releases it where waiters are shown: those of a side are taken off its turnstile.
use Rattle.std.specs.Prelude.{◌≡◌, ℕ, List, [], ◌∷◌, map, Some, None}
use Rattle.std.specs.Box.{with_value}
use Rattle.std.specs.declared.alloc.Global.{Global}
use Rattle.std.specs.declared.boxed.Box.{Box}
use Rattle.chain_table.specs.Chains.{head_of}
use Rattle.lock_model.specs.Operations.{without_lock}
use Rattle.lock_model.specs.Queues.{Mark, lock_queue}
use Rattle.lock_model.specs.Words.{Word, side_woken}
use Rattle.lock_model.specs.declared.plan.Mode.{Mode}
use Rattle.lock_model.specs.declared.plan.QueueName.{QueueName}
use Rattle.lock_model.specs.declared.plan.Side.{Side}
use Rattle.lock_objects.specs.Opens.{record_opened, chain_opened, woken_of}
use Rattle.lock_objects.specs.Represents.{mark_of}
use Rattle.lock_state.specs.Steps.{Opens}
use Rattle.thread_records.specs.declared.record.ThreadRec.{ThreadRec}
use Rattle.turnstile_core.specs.Seen.{Turnstile}
use Rattle.floor_table.specs.Descriptions.{config_in}
use Rattle.floor_table.specs.Shares.{Doing}
use Rattle.floor_table.specs.Steps.{MayMake, Makes}
use Rattle.floor_table.specs.Views.{Knowledge, seeing}
use Rattle.floor_table.specs.declared.description.Description.{Description}
use Rattle.floor_table.specs.declared.slot.Slot.{Slot}
use Rattle.lock_floor.specs.Waits.{both_out}

-- 1. What the thread has out

-- the thread's record was taken last, and before it the chain of the lock's queue
pub record HasBothOut (floor : Description) (l : ℕ) (v : Knowledge) : Type 0 where
  pub box : Box ThreadRec Global
  pub chain : List (QueueName × Turnstile)
  pub out : v.out ≡ both_out floor v.thread l box chain

-- 2. What the release makes of it

-- the record without the loan for the lock, and the chain whose turnstile of the lock has lost those of the side
abbrev pub out_opened : Description → ℕ → ℕ → Side → Box ThreadRec Global
    → List (QueueName × Turnstile) → Turnstile → List (ℕ × Slot)
out_opened floor t l side b chain h =
    both_out floor t l (with_value b (record_opened l b.value))
    (chain_opened l side b.value h chain)

-- those who were taken off, by a signal, each with the turnstile that it takes back
abbrev pub marks_opened : ℕ → Side → Box ThreadRec Global → Turnstile → List Mark
marks_opened l side b h = map (mark_of (lock_queue l)) (woken_of l side b.value h.contents)

-- after the release of a lock, by which these are marked, with these values out then
abbrev pub opened_up : Knowledge → ℕ → List Mark → List (ℕ × Slot) → Knowledge
opened_up v l ms out =
    let after : Doing = record v.share.doing { marked = ms; last_look = None } in
    record v {
      share = record v.share { held = without_lock l v.share.held; doing = after };
      out = out;
    }

-- the thread may release the lock, which it holds in a mode, where the word is that
pub record MayOpenUp (floor : Description) (l : ℕ) (word : Word) (v : Knowledge) : Type 0 where
  pub mode : Mode
  pub may : MayMake floor v (λ s. s.word l ≡ word) (Opens v.thread l mode ∷ [])

-- The last holder released the lock, whose word was that: in one step the word is free, the loan for the lock is home,
-- its turnstile has no owner, and the waiters of the side that the word tells are in the marked list, each with the
-- turnstile that it takes back
pub record OpensUp (floor : Description) (l : ℕ) (word : Word) (old new : Knowledge) : Type 0 where
  pub mode : Mode
  pub both : HasBothOut floor l old
  pub turnstile : Turnstile
  pub there : head_of (lock_queue l) both.chain ≡ Some turnstile
  pub side : Side
  pub told : side ≡ side_woken ((config_in floor).kind l) word
  pub view : new ≡ seeing new.seen (opened_up old l (marks_opened l side both.box turnstile)
      (out_opened floor old.thread l side both.box both.chain turnstile))
  pub step : Makes floor (Opens old.thread l mode ∷ []) old new
