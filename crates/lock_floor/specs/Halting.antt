-- How a thread at halting others finds the sleepers of a queue, and takes the last of a side of an sx lock's off it, by
-- an abort: the lock's word then shows nobody on that side.
use Rattle.std.specs.Prelude.{◌≡◌, ◌<◌, ℕ, List, [], ◌∷◌, IfSome, Some, None, ⊤}
use Rattle.chain_table.specs.Chains.{head_of}
use Rattle.lock_model.specs.Counts.{is_empty}
use Rattle.lock_model.specs.Queues.{Waiter, lock_queue, times_waiting, without}
use Rattle.lock_model.specs.declared.plan.Side.{Side}
use Rattle.lock_model.specs.declared.plan.Side.TheVariants.{X, S}
use Rattle.lock_model.specs.declared.plan.QueueName.{QueueName}
use Rattle.lock_objects.specs.Aborts.{aborted_from}
use Rattle.lock_state.specs.Steps.{Aborts}
use Rattle.sleep_queues.specs.Changes.{waiters, all_waiters}
use Rattle.sleep_queues.specs.Seen.{SleepQueue}
use Rattle.floor_table.specs.Steps.{MayMake, Makes}
use Rattle.floor_table.specs.Views.{Knowledge, seeing}
use Rattle.floor_table.specs.declared.description.Description.{Description}
use Rattle.lock_floor.specs.Aborts.{aborted_off, out_aborted}
use Rattle.lock_floor.specs.Sleeps.{HasSleepersOut}
use Rattle.lock_floor.specs.declared.halting.FirstSleeper.{FirstSleeper}

-- 1. Who sleeps

-- nobody sleeps on a queue, as its chain of sleep queues has it
abbrev pub NobodySleeps : QueueName → List (QueueName × SleepQueue) → Type 0
NobodySleeps q chain = IfSome (head_of q chain) (λ h. all_waiters h.contents ≡ [])

-- before those of a side come those of the exclusive one
abbrev pub IsFirstSide : Side → SleepQueue → Type 0
IsFirstSide X h = ⊤
IsFirstSide S h = waiters X h.contents ≡ []

-- the sleeper is the first of its side of a queue, and that is the first side on which somebody sleeps; it is alone
-- exactly where nobody else sleeps there
pub record SleepsFirst (q : QueueName) (x : FirstSleeper) (chain : List (QueueName × SleepQueue))
    : Type 0 where
  pub head : SleepQueue
  pub there : head_of q chain ≡ Some head
  pub side : IsFirstSide x.side head
  pub first : Waiter
  pub others : List Waiter
  pub list : waiters x.side head.contents ≡ first ∷ others
  pub thread : first.thread ≡ x.thread.0
  pub alone : x.alone ≡ is_empty others

-- 2. The last of a side

-- a sleeper stands alone on that side of the queue, whose sleep queue is in the chain
pub record IsLastAsleep (q : QueueName) (side : Side) (u : ℕ)
    (chain : List (QueueName × SleepQueue)) : Type 0 where
  pub head : SleepQueue
  pub there : head_of q chain ≡ Some head
  pub stands : 0 < times_waiting u (waiters side head.contents)
  pub last : without u (waiters side head.contents) ≡ []

-- of a lock's word that shows somebody on a side, what makes it show nobody there, where it is added to the word, of 64
-- bits: the number that takes the side's bit off
abbrev pub added_off : Side → ℕ
added_off X = 18446744073709551615
added_off S = 18446744073709551614

-- the thread may take the last sleeper of a side off an sx lock's queue by an abort
pub record MayAbortLast (floor : Description) (l : ℕ) (side : Side) (u : ℕ) (v : Knowledge) : Type 0
  where
    pub sleepers : HasSleepersOut floor (lock_queue l) v
    pub sleeps : IsLastAsleep (lock_queue l) side u sleepers.chain
    pub may : MayMake floor v (λ s. ⊤) (Aborts v.thread (lock_queue l) side u ∷ [])

-- The thread took the last sleeper of a side off an sx lock's queue, with the sleep queue that it takes back: in one
-- step it is alone in the marked list, by an abort, and the lock's word shows nobody on that side. Since that word
-- changed, the thread has no last look
pub record AbortsLast (floor : Description) (l : ℕ) (side : Side) (u : ℕ) (old new : Knowledge) :
    Type 0 where
  pub sleepers : HasSleepersOut floor (lock_queue l) old
  pub sleeps : IsLastAsleep (lock_queue l) side u sleepers.chain
  pub view : new ≡ seeing new.seen (aborted_off old (lock_queue l)
      (aborted_from u sleeps.head.contents) None
      (out_aborted floor (lock_queue l) u sleeps.head sleepers.chain old.out))
  pub step : Makes floor (Aborts old.thread (lock_queue l) side u ∷ []) old new
