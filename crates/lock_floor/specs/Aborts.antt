-- How a thread at halting others takes one sleeper off a queue, by an abort.
use Rattle.std.specs.Prelude.{◌≡◌, ◌≢◌, ℕ, ◌<◌, true, List, [], ◌∷◌, ◌++◌, map, Option, Some, None, ⊤}
use Rattle.atomic_table.specs.Table.{rest}
use Rattle.chain_table.specs.Chains.{head_of}
use Rattle.lock_model.specs.Queues.{Waiter, ByAbort, times_waiting, without}
use Rattle.lock_model.specs.declared.plan.Side.{Side}
use Rattle.lock_model.specs.declared.plan.QueueName.{QueueName}
use Rattle.lock_model.specs.declared.plan.QueueName.TheVariants.{Lock, Chan}
use Rattle.lock_objects.specs.Aborts.{aborted_from, chain_aborted}
use Rattle.lock_objects.specs.Represents.{mark_by}
use Rattle.lock_state.specs.State.{Look}
use Rattle.lock_state.specs.Steps.{Step, Halts, Aborts, is_halting}
use Rattle.lock_state.specs.Steps.SleepQueues.{phase_aborting}
use Rattle.sleep_queues.specs.Changes.{waiters}
use Rattle.sleep_queues.specs.Seen.{Place, SleepQueue}
use Rattle.floor_table.specs.Shares.{Doing}
use Rattle.floor_table.specs.Steps.{MayMake, Makes}
use Rattle.floor_table.specs.Views.{Knowledge, seeing}
use Rattle.floor_table.specs.declared.description.Description.{Description}
use Rattle.floor_table.specs.declared.slot.Slot.{Slot}
use Rattle.floor_table.specs.declared.slot.Slot.TheVariants.{SleepQueues}
use Rattle.lock_floor.specs.Passes.{IsOffTheWay}
use Rattle.lock_floor.specs.Sleeps.{HasSleepersOut}
use Rattle.lock_floor.specs.Waits.{chain_place}

-- 1. Whom it takes

-- where the queue is an sx lock's, somebody is left on the side: so the lock's word stays
abbrev pub KeepsWord : QueueName → List Waiter → Type 0
KeepsWord (Lock l) left = left ≢ []
KeepsWord (Chan d) left = ⊤

-- A thread sleeps on that side of the queue, whose sleep queue is in the chain that was taken last. Of an sx lock's
-- queue another stays on the side
pub record IsSleeping (q : QueueName) (side : Side) (u : ℕ) (chain : List (QueueName × SleepQueue))
    : Type 0 where
  pub head : SleepQueue
  pub there : head_of q chain ≡ Some head
  pub stands : 0 < times_waiting u (waiters side head.contents)
  pub keeps_word : KeepsWord q (without u (waiters side head.contents))

-- The thread has seen that a thread set the halt word: it is one of the steps that had been made when it made its own
-- last one, or found an item out since
pub record HasSeenHalt (v : Knowledge) : Type 0 where
  pub later : List Step
  pub earlier : List Step
  pub by : ℕ
  pub is : v.seen ≡ later ++ Halts by ∷ earlier

-- A thread at halting others, with nobody left to mark and no wake to note, has seen that. It has ended, or runs, or
-- came to stand on a queue
pub record IsHaltingOthers (v : Knowledge) : Type 0 where
  pub phase : is_halting v.share.doing.phase ≡ true
  pub halted : HasSeenHalt v
  pub there : IsOffTheWay v.pose
  pub unmarked : v.share.doing.marked ≡ []
  pub stamped : v.share.doing.unstamped ≡ None

-- 2. What the abort makes of it

-- the values that are out, where the chain that was taken last has lost the sleeper
abbrev pub out_aborted : Description → QueueName → ℕ → SleepQueue → List (QueueName × SleepQueue)
    → List (ℕ × Slot) → List (ℕ × Slot)
out_aborted floor q u h chain out =
    (chain_place floor q, SleepQueues (chain_aborted q u h chain)) ∷ rest out

-- after an abort: these are in the marked list, by an abort; this is the last look; a finder is none any more; and
-- these values are out
abbrev pub aborted_off : Knowledge → QueueName → List Place → Option Look → List (ℕ × Slot)
    → Knowledge
aborted_off v q ps look out =
    let after : Doing = record v.share.doing {
      marked = map (mark_by ByAbort q) ps;
      last_look = look;
      phase = phase_aborting v.share.doing.phase;
    } in
    record v { share = record v.share { doing = after }; out = out }

-- the thread may take a sleeper off a queue by an abort
pub record MayAbortSleeper (floor : Description) (q : QueueName) (u : ℕ) (v : Knowledge) : Type 0
  where
    pub sleepers : HasSleepersOut floor q v
    pub side : Side
    pub sleeps : IsSleeping q side u sleepers.chain
    pub may : MayMake floor v (λ s. Unit {0}) (Aborts v.thread q side u ∷ [])

-- The thread took a sleeper off a queue, with the sleep queue that it takes back: in one step it is alone in the marked
-- list, by an abort. No lock's word changed, and the thread's last look stays
pub record AbortsSleeper (floor : Description) (q : QueueName) (u : ℕ) (old new : Knowledge) : Type 0
  where
    pub sleepers : HasSleepersOut floor q old
    pub side : Side
    pub sleeps : IsSleeping q side u sleepers.chain
    pub view : new ≡ seeing new.seen (aborted_off old q (aborted_from u sleeps.head.contents)
        old.share.doing.last_look (out_aborted floor q u sleeps.head sleepers.chain old.out))
    pub step : Makes floor (Aborts old.thread q side u ∷ []) old new
