-- How a thread goes to sleep on a channel, and how sleepers are taken off one: by one atomic step each, while the chain
-- of sleep queues in which the channel's queue stands is out.
use Rattle.std.specs.Prelude.{◌≡◌, ℕ, Bool, List, [], ◌∷◌, map, Some}
use Rattle.std.specs.Box.{with_value}
use Rattle.std.specs.declared.alloc.Global.{Global}
use Rattle.std.specs.declared.boxed.Box.{Box}
use Rattle.atomic_table.specs.Table.{rest}
use Rattle.chain_table.specs.Chains.{head_of}
use Rattle.lock_model.specs.Queues.{chan_queue}
use Rattle.lock_model.specs.declared.plan.QueueName.{QueueName}
use Rattle.lock_model.specs.declared.plan.Side.{Side}
use Rattle.lock_model.specs.declared.plan.Side.TheVariants.{X}
use Rattle.lock_objects.specs.Represents.{mark_of}
use Rattle.lock_objects.specs.Sleeps.{sleeper_of, record_asleep, chain_asleep, woken_of, chain_woken}
use Rattle.lock_state.specs.State.{Wake}
use Rattle.lock_state.specs.Steps.{Adds, Wakes}
use Rattle.lock_state.specs.Steps.LockWords.{bits_of_threads}
use Rattle.sleep_queues.specs.Seen.{SleepQueue, Place}
use Rattle.thread_records.specs.declared.record.ThreadRec.{ThreadRec}
use Rattle.floor_table.specs.Shares.{Doing}
use Rattle.floor_table.specs.Steps.{MayMake, Makes}
use Rattle.floor_table.specs.Views.{Knowledge, StandsOn, seeing}
use Rattle.floor_table.specs.declared.description.Description.{Description}
use Rattle.floor_table.specs.declared.slot.Slot.{Slot}
use Rattle.floor_table.specs.declared.slot.Slot.TheVariants.{Record, SleepQueues}
use Rattle.lock_floor.specs.Waits.{chain_place}

-- 1. What the thread has out

-- the chain of sleep queues in which the queue stands was taken last
pub record HasSleepersOut (floor : Description) (q : QueueName) (v : Knowledge) : Type 0 where
  pub chain : List (QueueName × SleepQueue)
  pub last : v.out ≡ (chain_place floor q, SleepQueues chain) ∷ rest v.out

-- the thread's record was taken last, and before it the chain of sleep queues in which the queue stands
abbrev pub sleeper_out : Description → ℕ → QueueName → Box ThreadRec Global
    → List (QueueName × SleepQueue) → List (ℕ × Slot)
sleeper_out floor t q b chain =
    (t, Record b) ∷ (chain_place floor q, SleepQueues chain) ∷ []

pub record HasSleeperOut (floor : Description) (q : QueueName) (v : Knowledge) : Type 0 where
  pub box : Box ThreadRec Global
  pub chain : List (QueueName × SleepQueue)
  pub out : v.out ≡ sleeper_out floor v.thread q box chain

-- 2. Sleepers of a channel are taken off

-- those whom a wake takes: the best sleeper, or all in the order in which they came
abbrev pub sleepers_woken : ℕ → Bool → List (QueueName × SleepQueue) → List Place
sleepers_woken d all chain = woken_of all X (head_of (chan_queue d) chain)

-- the values that are out, where the chain that was taken last has lost them
abbrev pub out_woken : Description → ℕ → Bool → List (QueueName × SleepQueue) → List (ℕ × Slot)
    → List (ℕ × Slot)
out_woken floor d all chain out = (
  chain_place floor (chan_queue d),
  SleepQueues (chain_woken (chan_queue d) all X (head_of (chan_queue d) chain) chain),
) ∷ rest out

-- after a wake of a channel: these are in the marked list, by a signal, and the wake is to be noted; and these values
-- are out
abbrev pub woke : Knowledge → ℕ → Bool → List Place → List (ℕ × Slot) → Knowledge
woke v d all ps out =
    let wake : Wake = record { chan = d; all = all; taken = map (λ p. p.thread) ps } in
    let after : Doing = record v.share.doing {
      marked = map (mark_of (chan_queue d)) ps;
      unstamped = Some wake;
    } in
    record v { share = record v.share { doing = after }; out = out }

-- the thread may wake the best sleeper of a channel, or all
pub record MayWakeSleepers (floor : Description) (d : ℕ) (all : Bool) (v : Knowledge) : Type 0 where
  pub sleepers : HasSleepersOut floor (chan_queue d) v
  pub may : MayMake floor v (λ s. Unit {0}) (Wakes v.thread d all ∷ [])

-- The thread took the best sleeper off a channel's queue, or all, each with the sleep queue that it takes back: in one
-- step they are in its marked list. The number has a bit for each of them
pub record WakesSleepers (floor : Description) (d : ℕ) (all : Bool) (bits : ℕ) (old new : Knowledge)
    : Type 0 where
  pub sleepers : HasSleepersOut floor (chan_queue d) old
  pub view : new ≡ seeing new.seen (woke old d all (sleepers_woken d all sleepers.chain)
      (out_woken floor d all sleepers.chain old.out))
  pub answer : bits ≡ bits_of_threads (map (λ p. p.thread) (sleepers_woken d all sleepers.chain))
  pub step : Makes floor (Wakes old.thread d all ∷ []) old new

-- 3. A thread goes to sleep on a channel

-- the values that are out, where the thread stands at the tail of a side of the queue, to which it lent its sleep
-- queue, x
abbrev pub out_asleep : Description → ℕ → QueueName → Side → ℕ → Box ThreadRec Global
    → List (QueueName × SleepQueue) → List (ℕ × Slot)
out_asleep floor t q side x b chain =
    sleeper_out floor t q (with_value b (record_asleep q b.value))
    (chain_asleep q side x (sleeper_of b.value) chain)

-- after an add: the thread stands on the channel's queue, and these values are out. What it is about stays: it wants
-- nothing
abbrev pub added : Knowledge → ℕ → List (ℕ × Slot) → Knowledge
added v d out = record v { out = out; pose = StandsOn (chan_queue d) }

-- the thread may go to sleep on a channel, with its own sleep queue at home
pub record MayAddItself (floor : Description) (d : ℕ) (v : Knowledge) : Type 0 where
  pub sleeper : HasSleeperOut floor (chan_queue d) v
  pub own : ℕ
  pub home : sleeper.box.value.sleep_queue ≡ Some own
  pub may : MayMake floor v (λ s. Unit {0}) (Adds v.thread d own ∷ [])

-- The thread stands at the tail of a channel's queue, by its base priority, and its record names the queue: in one step
-- its sleep queue is lent
pub record AddsItself (floor : Description) (d : ℕ) (old new : Knowledge) : Type 0 where
  pub sleeper : HasSleeperOut floor (chan_queue d) old
  pub own : ℕ
  pub home : sleeper.box.value.sleep_queue ≡ Some own
  pub view : new ≡ seeing new.seen (added old d
      (out_asleep floor old.thread (chan_queue d) X own sleeper.box sleeper.chain))
  pub step : Makes floor (Adds old.thread d own ∷ []) old new
