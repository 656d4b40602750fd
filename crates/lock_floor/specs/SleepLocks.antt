-- How a thread comes to stand on the sleep queue of an sx lock, and how the last holder of one releases it where
-- waiters are shown: those of a side are taken off its sleep queue. No priority is lent.
use Rattle.std.specs.Prelude.{◌≡◌, ℕ, true, List, [], ◌∷◌, map, Some, None}
use Rattle.chain_table.specs.Chains.{head_of}
use Rattle.lock_model.specs.Operations.{without_lock}
use Rattle.lock_model.specs.Queues.{lock_queue, side_of}
use Rattle.lock_model.specs.Words.{Word, side_woken}
use Rattle.lock_model.specs.declared.plan.Mode.{Mode}
use Rattle.lock_model.specs.declared.plan.Side.{Side}
use Rattle.lock_objects.specs.Represents.{mark_of}
use Rattle.lock_objects.specs.Sleeps.{woken_of, chain_woken}
use Rattle.lock_state.specs.Steps.{EntersSleepQueue, OpensSleepQueue}
use Rattle.sleep_queues.specs.Seen.{Place}
use Rattle.floor_table.specs.Descriptions.{config_in}
use Rattle.floor_table.specs.Shares.{Doing}
use Rattle.floor_table.specs.Steps.{MayMake, Makes}
use Rattle.floor_table.specs.Views.{Knowledge, StandsOn, seeing}
use Rattle.floor_table.specs.declared.description.Description.{Description}
use Rattle.floor_table.specs.declared.slot.Slot.{Slot}
use Rattle.lock_floor.specs.Sleeps.{HasSleeperOut, sleeper_out, out_asleep}

-- 1. An enter

-- after an enter on the sleep queue of a lock: the thread stands there and wants the lock, its round has ended, and
-- these values are out. No walk begins
abbrev pub entered_asleep : Knowledge → ℕ → List (ℕ × Slot) → Knowledge
entered_asleep v l out =
    let after : Doing = record v.share.doing {
      wanted = Some l;
      called = None;
      round = None;
      last_look = None;
    } in
    record v {
      share = record v.share { doing = after };
      out = out;
      pose = StandsOn (lock_queue l);
    }

-- the thread may stand on a side of the lock's sleep queue, where the word is that
pub record MayEnterAsleep (floor : Description) (l : ℕ) (mode : Mode) (word : Word) (v : Knowledge)
    : Type 0 where
  pub sleeper : HasSleeperOut floor (lock_queue l) v
  pub own : ℕ
  pub home : sleeper.box.value.sleep_queue ≡ Some own
  pub may : MayMake floor v (λ s. s.word l ≡ word) (EntersSleepQueue v.thread l mode own ∷ [])

-- The thread stands at the tail of that side of the lock's sleep queue, by its base priority, and its record names the
-- queue: in one step the word shows that side, and its own sleep queue is lent
pub record EntersAsleep (floor : Description) (l : ℕ) (mode : Mode) (old new : Knowledge) : Type 0
  where
    pub sleeper : HasSleeperOut floor (lock_queue l) old
    pub own : ℕ
    pub home : sleeper.box.value.sleep_queue ≡ Some own
    pub view : new ≡ seeing new.seen (entered_asleep old l
        (out_asleep floor old.thread (lock_queue l) (side_of mode) own sleeper.box sleeper.chain))
    pub step : Makes floor (EntersSleepQueue old.thread l mode own ∷ []) old new

-- 2. An open

-- those of the side, each with the sleep queue that it takes back
abbrev pub sleepers_opened : (floor : Description) (l : ℕ) (side : Side) (v : Knowledge)
    → HasSleeperOut floor (lock_queue l) v → List Place
sleepers_opened floor l side v both = woken_of true side (head_of (lock_queue l) both.chain)

-- after the release of a lock, by which these are marked: the chain has lost them, and the record is as it was
abbrev pub opened_sleepers : (floor : Description) (l : ℕ) (side : Side) (v : Knowledge)
    → HasSleeperOut floor (lock_queue l) v → Knowledge
opened_sleepers floor l side v both =
    let after : Doing = record v.share.doing {
      marked = map (mark_of (lock_queue l)) (sleepers_opened floor l side v both);
      last_look = None;
    } in
    record v {
      share = record v.share { held = without_lock l v.share.held; doing = after };
      out = sleeper_out floor v.thread (lock_queue l) both.box
          (chain_woken (lock_queue l) true side (head_of (lock_queue l) both.chain) both.chain);
    }

-- the thread may release the lock, which it holds in a mode, where the word is that
pub record MayOpenSleepers (floor : Description) (l : ℕ) (word : Word) (v : Knowledge) : Type 0
  where
    pub both : HasSleeperOut floor (lock_queue l) v
    pub mode : Mode
    pub may : MayMake floor v (λ s. s.word l ≡ word) (OpensSleepQueue v.thread l mode ∷ [])

-- The last holder released the lock, whose word was that: in one step the word is free, and all sleepers of the side
-- that the word tells are in the marked list, each with the sleep queue that it takes back
pub record OpensSleepers (floor : Description) (l : ℕ) (word : Word) (old new : Knowledge) : Type 0
  where
    pub both : HasSleeperOut floor (lock_queue l) old
    pub mode : Mode
    pub side : Side
    pub told : side ≡ side_woken ((config_in floor).kind l) word
    pub view : new ≡ seeing new.seen (opened_sleepers floor l side old both)
    pub step : Makes floor (OpensSleepQueue old.thread l mode ∷ []) old new
