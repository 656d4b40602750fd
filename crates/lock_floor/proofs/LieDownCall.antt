-- What a call by which a thread comes to stand on a sleep queue needs for the work on what is out, and what that
-- leaves: an add to a channel, and an enter of an sx lock.
use Rattle.lock_floor.proofs.Names
use Names.{ℕ, Some, is_some, List, [], ap, with_value, Global, Box, Me, head_of, QueueName, Side, CanStand, sleeper_of}
use Names.{record_asleep, chain_asleep, Step, SleepQueue, ThreadRec, Makes, Knowledge, seeing, Description, Slot}
use Names.{Record, SleepQueues, HasSleeperOut, out_asleep, chain_place}
use Rattle.std.proofs.Common.{◌≡◌, ◌∷◌}
use Rattle.std.specs.Prelude.{IsSome}
use Rattle.lock_floor.proofs.BothChanged.{Worked, out_before, worked}

module _ (floor : Description) (me behind : Me Slot Knowledge) (q : QueueName) (side : Side)
    (both : HasSleeperOut floor q me.0) (x : ℕ) (home : both.box.value.sleep_queue ≡ Some x)
    (can : CanStand both.box.value.thread (head_of q both.chain)) (then : Knowledge)
    (then_out : then.out ≡ out_asleep floor me.0.thread q side x both.box both.chain)
    (is : behind ≡ (seeing behind.0.seen then, me.1))
    (own at : ℕ) (own_is : own ≡ me.0.thread) (at_is : at ≡ chain_place floor q) (out : me.1 ≡ me.0.out) where
  both_behind : behind.1 ≡ (own, Record both.box) ∷ (at, SleepQueues both.chain) ∷ []
  both_behind = out_before floor q me behind then is out both.box (SleepQueues both.chain) both.out own at own_is at_is

  -- behind it
  pub lain_down : (steps : List Step) (new : Me Slot Knowledge) → Makes floor steps me.0 behind.0 → new.0 ≡ behind.0
      → ((b : Box ThreadRec Global) (chain : List (QueueName × SleepQueue)) (y : ℕ)
      → b.value.sleep_queue ≡ Some y → behind.1 ≡ (own, Record b) ∷ (at, SleepQueues chain) ∷ []
      → new.1 ≡ (own, Record (with_value b (record_asleep q b.value)))
      ∷ (at, SleepQueues (chain_asleep q side y (sleeper_of b.value) chain)) ∷ []) → Worked floor steps me new then
  lain_down steps new makes view outs =
      worked floor q me behind then is out both.box (SleepQueues both.chain) both.out own at own_is at_is steps new
      (with_value both.box (record_asleep q both.box.value))
      (SleepQueues (chain_asleep q side x (sleeper_of both.box.value) both.chain)) makes view
      (outs both.box both.chain x home both_behind) then_out
