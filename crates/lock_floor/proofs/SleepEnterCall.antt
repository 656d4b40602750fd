-- What the call by which a thread comes to stand on the sleep queue of an sx lock leaves of the pass, and tells of it.
use Rattle.lock_floor.proofs.Names
use Names.{ℕ, Bool, false, Some, List, [], refl, with_value, Vec, Global, Box, Me, head_of, Book, lock_queue, side_of}
use Names.{Held, Mode, QueueName, Side, CanStand, sleeper_of, record_asleep, chain_asleep, Marked, EntersSleepQueue}
use Names.{SleepQueue, ThreadRec, Knowledge, Description, Slot, Record, SleepQueues, EntersAsleep, entered_asleep}
use Names.{out_asleep, IsTied, chain_place, arith}
use Rattle.std.proofs.Common.{◌≡◌, ◌∷◌, ◌∙◌}
use Rattle.std.specs.Prelude.{IsSome}
use Rattle.lock_floor.proofs.BothChanged.{Worked}
use Rattle.lock_floor.proofs.LieDownCall.{lain_down}
use Rattle.lock_floor.proofs.SleepEnterStep.{EntersWord, ToldEntered}
use Rattle.lock_floor.proofs.Tied.{tied_on}

module _ (floor : Description) (me behind : Me Slot Knowledge) (l : ℕ) (mode : Mode) (seen found : ℕ)
    (tells : ToldEntered floor l mode seen me found behind) (hit : found ≡ seen)
    (own at : ℕ) (own_is : own ≡ me.0.thread) (at_is : at ≡ chain_place floor (lock_queue l))
    (out : me.1 ≡ me.0.out) (side : Side) (its_side : side ≡ side_of mode) where
  abbrev q : QueueName
  q = lock_queue l

  abbrev pub told : EntersWord floor l mode seen me behind
  told = tells.0 hit

  abbrev then : Knowledge
  then = entered_asleep me.0 l
      (out_asleep floor me.0.thread q (side_of mode) told.may.own told.may.sleeper.box told.may.sleeper.chain)

  pub before : (b : Box ThreadRec Global) × (chain : List (QueueName × SleepQueue))
      × (behind.1 ≡ (own, Record b) ∷ (at, SleepQueues chain) ∷ []) × IsSome b.value.sleep_queue
      × CanStand b.value.thread (head_of q chain)
  before = grind arith

  module _ (new : Me Slot Knowledge) (view : new.0 ≡ behind.0)
      (outs : (b : Box ThreadRec Global) (chain : List (QueueName × SleepQueue)) (y : ℕ)
      → b.value.sleep_queue ≡ Some y → behind.1 ≡ (own, Record b) ∷ (at, SleepQueues chain) ∷ []
      → new.1 ≡ (own, Record (with_value b (record_asleep q b.value)))
      ∷ (at, SleepQueues (chain_asleep q side y (sleeper_of b.value) chain)) ∷ []) where
    outs_of : (b : Box ThreadRec Global) (chain : List (QueueName × SleepQueue)) (y : ℕ)
        → b.value.sleep_queue ≡ Some y → behind.1 ≡ (own, Record b) ∷ (at, SleepQueues chain) ∷ []
        → new.1 ≡ (own, Record (with_value b (record_asleep q b.value)))
        ∷ (at, SleepQueues (chain_asleep q (side_of mode) y (sleeper_of b.value) chain)) ∷ []
    outs_of b chain y home is = outs b chain y home is
        ∙ (λ i. (own, Record (with_value b (record_asleep q b.value)))
        ∷ (at, SleepQueues (chain_asleep q (its_side i) y (sleeper_of b.value) chain)) ∷ [])

    pub its_work : Worked floor (EntersSleepQueue me.0.thread l mode told.may.own ∷ []) me new then
    its_work = lain_down floor me behind q (side_of mode) told.may.sleeper told.may.own told.may.home told.can then refl
        told.is own at own_is at_is out (EntersSleepQueue me.0.thread l mode told.may.own ∷ []) new told.step view
        outs_of

    pub call_tied : (who : ℕ) (locks : Vec Held) (marked : Marked) (book : Book) (fin : Bool) → fin ≡ false
        → IsTied who locks marked book fin me → IsTied who locks marked book fin new
    call_tied who locks marked book fin going h =
        tied_on who locks marked book fin me new then going h its_work.view its_work.out refl refl refl

    pub call_enters : EntersAsleep floor l mode me.0 new.0
    call_enters = record {
      sleeper = told.may.sleeper;
      own = told.may.own;
      home = told.may.home;
      view = its_work.view;
      step = its_work.step;
    }
