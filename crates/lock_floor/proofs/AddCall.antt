-- What the call by which a thread goes to sleep on a channel leaves of the pass, and tells of it.
use Rattle.lock_floor.proofs.Names
use Names.{ℕ, Bool, false, Some, List, [], refl, with_value, Vec, Global, Box, Me, head_of, Book, chan_queue, Held}
use Names.{QueueName, X, CanStand, sleeper_of, record_asleep, chain_asleep, Marked, Adds, SleepQueue, ThreadRec}
use Names.{Knowledge, Description, Slot, Record, SleepQueues, AddsItself, added, out_asleep, IsTied, chain_place, arith}
use Rattle.std.proofs.Common.{◌≡◌, ◌∷◌}
use Rattle.std.specs.Prelude.{IsSome}
use Rattle.lock_floor.proofs.AddStep.{AddedTo}
use Rattle.lock_floor.proofs.BothChanged.{Worked}
use Rattle.lock_floor.proofs.LieDownCall.{lain_down}
use Rattle.lock_floor.proofs.Tied.{tied_on}

module _ (floor : Description) (me behind : Me Slot Knowledge) (d : ℕ) (told : AddedTo floor d me behind)
    (own at : ℕ) (own_is : own ≡ me.0.thread) (at_is : at ≡ chain_place floor (chan_queue d))
    (out : me.1 ≡ me.0.out) where
  abbrev q : QueueName
  q = chan_queue d

  abbrev then : Knowledge
  then = added me.0 d (out_asleep floor me.0.thread q X told.may.own told.may.sleeper.box told.may.sleeper.chain)

  pub before : (b : Box ThreadRec Global) × (c : List (QueueName × SleepQueue))
      × (behind.1 ≡ (own, Record b) ∷ (at, SleepQueues c) ∷ []) × IsSome b.value.sleep_queue
      × CanStand b.value.thread (head_of q c)
  before = grind arith

  module _ (new : Me Slot Knowledge) (view : new.0 ≡ behind.0)
      (outs : (b : Box ThreadRec Global) (c : List (QueueName × SleepQueue)) (x : ℕ) → b.value.sleep_queue ≡ Some x
      → behind.1 ≡ (own, Record b) ∷ (at, SleepQueues c) ∷ []
      → new.1 ≡ (own, Record (with_value b (record_asleep q b.value)))
      ∷ (at, SleepQueues (chain_asleep q X x (sleeper_of b.value) c)) ∷ []) where
    pub its_work : Worked floor (Adds me.0.thread d told.may.own ∷ []) me new then
    its_work = lain_down floor me behind q X told.may.sleeper told.may.own told.may.home told.can then refl told.is own
        at own_is at_is out (Adds me.0.thread d told.may.own ∷ []) new told.step view outs

    pub call_tied : (who : ℕ) (locks : Vec Held) (marked : Marked) (book : Book) (fin : Bool) → fin ≡ false
        → IsTied who locks marked book fin me → IsTied who locks marked book fin new
    call_tied who locks marked book fin going h =
        tied_on who locks marked book fin me new then going h its_work.view its_work.out refl refl refl

    pub call_adds : AddsItself floor d me.0 new.0
    call_adds = record {
      sleeper = told.may.sleeper;
      own = told.may.own;
      home = told.may.home;
      view = its_work.view;
      step = its_work.step;
    }
