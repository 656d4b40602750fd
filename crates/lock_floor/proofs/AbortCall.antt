-- What a call that takes a sleeper off a queue by an abort leaves of the pass, and tells of it.
use Rattle.lock_floor.proofs.Names
use Names.{ℕ, Bool, true, false, Option, Some, List, [], map, refl, sym, ap, subst, Vec, Me, rest, head_of, Book}
use Names.{ByAbort, Held, QueueName, Side, aborted_from, chain_aborted, mark_by, Marked, AbortedSleepers, Look, Aborts}
use Names.{waiters, waits, SleepQueue, Place, Makes, Knowledge, seeing, Description, Slot, SleepQueues, AbortsSleeper}
use Names.{KeepsWord, aborted_off, out_aborted, AreMarked, IsTied, chain_place, arith}
use Rattle.std.proofs.Common.{◌≡◌, ◌∷◌, ◌∙◌, IsSomeAnd}
use Rattle.lock_model.specs.Queues.{without}
use Rattle.lock_floor.proofs.AbortStep.{TakenOff}
use Rattle.lock_floor.proofs.Tied.{tied_then}

module _ (floor : Description) (me behind : Me Slot Knowledge) (q : QueueName) (side : Side) (u : ℕ)
    {look : Option Look} (told : TakenOff floor q side u look me behind) (at : ℕ) (at_is : at ≡ chain_place floor q)
    (out : me.1 ≡ me.0.out) where
  abbrev chain : List (QueueName × SleepQueue)
  chain = told.sleepers.chain

  abbrev head : SleepQueue
  head = told.head

  abbrev ps : List Place
  ps = aborted_from u head.contents

  -- before the work on the chain
  last : behind.1 ≡ (at, SleepQueues chain) ∷ rest behind.1
  last =
      let same : behind.1 ≡ me.0.out = ap (λ (m : Me Slot Knowledge). m.1) told.is ∙ out in
      same ∙ told.sleepers.last ∙ (λ i. (sym at_is i, SleepQueues chain) ∷ rest (sym same i))

  pub before : (c : List (QueueName × SleepQueue)) × (behind.1 ≡ (at, SleepQueues c) ∷ rest behind.1)
      × IsSomeAnd (head_of q c) (λ h. waits u h.contents ≡ true)
  before = grind arith

  -- behind it
  module _ (new : Me Slot Knowledge) (woken : List Place) (view : new.0 ≡ behind.0)
      (outs : (c : List (QueueName × SleepQueue)) (h : SleepQueue) → head_of q c ≡ Some h
      → behind.1 ≡ (at, SleepQueues c) ∷ rest behind.1
      → (new.1 ≡ (at, SleepQueues (chain_aborted q u h c)) ∷ rest behind.1)
      × (woken ≡ aborted_from u h.contents)) where
    woken_are : woken ≡ ps
    woken_are = (outs chain head told.there last).1

    abbrev then : Knowledge
    then = aborted_off me.0 q ps look (out_aborted floor q u head chain me.0.out)

    pub call_view : new.0 ≡ seeing new.0.seen then
    call_view = view ∙ ap (λ (m : Me Slot Knowledge). m.0) told.is
        ∙ ap (λ xs. seeing xs then) (ap (λ (k : Knowledge). k.seen) (sym view))

    new_out : new.1 ≡ new.0.out
    new_out =
        let same : behind.1 ≡ me.0.out = ap (λ (m : Me Slot Knowledge). m.1) told.is ∙ out in
        (outs chain head told.there last).0
        ∙ (λ i. (at_is i, SleepQueues (chain_aborted q u head chain)) ∷ rest (same i))
        ∙ sym (ap (λ (k : Knowledge). k.out) call_view)

    pub call_tied : (who : ℕ) (locks : Vec Held) (marked : Marked) (book : Book) (fin : Bool) → fin ≡ false
        → IsTied who locks marked book fin me → me.0.description ≡ floor
        → IsTied who locks (AbortedSleepers woken) book fin new
    call_tied who locks marked book fin going h mine =
        let are : AreMarked floor (AbortedSleepers ps) (map (mark_by ByAbort q) ps) = record {
          queue = q;
          same = refl;
          kind = λ some. told.sleeps_there;
          held = told.held;
          of_floor = told.of_floor;
        } in
        subst (λ (xs : List Place). IsTied who locks (AbortedSleepers xs) book fin new) (sym woken_are)
        (tied_then who locks locks marked (AbortedSleepers ps) book fin me new then going h call_view new_out refl
        h.held h.room (subst (λ (k : Description). AreMarked k (AbortedSleepers ps) (map (mark_by ByAbort q) ps))
        (sym mine) are))

    pub call_step : Makes floor (Aborts me.0.thread q side u ∷ []) me.0 new.0
    call_step = subst (λ (k : Knowledge). Makes floor (Aborts me.0.thread q side u ∷ []) me.0 k) (sym view) told.step

-- where another stays on the side, if that is an sx lock's
module _ (floor : Description) (me behind : Me Slot Knowledge) (q : QueueName) (side : Side) (u : ℕ)
    (told : TakenOff floor q side u me.0.share.doing.last_look me behind) (at : ℕ) (at_is : at ≡ chain_place floor q)
    (out : me.1 ≡ me.0.out) (new : Me Slot Knowledge) (woken : List Place) (view : new.0 ≡ behind.0)
    (outs : (c : List (QueueName × SleepQueue)) (h : SleepQueue) → head_of q c ≡ Some h
    → behind.1 ≡ (at, SleepQueues c) ∷ rest behind.1
    → (new.1 ≡ (at, SleepQueues (chain_aborted q u h c)) ∷ rest behind.1)
    × (woken ≡ aborted_from u h.contents)) where
  pub call_aborts : KeepsWord q (without u (waiters side told.head.contents)) → AbortsSleeper floor q u me.0 new.0
  call_aborts stays = record {
    sleepers = told.sleepers;
    side = side;
    sleeps = record { head = told.head; there = told.there; stands = told.stands; keeps_word = stays };
    view = call_view floor me behind q side u told at at_is out new woken view outs;
    step = call_step floor me behind q side u told at at_is out new woken view outs;
  }
