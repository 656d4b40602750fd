-- The work on the values that are out, before the step of a hop: what it asks, and that the step may be made behind it.
use Rattle.lock_floor.proofs.Names
use Names.{ℕ, Option, List, [], sym, ap, subst, with_value, IsSomeAnd, Global, Box, Me, Allows, head_of, lock_queue}
use Names.{QueueName, CanHop, RecordSeen, ThreadRec, Turnstile, spot, latch_line, FloorHolds, Knowledge, OfThread}
use Names.{Description, Slot, Record, Turnstiles, IsGoing, InHop, MayLendTo, MaySort, IsLentTo, IsSorted, StandsNowhere}
use Names.{record_and_chain, turnstiles_place, arith}
use Rattle.std.proofs.Common.{◌≡◌, ◌∷◌, ◌∙◌}
use Rattle.prio_lending.specs.declared.walk.Walk as run_time
use Rattle.lock_floor.proofs.WalkEnd.{Ended, end_allowed}
use Rattle.lock_floor.proofs.WalkLend.{Lent, lend_allowed}
use Rattle.lock_floor.proofs.WalkMay.{may_end_at_thread}
use Rattle.lock_floor.proofs.WalkSort.{Shifted, shift_allowed}

-- the seat knows what it knew
abbrev hop_behind : (floor : Description) (o : ℕ) (v w : Knowledge) → w ≡ v → InHop floor o v → InHop floor o w
hop_behind floor o v w same hop = record {
  one_chain = hop.one_chain;
  settled = λ e. hop.settled (sym (ap (λ (k : Knowledge). k.pose) same) ∙ e);
  going = subst IsGoing (sym same) hop.going;
  box = hop.box;
  chain = hop.chain;
  out = ap (λ (k : Knowledge). k.out) same ∙ hop.out;
}

-- what the work on the values at these places tells
abbrev pub LentOut : Description → ℕ → ℕ → ℕ → run_time.Walk → Me Slot Knowledge → Me Slot Knowledge → Type 0
LentOut floor l own at walk me worked =
    (b : Box ThreadRec Global) (c : List (QueueName × Turnstile)) → me.1 ≡ (own, Record b) ∷ (at, Turnstiles c) ∷ []
    → (m : RecordSeen) × (new : List (QueueName × Turnstile))
    × (worked.1 ≡ (own, Record (with_value b m)) ∷ (at, Turnstiles new) ∷ [])
    × IsLentTo floor l walk b.value m c new

abbrev pub SortedOut : Description → ℕ → ℕ → ℕ → run_time.Walk → Me Slot Knowledge → Me Slot Knowledge → Type 0
SortedOut floor l own at walk me worked =
    (b : Box ThreadRec Global) (c : List (QueueName × Turnstile)) → me.1 ≡ (own, Record b) ∷ (at, Turnstiles c) ∷ []
    → (new : List (QueueName × Turnstile)) × (worked.1 ≡ (own, Record b) ∷ (at, Turnstiles new) ∷ [])
    × IsSorted floor l walk b.value c new

abbrev pub UnsortedOut : Description → ℕ → ℕ → Me Slot Knowledge → Me Slot Knowledge → Type 0
UnsortedOut floor own at me worked =
    (b : Box ThreadRec Global) (c : List (QueueName × Turnstile)) → me.1 ≡ (own, Record b) ∷ (at, Turnstiles c) ∷ []
    → (worked.1 ≡ me.1) × StandsNowhere floor b.value c

-- 1. A lend

module _ (floor : Description) (me : Me Slot Knowledge) (l o own at : ℕ) (may : MayLendTo floor l o me.0)
    (out : me.1 ≡ me.0.out) (own_is : own ≡ o) (at_is : at ≡ turnstiles_place floor) where
  abbrev box : Box ThreadRec Global
  box = may.hop.box

  abbrev chain : List (QueueName × Turnstile)
  chain = may.hop.chain

  -- at these places
  pub lend_out_is : me.1 ≡ (own, Record box) ∷ (at, Turnstiles chain) ∷ []
  lend_out_is = out ∙ may.hop.out ∙ (λ i. (sym own_is i, Record box) ∷ (sym at_is i, Turnstiles chain) ∷ [])

  pub lend_before : (b : Box ThreadRec Global) × (c : List (QueueName × Turnstile))
      × (me.1 ≡ (own, Record b) ∷ (at, Turnstiles c) ∷ []) × IsSomeAnd (head_of (lock_queue l) c) (CanHop l b.value)
  lend_before = grind arith

  module _ (worked : Me Slot Knowledge) (view : worked.0 ≡ me.0) (walk : run_time.Walk)
      (outs : LentOut floor l own at walk me worked) where
    abbrev pub made : (m : RecordSeen) × (new : List (QueueName × Turnstile))
        × (worked.1 ≡ (own, Record (with_value box m)) ∷ (at, Turnstiles new) ∷ [])
        × IsLentTo floor l walk box.value m chain new
    made = outs box chain lend_out_is

    pub lend_made_out : worked.1 ≡ record_and_chain floor o (with_value box made.0) made.1
    lend_made_out = made.2
        ∙ (λ i. (own_is i, Record (with_value box made.0)) ∷ (at_is i, Turnstiles made.1) ∷ [])

    abbrev may_behind : MayLendTo floor l o worked.0
    may_behind = record {
      hop = hop_behind floor o me.0 worked.0 view may.hop;
      there = ap (λ (k : Knowledge). k.share.doing.walk) view ∙ may.there;
      on_floor = may.on_floor;
      of_floor = may.of_floor;
      turnstile = may.turnstile;
      head = may.head;
      owned = may.owned;
      can = may.can;
    }

    pub lend_may : me.0.role ≡ OfThread → (slots id : ℕ)
        → Allows (FloorHolds floor) slots id worked (spot (latch_line at)) (λ n. n) (Lent floor l o walk worked)
    lend_may was slots id =
        subst (λ j. Allows (FloorHolds floor) slots id worked (spot (latch_line j)) (λ n. n)
        (Lent floor l o walk worked))
        (sym at_is)
        (lend_allowed floor worked (ap (λ (k : Knowledge). k.role) view ∙ was) l o walk may_behind made.0 made.1
        lend_made_out made.3 slots id)

-- 2. A sorting anew, or the end

module _ (floor : Description) (me : Me Slot Knowledge) (o own at : ℕ) (may : MaySort floor o me.0)
    (out : me.1 ≡ me.0.out) (own_is : own ≡ o) (at_is : at ≡ turnstiles_place floor) where
  abbrev its_box : Box ThreadRec Global
  its_box = may.hop.box

  abbrev its_chain : List (QueueName × Turnstile)
  its_chain = may.hop.chain

  pub sort_out_is : me.1 ≡ (own, Record its_box) ∷ (at, Turnstiles its_chain) ∷ []
  sort_out_is = out ∙ may.hop.out ∙ (λ i. (sym own_is i, Record its_box) ∷ (sym at_is i, Turnstiles its_chain) ∷ [])

  pub sort_before : (b : Box ThreadRec Global) × (c : List (QueueName × Turnstile))
      × (me.1 ≡ (own, Record b) ∷ (at, Turnstiles c) ∷ [])
  sort_before = (its_box, its_chain, sort_out_is)

  module _ (worked : Me Slot Knowledge) (view : worked.0 ≡ me.0) where
    abbrev may_sort_behind : MaySort floor o worked.0
    may_sort_behind = record {
      hop = hop_behind floor o me.0 worked.0 view may.hop;
      there = ap (λ (k : Knowledge). k.share.doing.walk) view ∙ may.there;
      of_floor = may.of_floor;
    }

    -- it was sorted anew
    module _ (l : ℕ) (walk : run_time.Walk) (outs : SortedOut floor l own at walk me worked) where
      abbrev pub sorted : (new : List (QueueName × Turnstile))
          × (worked.1 ≡ (own, Record its_box) ∷ (at, Turnstiles new) ∷ [])
          × IsSorted floor l walk its_box.value its_chain new
      sorted = outs its_box its_chain sort_out_is

      pub sorted_out : worked.1 ≡ record_and_chain floor o its_box sorted.0
      sorted_out = sorted.1 ∙ (λ i. (own_is i, Record its_box) ∷ (at_is i, Turnstiles sorted.0) ∷ [])

      pub shift_may : me.0.role ≡ OfThread → (slots id : ℕ)
          → Allows (FloorHolds floor) slots id worked (spot (latch_line at)) (λ n. n) (Shifted floor l o walk worked)
      shift_may was slots id =
          subst (λ j. Allows (FloorHolds floor) slots id worked (spot (latch_line j)) (λ n. n)
          (Shifted floor l o walk worked)) (sym at_is)
          (shift_allowed floor worked (ap (λ (k : Knowledge). k.role) view ∙ was) l o walk may_sort_behind sorted.0
          sorted_out sorted.2 slots id)

    -- it stands nowhere
    module _ (outs : UnsortedOut floor own at me worked) where
      abbrev unsorted : (worked.1 ≡ me.1) × StandsNowhere floor its_box.value its_chain
      unsorted = outs its_box its_chain sort_out_is

      pub unsorted_out : worked.1 ≡ record_and_chain floor o its_box its_chain
      unsorted_out = unsorted.0 ∙ out ∙ may.hop.out

      pub end_may : me.0.role ≡ OfThread → (slots id : ℕ)
          → Allows (FloorHolds floor) slots id worked (spot (latch_line at)) (λ n. n) (Ended floor worked)
      end_may was slots id =
          subst (λ j. Allows (FloorHolds floor) slots id worked (spot (latch_line j)) (λ n. n) (Ended floor worked))
          (sym at_is)
          (end_allowed floor worked (ap (λ (k : Knowledge). k.role) view ∙ was) may.hop.one_chain
          (unsorted.0 ∙ out ∙ ap (λ (k : Knowledge). k.out) (sym view)) slots id
          (may_end_at_thread floor worked.0 o may_sort_behind unsorted.1))
