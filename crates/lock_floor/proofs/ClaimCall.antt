-- What the call that claims a lock needs of its parts, and what it was told.
use Rattle.lock_floor.proofs.Names
use Names.{ℕ, Bool, Some, List, [], refl, with_value, Global, Box, Me, head_of, lock_queue, LockNo, QueueName}
use Names.{CanBeLent, record_claimed, chain_claimed, Claims, ThreadRec, Turnstile, Knowledge, Description, Slot, Record}
use Names.{Turnstiles, ClaimsIt, as_claimed, claimed, out_claimed, chain_place, arith}
use Rattle.std.proofs.Common.{◌≡◌, ◌∷◌}
use Rattle.lock_floor.proofs.BothChanged.{out_before, worked}
use Rattle.lock_floor.proofs.ClaimStep.{ClaimsWord}

module _ (floor : Description) (l : LockNo) (by_try : Bool) (me behind : Me Slot Knowledge)
    (told : ClaimsWord floor l by_try me behind) (out : me.1 ≡ me.0.out) (own at : ℕ) (own_is : own ≡ me.0.thread)
    (at_is : at ≡ chain_place floor (lock_queue l.0)) where
  abbrev then : Knowledge
  then = claimed me.0 (as_claimed l by_try)
      (out_claimed floor me.0.thread l.0 told.both.box told.both.chain told.turnstile)

  before : behind.1 ≡ (own, Record told.both.box) ∷ (at, Turnstiles told.both.chain) ∷ []
  before = grind arith

  -- before the work on them
  pub its_out : (b : Box ThreadRec Global) × (chain : List (QueueName × Turnstile)) × (h : Turnstile)
      × (behind.1 ≡ (own, Record b) ∷ (at, Turnstiles chain) ∷ []) × (head_of (lock_queue l.0) chain ≡ Some h)
      × CanBeLent l.0 b.value h
  its_out = (told.both.box, told.both.chain, told.turnstile, before, told.there, told.can)

  -- behind it
  module _ (new : Me Slot Knowledge) (view : new.0 ≡ behind.0)
      (outs : (b : Box ThreadRec Global) (chain : List (QueueName × Turnstile)) (h : Turnstile)
      → head_of (lock_queue l.0) chain ≡ Some h → behind.1 ≡ (own, Record b) ∷ (at, Turnstiles chain) ∷ []
      → new.1 ≡ (own, Record (with_value b (record_claimed l.0 h b.value))) ∷
      (at, Turnstiles (chain_claimed l.0 b.value.thread h chain)) ∷ []) where
    pub its_work : ClaimsIt floor l by_try me.0 new.0 × (new.1 ≡ new.0.out)
    its_work =
        let steps = Claims me.0.thread l.0 told.turnstile.contents.number by_try ∷ [] in
        let work = worked floor (lock_queue l.0) me behind then told.is out told.both.box
        (Turnstiles told.both.chain) told.both.out own at own_is at_is steps new
        (with_value told.both.box (record_claimed l.0 told.turnstile told.both.box.value))
        (Turnstiles (chain_claimed l.0 told.both.box.value.thread told.turnstile told.both.chain)) told.step view
        (outs told.both.box told.both.chain told.turnstile told.there before) refl in (
          record {
            both = told.both;
            turnstile = told.turnstile;
            there = told.there;
            view = work.view;
            step = work.step;
          },
          work.out,
        )
