-- A hop at a lock, as the call makes it: it takes the chain at a place, finds the owner of the lock's turnstile there
-- or none, and goes on.
use Rattle.lock_floor.proofs.Names
use Names.{ℕ, Some, None, List, [], length, sym, ap, subst, Global, Box, rest, head_of, lock_queue, QueueName, Walk}
use Names.{NoWalk, AtLock, Lends, EndsWalk, TakesItem, GivesItem, Item, RecordOf, ThreadRec, Turnstile, slot_of}
use Names.{MayMake, Makes, Knowledge, seeing, Description, Slot, Record, Turnstiles, Pass, FindsOut, Takes, gave}
use Names.{HasTurnstilesOut, HopsOn, IsHopTo, NeedsRecord, MayLendTo, StepsInHop, hopped, owner_of_head, turnstiles}
use Names.{turnstiles_place}
use Rattle.std.proofs.Common.{◌≡◌, ◌<◌, ◌∷◌, ◌∙◌}
use Rattle.lock_floor.proofs.WalkHops.{chain_at_slot, chain_last_out, may_take_it, owner_of_floor, may_end, ended_last, ended_may_give, ended_hop, may_lend_it, record_last, may_give_it, chain_last, may_give_back, hop_of, lend_hop, b_thread}

-- the chain was looked at, which left the pass as it was
module _ (floor : Description) (j : ℕ) (at : j ≡ turnstiles_place floor) (p q : Pass Knowledge)
    (m : HasTurnstilesOut floor p.view) (same : q ≡ p) (l : ℕ) (there : p.view.share.doing.walk ≡ AtLock l) where
  -- 1. The turnstile has an owner

  module _ (o : ℕ) (owner : (x : List (QueueName × Turnstile)) → p.view.out ≡ (j, Turnstiles x) ∷ rest p.view.out
      → Some o ≡ owner_of_head (head_of (lock_queue l) x)) where
    owned : owner_of_head (head_of (lock_queue l) m.chain) ≡ Some o
    owned = sym (owner m.chain (chain_last_out floor p.view m j at))

    pub low : o < length floor.threads
    low = owner_of_floor floor p.view m l there o owned

    pub may_take : MayMake floor q.view (λ s. s.record_with o ≡ None) (TakesItem q.view.thread (RecordOf o) ∷ [])
    may_take = subst (λ (r : Pass Knowledge). MayMake floor r.view (λ s. s.record_with o ≡ None)
        (TakesItem r.view.thread (RecordOf o) ∷ [])) (sym same) (may_take_it floor p.view m o low)

    -- another has its record
    pub not_taken : (b : Knowledge) → b ≡ seeing b.seen q.view → b ≡ seeing b.seen p.view
    not_taken b left = left ∙ ap (λ (r : Pass Knowledge). seeing b.seen r.view) same

    pub found_out : (b : Knowledge) → FindsOut floor (RecordOf o) q.view b
        → (u : ℕ) × NeedsRecord floor u p.view × FindsOut floor (RecordOf u) p.view b
    found_out b finds = (
      o,
      record { chain = m.chain; out = m.out; to = subst (λ w. IsHopTo w m.chain o) (sym there) owned },
      subst (λ (r : Pass Knowledge). FindsOut floor (RecordOf o) r.view b) same finds,
    )

    module _ (b : Knowledge) (takes : Takes floor (RecordOf o) o q.view b) where
      has : Takes floor (RecordOf o) o p.view b
      has = subst (λ (r : Pass Knowledge). Takes floor (RecordOf o) o r.view b) same takes

      pub may_lend_to : MayLendTo floor l o b
      may_lend_to = may_lend_it floor p.view m o low b has l there owned

      module _ (w : Walk) (k : Knowledge) (lends : (h : ℕ) × StepsInHop floor o (Lends b.thread l o h) w b k) where
        pub lent_last : (x : Box ThreadRec Global) × (k.out ≡ (o, Record x) ∷ rest k.out)
        lent_last = record_last floor p.view m o low b has (Lends b.thread l o lends.0) w k lends.1

        pub lent_may_give : MayMake floor k (λ s. Unit {0}) (GivesItem k.thread (RecordOf o) ∷ [])
        lent_may_give = may_give_it floor p.view m o low b has (Lends b.thread l o lends.0) w k lends.1

        module _ (d : Knowledge) (back : d ≡ seeing d.seen (gave k (RecordOf o))) where
          pub then_last : (x : Slot) × (d.out ≡ (j, x) ∷ rest d.out)
          then_last = chain_last floor p.view m o low b has (Lends b.thread l o lends.0) w k lends.1 d back j at

          pub then_may_give : (i : Item) × (slot_of floor i ≡ Some j)
              × MayMake floor d (λ s. Unit {0}) (GivesItem d.thread i ∷ [])
          then_may_give = (
            turnstiles,
            chain_at_slot floor m.one_chain j at,
            may_give_back floor p.view m o low b has (Lends b.thread l o lends.0) w k lends.1 d back,
          )

          pub lent_hop : Makes floor (GivesItem k.thread (RecordOf o) ∷ []) k d → (e : Knowledge)
              → ((i : Item) → slot_of floor i ≡ Some j → e ≡ seeing e.seen (gave d i))
              → ((i : Item) → slot_of floor i ≡ Some j → Makes floor (GivesItem d.thread i ∷ []) d e)
              → HopsOn floor w p.view e
          lent_hop gives e view step =
              let place = chain_at_slot floor m.one_chain j at in
              let thread : b.thread ≡ p.view.thread = b_thread floor p.view m o low b has in
              hop_of floor p.view m o low b has (Lends b.thread l o lends.0) w k lends.1 d back gives e
              (view turnstiles place) (step turnstiles place)
              (lend_hop floor p.view m o low b has (Lends b.thread l o lends.0) w k lends.1 d back l lends.0 there
              (ap (λ t. Lends t l o lends.0) thread))

  -- 2. It has none

  module _ (none : (x : List (QueueName × Turnstile)) → p.view.out ≡ (j, Turnstiles x) ∷ rest p.view.out
      → None ≡ owner_of_head (head_of (lock_queue l) x)) where
    unowned : owner_of_head (head_of (lock_queue l) m.chain) ≡ None
    unowned = sym (none m.chain (chain_last_out floor p.view m j at))

    pub may_end_here : MayMake floor q.view (λ s. Unit {0}) (EndsWalk q.view.thread ∷ [])
    may_end_here = subst (λ (r : Pass Knowledge). MayMake floor r.view (λ s. Unit {0}) (EndsWalk r.view.thread ∷ []))
        (sym same) (may_end floor p.view m l there unowned)

    module _ (b : Knowledge) (view : b ≡ seeing b.seen (hopped q.view NoWalk q.view.out))
        (step : Makes floor (EndsWalk q.view.thread ∷ []) q.view b) where
      its_view : b ≡ seeing b.seen (hopped p.view NoWalk p.view.out)
      its_view = subst (λ (r : Pass Knowledge). b ≡ seeing b.seen (hopped r.view NoWalk r.view.out)) same view

      its_step : Makes floor (EndsWalk p.view.thread ∷ []) p.view b
      its_step = subst (λ (r : Pass Knowledge). Makes floor (EndsWalk r.view.thread ∷ []) r.view b) same step

      pub end_last : (x : Slot) × (b.out ≡ (j, x) ∷ rest b.out)
      end_last = ended_last floor p.view m l there b its_view its_step j at

      pub end_may_give : (i : Item) × (slot_of floor i ≡ Some j)
          × MayMake floor b (λ s. Unit {0}) (GivesItem b.thread i ∷ [])
      end_may_give = (
        turnstiles,
        chain_at_slot floor m.one_chain j at,
        ended_may_give floor p.view m l there b its_view its_step,
      )

      pub end_hop : (e : Knowledge) → ((i : Item) → slot_of floor i ≡ Some j → e ≡ seeing e.seen (gave b i))
          → ((i : Item) → slot_of floor i ≡ Some j → Makes floor (GivesItem b.thread i ∷ []) b e)
          → HopsOn floor NoWalk p.view e
      end_hop e gives back =
          let place = chain_at_slot floor m.one_chain j at in
          ended_hop floor p.view m l there b its_view its_step e (gives turnstiles place) (back turnstiles place)
