-- A hop of a walk, from its atomic steps: the chain of turnstiles is taken and then a record, the walk makes its step,
-- and both are given back.
use Rattle.lock_floor.proofs.Names
use Names.{ℕ, Option, Some, None, List, [], length, refl, sym, ap, subst, inl, inr, Global, Box, rest, head_of}
use Names.{lock_queue, Walk, NoWalk, AtLock, AtThread, Step, TakesItem, GivesItem, Lends, EndsWalk, Item, RecordOf}
use Names.{in_its_chain, item_with, ThreadRec, Turnstile, slot_of, MayMake, Makes, Knowledge, seeing, Description, Slot}
use Names.{Record, Turnstiles, Takes, IsGoing, gave, IsOnFloor, CanWalk, IsHop, IsStepAtThread, in_chain, with_record}
use Names.{Hops, HopsOn, HasTurnstilesOut, InHop, MayLendTo, MaySort, StepsInHop, hopped, walked, owner_of_head}
use Names.{record_and_chain, turnstiles, turnstiles_place, fits_made}
use Rattle.std.proofs.Common.{◌≡◌, ◌≢◌, ◌<◌, ◌∷◌, ◌++◌, ◌∙◌}
use Rattle.floor_table.specs.Views.{IsReady}
use Rattle.lock_floor.proofs.Priorities.{a_record}
use Rattle.lock_floor.proofs.WalkChains.{turnstiles_at}
use Rattle.lock_floor.proofs.WalkMay.{may_take_turnstiles, may_take_under, may_give_record, may_give_turnstiles, may_end_at_lock, uncounted_under}
use Rattle.lock_floor.proofs.WalkRecords.{a_chain, owner_low, can_lend_to}

-- 1. The chain, wherever its place is told

module _ (floor : Description) (one : floor.chains ≡ 1) (j : ℕ) (is : j ≡ turnstiles_place floor) where
  pub chain_at_slot : slot_of floor turnstiles ≡ Some j
  chain_at_slot = turnstiles_at floor one ∙ ap Some (sym is)

  pub taken_there : (v a : Knowledge) → ((i : Item) → slot_of floor i ≡ Some j → Takes floor i j v a)
      → Takes floor turnstiles (turnstiles_place floor) v a
  taken_there v a told = subst (λ k. Takes floor turnstiles k v a) is (told turnstiles chain_at_slot)

  pub may_take_there : (v : Knowledge) → CanWalk floor v
      → (i : Item) × (slot_of floor i ≡ Some j)
      × MayMake floor v (λ s. item_with s i ≡ None) (TakesItem v.thread i ∷ [])
  may_take_there v can = (turnstiles, chain_at_slot, may_take_turnstiles floor v can)

-- what is out alone is out last
last_at : (out : List (ℕ × Slot)) {p : ℕ} (j : ℕ) (x : Slot) (xs : List (ℕ × Slot)) → j ≡ p → out ≡ (p, x) ∷ xs
    → out ≡ (j, x) ∷ rest out
last_at out j x xs is e = e ∙ (λ i. (sym is i, x) ∷ sym (ap rest e) i)

-- 2. The chain is out

-- it was taken
pub has_turnstiles : (floor : Description) (v a : Knowledge) → CanWalk floor v
    → Takes floor turnstiles (turnstiles_place floor) v a → HasTurnstilesOut floor a
has_turnstiles floor v a can taken =
    let chain = a_chain taken.value taken.kind in
    record {
      one_chain = can.one_chain;
      on_floor = subst (IsOnFloor floor) (sym (ap (λ (k : Knowledge). k.share.doing.walk) taken.view)) can.on_floor;
      settled = λ e. can.settled (sym (ap (λ (k : Knowledge). k.pose) taken.view) ∙ e);
      no_round = ap (λ (k : Knowledge). k.share.doing.round) taken.view ∙ ap in_its_chain can.no_round;
      going = subst IsGoing (sym taken.view)
          assumption can.going;
      chain = chain.0;
      out = ap (λ (k : Knowledge). k.out) taken.view
          ∙ (λ i. (turnstiles_place floor, chain.1 i) ∷ can.nothing_out i);
      owners = λ l o turnstile owned. owner_low floor can.one_chain v a taken chain.0 chain.1 l o turnstile owned;
    }

module _ (floor : Description) (a : Knowledge) (m : HasTurnstilesOut floor a) where
  -- at its place
  pub chain_last_out : (j : ℕ) → j ≡ turnstiles_place floor → a.out ≡ (j, Turnstiles m.chain) ∷ rest a.out
  chain_last_out j is = last_at a.out j (Turnstiles m.chain) [] is m.out

  pub may_take_it : (o : ℕ) → o < length floor.threads
      → MayMake floor a (λ s. s.record_with o ≡ None) (TakesItem a.thread (RecordOf o) ∷ [])
  may_take_it o low = may_take_under floor a m.one_chain m.settled m.going o (Turnstiles m.chain) low m.no_round m.out

  -- 3. At a lock without an owner

  module _ (l : ℕ) (there : a.share.doing.walk ≡ AtLock l) where
    at_lock : IsOnFloor floor (AtLock l)
    at_lock = subst (IsOnFloor floor) there m.on_floor

    pub owner_of_floor : (o : ℕ) → owner_of_head (head_of (lock_queue l) m.chain) ≡ Some o
        → o < length floor.threads
    owner_of_floor o owned = m.owners l o at_lock.1 owned

    pub may_end : owner_of_head (head_of (lock_queue l) m.chain) ≡ None
        → MayMake floor a (λ s. Unit {0}) (EndsWalk a.thread ∷ [])
    may_end unowned = may_end_at_lock floor a m.one_chain m.settled m.going l at_lock.1 there m.chain m.out unowned

    module _ (b : Knowledge) (view : b ≡ seeing b.seen (hopped a NoWalk a.out))
        (step : Makes floor (EndsWalk a.thread ∷ []) a b) where
      ended_out : b.out ≡ (turnstiles_place floor, Turnstiles m.chain) ∷ []
      ended_out = ap (λ (k : Knowledge). k.out) view ∙ m.out

      pub ended_last : (j : ℕ) → j ≡ turnstiles_place floor → (x : Slot) × (b.out ≡ (j, x) ∷ rest b.out)
      ended_last j is = (Turnstiles m.chain, last_at b.out j (Turnstiles m.chain) [] is ended_out)

      pub ended_may_give : MayMake floor b (λ s. Unit {0}) (GivesItem b.thread turnstiles ∷ [])
      ended_may_give = may_give_turnstiles floor b m.one_chain
          (λ e. m.settled (sym (ap (λ (k : Knowledge). k.pose) view) ∙ e))
          (subst IsGoing (sym view)
          assumption m.going)
          (Turnstiles m.chain) (ap (λ (k : Knowledge). k.share.doing.round) view ∙ m.no_round) ended_out

      pub ended_hop : (e : Knowledge) → e ≡ seeing e.seen (gave b turnstiles)
          → Makes floor (GivesItem b.thread turnstiles ∷ []) b e → HopsOn floor NoWalk a e
      ended_hop e gives gave_step =
          let same : b.thread ≡ a.thread = ap (λ (k : Knowledge). k.thread) view in
          let back : Makes floor (GivesItem a.thread turnstiles ∷ []) b e =
          subst (λ t. Makes floor (GivesItem t turnstiles ∷ []) b e) same gave_step in
          record {
            steps = (EndsWalk a.thread ∷ []) ∷ (GivesItem a.thread turnstiles ∷ []) ∷ [];
            hop = subst (λ w. IsHop a.thread w (in_chain a.thread ((EndsWalk a.thread ∷ []) ∷ []))) (sym there)
                (inr refl);
            each = (b, step, (e, back, refl));
            view = gives
                ∙ ap (λ k. seeing e.seen (gave k turnstiles)) view
                ∙ (λ i. record (seeing e.seen a) {
                  out = ap rest m.out i;
                  share = record a.share {
                    doing = record a.share.doing { walk = NoWalk; seen_in_section = None };
                  };
                });
            on_floor = tt;
          }

  -- 4. And a record is out

  module _ (o : ℕ) (low : o < length floor.threads) (b : Knowledge) (has : Takes floor (RecordOf o) o a b) where
    abbrev pub its_box : (box : Box ThreadRec Global) × (has.value ≡ Record box)
    its_box = a_record o has.value has.kind

    both_out : b.out ≡ record_and_chain floor o its_box.0 m.chain
    both_out = ap (λ (k : Knowledge). k.out) has.view ∙ (λ i. (o, its_box.1 i) ∷ m.out i)

    pub b_thread : b.thread ≡ a.thread
    b_thread = ap (λ (k : Knowledge). k.thread) has.view

    b_walk : b.share.doing.walk ≡ a.share.doing.walk
    b_walk = ap (λ (k : Knowledge). k.share.doing.walk) has.view

    b_settled : b.pose ≢ IsReady
    b_settled e = m.settled (sym (ap (λ (k : Knowledge). k.pose) has.view) ∙ e)

    b_going : IsGoing b
    b_going = subst IsGoing (sym has.view)
        assumption m.going

    b_round : b.share.doing.round ≡ None
    b_round = ap (λ (k : Knowledge). k.share.doing.round) has.view ∙ m.no_round

    abbrev in_hop : InHop floor o b
    in_hop = record {
      one_chain = m.one_chain;
      settled = b_settled;
      going = b_going;
      box = its_box.0;
      chain = m.chain;
      out = both_out;
    }

    pub may_sort_it : a.share.doing.walk ≡ AtThread o → MaySort floor o b
    may_sort_it there = record { hop = in_hop; there = b_walk ∙ there; of_floor = low }

    pub may_lend_it : (l : ℕ) → a.share.doing.walk ≡ AtLock l
        → owner_of_head (head_of (lock_queue l) m.chain) ≡ Some o → MayLendTo floor l o b
    may_lend_it l there owned =
        let d = owner_there (head_of (lock_queue l) m.chain) owned in
        let at = at_lock l there in
        record {
          hop = in_hop;
          there = b_walk ∙ there;
          on_floor = at;
          of_floor = low;
          turnstile = d.0;
          head = d.1;
          owned = d.2;
          can = can_lend_to floor m.one_chain a b o l low at has its_box.0 its_box.1 m.chain m.out there d.0 d.1 d.2;
        }
      where
        owner_there : (x : Option Turnstile) → owner_of_head x ≡ Some o
            → (d : Turnstile) × (x ≡ Some d) × (d.contents.own.owner ≡ Some o)
        owner_there None e = absurd (let z : None ≡ Some o = e in cc)
        owner_there (Some d) e = (d, refl, e)

    -- the step was made
    module _ (step : Step) (w : Walk) (k : Knowledge) (its : StepsInHop floor o step w b k) where
      abbrev after_out : List (ℕ × Slot)
      after_out = record_and_chain floor o its.box its.chain

      k_out : k.out ≡ after_out
      k_out = ap (λ (x : Knowledge). x.out) its.view

      pub record_last : (x : Box ThreadRec Global) × (k.out ≡ (o, Record x) ∷ rest k.out)
      record_last = (its.box, k_out ∙ ap (λ xs. (o, Record its.box) ∷ xs) (sym (ap rest k_out)))

      k_settled : k.pose ≢ IsReady
      k_settled e = b_settled (sym (ap (λ (x : Knowledge). x.pose) its.view) ∙ e)

      k_going : IsGoing k
      k_going = subst IsGoing (sym its.view)
          assumption b_going

      -- it had counted nobody in when it took the record
      k_uncounted : k.share.doing.counting ≡ None
      k_uncounted = ap (λ (x : Knowledge). x.share.doing.counting) its.view
          ∙ ap (λ (x : Knowledge). x.share.doing.counting) has.view
          ∙ uncounted_under floor a m.one_chain (Turnstiles m.chain) m.out has.step.state
          (fits_made floor (TakesItem a.thread (RecordOf o) ∷ []) a b has.step)

      pub may_give_it : MayMake floor k (λ s. Unit {0}) (GivesItem k.thread (RecordOf o) ∷ [])
      may_give_it = may_give_record floor k m.one_chain k_settled k_going o (Record its.box) _ low k_out k_uncounted

      -- and the record was given back
      module _ (d : Knowledge) (gave_one : d ≡ seeing d.seen (gave k (RecordOf o))) where
        d_out : d.out ≡ (turnstiles_place floor, Turnstiles its.chain) ∷ []
        d_out = ap (λ (x : Knowledge). x.out) gave_one ∙ ap rest k_out

        pub chain_last : (j : ℕ) → j ≡ turnstiles_place floor → (x : Slot) × (d.out ≡ (j, x) ∷ rest d.out)
        chain_last j is = (Turnstiles its.chain, last_at d.out j (Turnstiles its.chain) [] is d_out)

        pub may_give_back : MayMake floor d (λ s. Unit {0}) (GivesItem d.thread turnstiles ∷ [])
        may_give_back = may_give_turnstiles floor d m.one_chain
            (λ e. k_settled (sym (ap (λ (x : Knowledge). x.pose) gave_one) ∙ e))
            (subst IsGoing (sym gave_one)
            assumption k_going)
            (Turnstiles its.chain)
            (ap (λ (x : Knowledge). x.share.doing.round) gave_one
            ∙ ap (λ (x : Knowledge). x.share.doing.round) its.view ∙ b_round) d_out

        pub hop_of : Makes floor (GivesItem k.thread (RecordOf o) ∷ []) k d → (e : Knowledge)
            → e ≡ seeing e.seen (gave d turnstiles) → Makes floor (GivesItem d.thread turnstiles ∷ []) d e
            → IsHop a.thread a.share.doing.walk (in_chain a.thread (with_record a.thread o step)) → HopsOn floor w a e
        hop_of gives e gave_both gives_chain is_hop =
            let k_thread : k.thread ≡ a.thread = ap (λ (x : Knowledge). x.thread) its.view ∙ b_thread in
            let d_thread : d.thread ≡ a.thread = ap (λ (x : Knowledge). x.thread) gave_one ∙ k_thread in
            let gives_record : Makes floor (GivesItem a.thread (RecordOf o) ∷ []) k d =
            subst (λ t. Makes floor (GivesItem t (RecordOf o) ∷ []) k d) k_thread gives in
            let back : Makes floor (GivesItem a.thread turnstiles ∷ []) d e =
            subst (λ t. Makes floor (GivesItem t turnstiles ∷ []) d e) d_thread gives_chain in
            record {
              steps = with_record a.thread o step ++ (GivesItem a.thread turnstiles ∷ []) ∷ [];
              hop = is_hop;
              each = (b, has.step, (k, its.made, (d, gives_record, (e, back, refl))));
              view = gave_both
                  ∙ ap (λ x. seeing e.seen (gave x turnstiles)) gave_one
                  ∙ ap (λ x. seeing e.seen (gave (gave x (RecordOf o)) turnstiles)) its.view
                  ∙ ap (λ x. seeing e.seen (gave (gave (hopped x w after_out) (RecordOf o)) turnstiles)) has.view;
              on_floor = its.on_floor;
            }

        -- at a lock it was a lend
        pub lend_hop : (l h : ℕ) → a.share.doing.walk ≡ AtLock l → step ≡ Lends a.thread l o h
            → IsHop a.thread a.share.doing.walk (in_chain a.thread (with_record a.thread o step))
        lend_hop l h there is =
            subst (λ x. IsHop a.thread x (in_chain a.thread (with_record a.thread o step))) (sym there)
            (inl (o, (h, ap (λ x. in_chain a.thread (with_record a.thread o x)) is)))

        -- at a thread a sorting anew, or the end
        pub sort_hop : a.share.doing.walk ≡ AtThread o → IsStepAtThread a.thread o step
            → IsHop a.thread a.share.doing.walk (in_chain a.thread (with_record a.thread o step))
        sort_hop there is =
            subst (λ x. IsHop a.thread x (in_chain a.thread (with_record a.thread o step))) (sym there) (step, is, refl)

-- 5. The hop as a whole, from the taking of the chain on

pub hops_all : (floor : Description) (w : Walk) (v a e : Knowledge) → CanWalk floor v
    → Takes floor turnstiles (turnstiles_place floor) v a → HopsOn floor w a e → Hops floor w v e
hops_all floor w v a e can taken h =
    let same : a.thread ≡ v.thread = ap (λ (k : Knowledge). k.thread) taken.view in
    let there : a.share.doing.walk ≡ v.share.doing.walk = ap (λ (k : Knowledge). k.share.doing.walk) taken.view in
    record {
      steps = (TakesItem v.thread turnstiles ∷ []) ∷ h.steps;
      hop = subst (λ (z : ℕ × Walk). IsHop z.0 z.1 ((TakesItem z.0 turnstiles ∷ []) ∷ h.steps))
          (λ i. (same i, there i)) h.hop;
      each = (a, taken.step, h.each);
      view = h.view
          ∙ ap (λ (k : Knowledge). seeing e.seen (record (walked k w) { out = [] })) taken.view
          ∙ (λ i. record (seeing e.seen v) {
            out = sym can.nothing_out i;
            share = record v.share {
              doing = record v.share.doing {
                walk = w;
                seen_in_section = None;
                round = (ap in_its_chain can.no_round ∙ sym can.no_round) i;
              };
            };
          });
      on_floor = h.on_floor;
    }
