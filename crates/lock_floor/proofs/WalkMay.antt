-- What a thread's seat knows allows the steps of a hop: it takes the chain of turnstiles and then a record, lends,
-- sorts anew or ends its walk, and gives both back.
use Rattle.lock_floor.proofs.Names
use Names.{ℕ, true, false, ltb, Option, Some, None, IfSome, List, [], length, refl, sym, ap, subst, inl, inr, arith}
use Names.{IsSomeAnd, cases_eq, ltb-true, ltb-false, head_of, no_owner, none_stands, Config, Lists, lock_queue, stands}
use Names.{is_turnstile, QueueName, QueueColumns, RecordColumns, RepresentsQueue, RepresentsRecord, queue_in, record_in}
use Names.{Lawful, State, Wait, Running, Queued, Round, AtLock, AtThread, is_parked, TakesItem, GivesItem, Lends}
use Names.{Shifts, EndsWalk, HasItem, HasOutForEnd, IsOfRound, IsRunnable, OwesNoStep, GoesOn, Item, RecordOf}
use Names.{item_with, go_together, is_bound, IsOnItsWay, IsSettled, IsAtEnd, is_woken, lists_of, Turnstile, config_in}
use Names.{slot_of, IsOf, IsPosed, RepresentsTurnstiles, objects_in, found, Fits, MayMake, Pose, Runs, StandsOn}
use Names.{Knowledge, Description, Slot, Record, Turnstiles, one_place, found_first, found_later, IsGoing, CanWalk}
use Names.{InHop, MayLendTo, MaySort, StandsThere, StandsNowhere, owner_of_head, turnstiles, turnstiles_place}
use Rattle.std.proofs.Common.{◌≡◌, ◌≢◌, ◌<◌, ◌≤◌, ◌∷◌, ◌∙◌}
use mathlib.Core.Option.{some-ne-none}
use Rattle.turnstile_core.specs.Changes.{waits}
use Rattle.floor_table.specs.Views.{IsReady}
use Rattle.lock_floor.proofs.May.{doing_it, keeps_out, none_counted, nothing_with, no_wanted_round}
use Rattle.lock_floor.proofs.Taking.{record_at}
use Rattle.lock_floor.proofs.WalkChains.{turnstiles_at, apart_from, lock_chain}

-- 1. Where the thread is

-- a thread that wasn't made ready isn't about to stand on a queue
unready : (p : Pose) (wait : Wait) (on : Option QueueName) → p ≢ IsReady → IsPosed p wait on → wait ≡ Queued → on ≡ None
    → ⊥
unready Runs wait on ne h queued none = let z : Running ≡ Queued = sym h ∙ queued in cc
unready IsReady wait on ne h queued none = ne refl
unready (StandsOn q) wait on ne (inl h) queued none = let z : None ≡ Some q = sym none ∙ h.1 in cc
unready (StandsOn q) wait on ne (inr h) queued none =
    let z : true ≡ false = sym (ap is_woken h.1) ∙ ap is_woken queued in cc

module _ (floor : Description) (v : Knowledge) where
  abbrev c : Config
  c = config_in floor

  abbrev t : ℕ
  t = v.thread

  module _ (settled : v.pose ≢ IsReady) (s : State) (f : Fits floor v s) where
    stays : IsSettled s t
    stays queued none = unready v.pose (s.wait t) (s.blocked_on t) settled f.pose queued none

    not_away : IsOnItsWay s t → ⊥
    not_away o = stays o.queued o.nowhere

    module _ (going : IsGoing v) where
      owes : OwesNoStep s t
      owes = record { added = not_away; stamped = doing_it floor v s f (λ d. d.unstamped) ∙ going.stamped }

      awake : IsRunnable s t
      awake = record {
        phase = doing_it floor v s f (λ d. d.phase) ∙ going.awake;
        unended = doing_it floor v s f (λ d. d.has_ended) ∙ going.unended;
      }

      goes_on : GoesOn s t
      goes_on = record { runs = awake; owes = owes }

      unparked : is_parked (s.phase t) ≡ false
      unparked = ap is_parked (doing_it floor v s f (λ d. d.phase) ∙ going.awake)

  no_round_of : (s : State) → Fits floor v s → v.share.doing.round ≡ None → s.round t ≡ None
  no_round_of s f none = doing_it floor v s f (λ d. d.round) ∙ none

  -- 2. What it has out

  module _ (s : State) (f : Fits floor v s) where
    out_first : (i : Item) (j : ℕ) (x : Slot) (xs : List (ℕ × Slot)) → slot_of floor i ≡ Some j → v.out ≡ (j, x) ∷ xs
        → HasItem s t i × IsOf floor (objects_in s) i x
    out_first i j x xs at out = f.out.each i j x at (ap (found j) out ∙ found_first j x xs)

    out_second : (i : Item) (m j : ℕ) (y x : Slot) → slot_of floor i ≡ Some j → m ≢ j
        → v.out ≡ (m, y) ∷ (j, x) ∷ [] → HasItem s t i × IsOf floor (objects_in s) i x
    out_second i m j y x at ne out =
        f.out.each i j x at
        (ap (found j) out ∙ found_later m j y ((j, x) ∷ []) ne ∙ found_first j x [])

    only_one : (i : Item) (j : ℕ) (x : Slot) → slot_of floor i ≡ Some j → v.out ≡ (j, x) ∷ []
        → (k : Item) → HasItem s t k → k ≡ i
    only_one i j x at out k has =
        let p = f.out.no_other k has in
        elim (cases_eq j p.0) [
          | inl e ↦ one_place floor k i p.0 p.1 (at ∙ ap Some e)
          | inr ne ↦ absurd (some-ne-none p.2.0 (sym p.2.1 ∙ ap (found p.0) out ∙ found_later j p.0 x [] ne))
        ]

  -- with the chain alone out it has counted nobody in
  pub uncounted_under : (one : floor.chains ≡ 1) (x : Slot) → v.out ≡ (turnstiles_place floor, x) ∷ []
      → (s : State) → Fits floor v s → v.share.doing.counting ≡ None
  uncounted_under one x out s f = none_counted floor v s f (λ u has.
      let z : RecordOf u ≡ turnstiles =
      only_one s f turnstiles (turnstiles_place floor) x (turnstiles_at floor one) out (RecordOf u) has in cc)

  -- 3. Both are taken and given back

  of_no_round : (i : Item) (r : Option Round) → r ≡ None → IsOfRound floor.chains c r i
  of_no_round i r none = subst (λ o. IsOfRound floor.chains c o i) (sym none) tt

  pub may_take_turnstiles : CanWalk floor v
      → MayMake floor v (λ s. item_with s turnstiles ≡ None) (TakesItem t turnstiles ∷ [])
  may_take_turnstiles can s f home = grind arith

  module _ (one : floor.chains ≡ 1) (settled : v.pose ≢ IsReady) (going : IsGoing v) where
    pub may_take_under : (o : ℕ) (x : Slot) → o < length floor.threads → v.share.doing.round ≡ None
        → v.out ≡ (turnstiles_place floor, x) ∷ []
        → MayMake floor v (λ s. s.record_with o ≡ None) (TakesItem t (RecordOf o) ∷ [])
    may_take_under o x low no_round out s f home = (
      record {
        fits = record {
          may = record {
            thread = f.thread;
            home = home;
            together = λ k has.
                subst (λ i. (go_together (RecordOf o) i ≡ true) × (go_together i (RecordOf o) ≡ true))
                (sym (only_one s f turnstiles (turnstiles_place floor) x (turnstiles_at floor one) out k has))
                (refl, refl);
            orders = tt;
          };
          has_out = (low, of_no_round (RecordOf o) (s.round t) (no_round_of s f no_round));
          has_seen = tt;
          asks_of_thread = record { runs = inl (awake settled s f going); owes = owes settled s f going };
        };
        keeps_order = λ is. absurd (let z : false ≡ true = is in cc);
        keeps_count = tt;
      },
      tt,
    )

    pub may_give_record : (o : ℕ) (y : Slot) (xs : List (ℕ × Slot)) → o < length floor.threads
        → v.out ≡ (o, y) ∷ xs → v.share.doing.counting ≡ None
        → MayMake floor v (λ s. Unit {0}) (GivesItem t (RecordOf o) ∷ [])
    may_give_record o y xs low out uncounted s f _ =
        let has = (out_first s f (RecordOf o) o y xs (record_at floor o low) out).0 in (
          record {
            fits = record {
              may = record { thread = f.thread; out = has; done = λ own. stays settled s f };
              has_out = has;
              has_seen = tt;
              asks_of_thread = record { unparked = unparked settled s f going; owes = owes settled s f going };
            };
            keeps_order = tt;
            keeps_count = keeps_out floor v s f uncounted (RecordOf o);
          },
          tt,
        )

    pub may_give_turnstiles : (x : Slot) → v.share.doing.round ≡ None → v.out ≡ (turnstiles_place floor, x) ∷ []
        → MayMake floor v (λ s. Unit {0}) (GivesItem t turnstiles ∷ [])
    may_give_turnstiles x no_round out s f _ =
        let has = (out_first s f turnstiles (turnstiles_place floor) x [] (turnstiles_at floor one) out).0 in (
          record {
            fits = record {
              may = record {
                thread = f.thread;
                out = has;
                done = (ap is_bound (no_round_of s f no_round), stays settled s f);
              };
              has_out = has;
              has_seen = tt;
              asks_of_thread = record { unparked = unparked settled s f going; owes = owes settled s f going };
            };
            keeps_order = tt;
            keeps_count = λ u is _. let z : turnstiles ≡ RecordOf u = is in cc;
          },
          tt,
        )

  -- 4. A walk at a lock

  -- what a queue has, by its turnstile
  owner_seen : (s : State) (l : ℕ) (o : Option Turnstile) → Lawful c s
      → RepresentsQueue o (queue_in s (lock_queue l)) s.loan_home → s.owner (lock_queue l) ≡ owner_of_head o
  owner_seen s l None lawful h = no_owner c s (lock_queue l) lawful h
  owner_seen s l (Some d) lawful h = ap (λ (k : QueueColumns). k.owner) h.queue

  head_seen : (s : State) (l : ℕ) (d : Turnstile) → RepresentsQueue (Some d) (queue_in s (lock_queue l)) s.loan_home
      → s.head (lock_queue l) ≡ Some d.contents.number
  head_seen s l d h = ap (λ (k : QueueColumns). k.head) h.queue

  -- the chain says of the lock's queue what the columns say
  queue_seen : (one : floor.chains ≡ 1) (s : State) (chain : List (QueueName × Turnstile)) (l : ℕ)
      → is_turnstile (c.kind l) ≡ true → RepresentsTurnstiles floor 0 chain (objects_in s)
      → RepresentsQueue (head_of (lock_queue l) chain) (queue_in s (lock_queue l)) s.loan_home
  queue_seen one s chain l turnstile shows = shows.queue (lock_queue l) (lock_chain floor one l turnstile)

  pub may_lend : (l o : ℕ) (may : MayLendTo floor l o v)
      → MayMake floor v (λ s. Unit {0}) (Lends t l o may.turnstile.contents.number ∷ [])
  may_lend l o may s f _ =
      let hop = may.hop in
      let one = hop.one_chain in
      let turnstile = may.on_floor.1 in
      let its_record = (out_first s f (RecordOf o) o (Record hop.box) _ (record_at floor o may.of_floor) hop.out).0 in
      let its_chain = out_second s f turnstiles o (turnstiles_place floor) (Record hop.box) (Turnstiles hop.chain)
      (turnstiles_at floor one) (apart_from floor one o may.of_floor) hop.out in
      let shows : RepresentsQueue (Some may.turnstile) (queue_in s (lock_queue l)) s.loan_home =
      subst (λ x. RepresentsQueue x (queue_in s (lock_queue l)) s.loan_home) may.head
      (queue_seen one s hop.chain l turnstile its_chain.1) in (
        record {
          fits = record {
            may = record {
              thread = f.thread;
              lock = may.on_floor.0;
              walks = doing_it floor v s f (λ d. d.walk) ∙ may.there;
              head = head_seen s l may.turnstile shows;
              owned = owner_seen s l (Some may.turnstile) f.sound.facts.lawful shows ∙ may.owned;
            };
            has_out = (subst (HasItem s t) (sym (lock_chain floor one l turnstile)) its_chain.0, its_record);
            has_seen = tt;
            asks_of_thread = goes_on hop.settled s f hop.going;
          };
          keeps_order = tt;
          keeps_count = tt;
        },
        tt,
      )

  pub may_end_at_lock : floor.chains ≡ 1 → v.pose ≢ IsReady → IsGoing v → (l : ℕ)
      → is_turnstile (c.kind l) ≡ true → v.share.doing.walk ≡ AtLock l → (chain : List (QueueName × Turnstile))
      → v.out ≡ (turnstiles_place floor, Turnstiles chain) ∷ []
      → owner_of_head (head_of (lock_queue l) chain) ≡ None
      → MayMake floor v (λ s. Unit {0}) (EndsWalk t ∷ [])
  may_end_at_lock one settled going l turnstile there chain out unowned s f _ =
      let walks : s.walk t ≡ AtLock l = doing_it floor v s f (λ d. d.walk) ∙ there in
      let its_chain = out_first s f turnstiles (turnstiles_place floor) (Turnstiles chain) [] (turnstiles_at floor one)
      out in
      let none : s.owner (lock_queue l) ≡ None =
      owner_seen s l (head_of (lock_queue l) chain) f.sound.facts.lawful
      (queue_seen one s chain l turnstile its_chain.1)
      ∙ unowned in (
        record {
          fits = record {
            may = record { thread = f.thread; there = subst (IsAtEnd c s) (sym walks) none };
            has_out = subst (HasOutForEnd floor.chains c s t) (sym walks)
                (subst (HasItem s t) (sym (lock_chain floor one l turnstile)) its_chain.0);
            has_seen = tt;
            asks_of_thread = goes_on settled s f going;
          };
          keeps_order = tt;
          keeps_count = tt;
        },
        tt,
      )

  -- 5. A walk at a thread

  module _ (o : ℕ) (may : MaySort floor o v) where
    abbrev hop : InHop floor o v
    hop = may.hop

    module _ (s : State) (f : Fits floor v s) where
      record_now : HasItem s t (RecordOf o) × RepresentsRecord hop.box.value (record_in s o)
      record_now = out_first s f (RecordOf o) o (Record hop.box) _ (record_at floor o may.of_floor) hop.out

      chain_now : HasItem s t turnstiles × RepresentsTurnstiles floor 0 hop.chain (objects_in s)
      chain_now = out_second s f turnstiles o (turnstiles_place floor) (Record hop.box) (Turnstiles hop.chain)
          (turnstiles_at floor hop.one_chain) (apart_from floor hop.one_chain o may.of_floor) hop.out

      walks_now : s.walk t ≡ AtThread o
      walks_now = doing_it floor v s f (λ d. d.walk) ∙ may.there

      names_now : hop.box.value.on ≡ s.blocked_on o
      names_now = ap (λ (k : RecordColumns). k.blocked_on) record_now.1.columns

      is_it : hop.box.value.thread ≡ o
      is_it = ap (λ (k : RecordColumns). k.thread) record_now.1.columns

    -- who waits on a turnstile stands on the queue
    stands_seen : (s : State) (l : ℕ) (x : Option Turnstile)
        → RepresentsQueue x (queue_in s (lock_queue l)) s.loan_home
        → IsSomeAnd x (λ h. waits o h.contents ≡ true) → 0 < stands o (s.lists (lock_queue l))
    stands_seen s l None h there = absurd there
    stands_seen s l (Some d) h there =
        let lists : s.lists (lock_queue l) ≡ lists_of d.contents = ap (λ (k : QueueColumns). k.lists) h.queue in
        ltb-true 0 (stands o (s.lists (lock_queue l))) (ap (λ (ls : Lists). ltb 0 (stands o ls)) lists ∙ there)

    nowhere_seen : (s : State) (l : ℕ) (x : Option Turnstile) → Lawful c s
        → RepresentsQueue x (queue_in s (lock_queue l)) s.loan_home
        → IfSome x (λ h. waits o h.contents ≡ false) → stands o (s.lists (lock_queue l)) ≡ 0
    nowhere_seen s l None lawful h none = none_stands c s (lock_queue l) o lawful h
    nowhere_seen s l (Some d) lawful h none =
        let lists : s.lists (lock_queue l) ≡ lists_of d.contents = ap (λ (k : QueueColumns). k.lists) h.queue in
        let few : stands o (s.lists (lock_queue l)) ≤ 0 =
        ltb-false 0 (stands o (s.lists (lock_queue l))) (ap (λ (ls : Lists). ltb 0 (stands o ls)) lists ∙ none) in
        omega (arith, few)

    pub may_shift : (l : ℕ) → StandsThere floor l hop.box.value hop.chain
        → MayMake floor v (λ s. Unit {0}) (Shifts t o l ∷ [])
    may_shift l stands s f _ =
        let one = hop.one_chain in (
          record {
            fits = record {
              may = record {
                thread = f.thread;
                turnstile = stands.turnstile;
                walks = walks_now s f;
                blocked_on = sym (names_now s f) ∙ stands.named;
                stands = stands_seen s l (head_of (lock_queue l) hop.chain)
                    (queue_seen one s hop.chain l stands.turnstile (chain_now s f).1)
                    (subst (λ u. IsSomeAnd (head_of (lock_queue l) hop.chain) (λ h. waits u h.contents ≡ true))
                    (is_it s f)
                    stands.waits);
              };
              has_out = (
                subst (HasItem s t) (sym (lock_chain floor one l stands.turnstile)) (chain_now s f).0,
                (record_now s f).0,
              );
              has_seen = tt;
              asks_of_thread = goes_on hop.settled s f hop.going;
            };
            keeps_order = tt;
            keeps_count = tt;
          },
          tt,
        )

    pub may_end_at_thread : StandsNowhere floor hop.box.value hop.chain
        → MayMake floor v (λ s. Unit {0}) (EndsWalk t ∷ [])
    may_end_at_thread nowhere s f _ =
        let one = hop.one_chain in
        let at_end : IsAtEnd c s (AtThread o) = λ l turnstile on.
        nowhere_seen s l (head_of (lock_queue l) hop.chain) f.sound.facts.lawful
        (queue_seen one s hop.chain l turnstile (chain_now s f).1)
        (subst (λ u. IfSome (head_of (lock_queue l) hop.chain) (λ h. waits u h.contents ≡ false)) (is_it s f)
        (nowhere l turnstile (names_now s f ∙ on))) in
        let out : HasOutForEnd floor.chains c s t (AtThread o) = (
          (record_now s f).0,
          λ l turnstile on. subst (HasItem s t) (sym (lock_chain floor one l turnstile)) (chain_now s f).0,
        ) in (
          record {
            fits = record {
              may = record { thread = f.thread; there = subst (IsAtEnd c s) (sym (walks_now s f)) at_end };
              has_out = subst (HasOutForEnd floor.chains c s t) (sym (walks_now s f)) out;
              has_seen = tt;
              asks_of_thread = goes_on hop.settled s f hop.going;
            };
            keeps_order = tt;
            keeps_count = tt;
          },
          tt,
        )
