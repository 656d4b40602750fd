-- What a thread's seat knows allows its steps on the way to a queue: it takes the chain of the queue and then its own
-- record, says in its wait word that it is queued, looks at the lock's word, and gains the lock or stands on its queue;
-- and then it gives both back.
use Rattle.lock_floor.proofs.Names
use Names.{ℕ, Bool, true, false, not, cond, Option, Some, None, List, [], length, refl, sym, ap, subst, inl, inr, arith}
use Names.{eq-eqb, Global, Box, mod-lt, cases_eq, Config, open_in, NotHeld, hold_in, lock_queue, chan_queue, Word}
use Names.{admits, is_plain, is_free, is_turnstile, shows_waiters, Mtx, Rw, Mode, Excl, QueueName, Lock, Chan}
use Names.{RecordColumns, State, Wait, NoWalk, Round, SleepHalted, is_parked, Looks, Gains, Claims, Readies, Unreadies}
use Names.{Enters, TakesItem, GivesItem, seeks, is_first, is_with, FitsRound, GainsFromLook, EntersFromLook, IsItem}
use Names.{IsOfRound, HasItem, is_halting, GoesOn, KeepsCountedOut, MustWait, Item, TurnstileChain, SleepChain}
use Names.{RecordOf, item_with, go_together, is_chain, is_bound, in_its_chain, IsOnItsWay, IsSettled, IsDoneWith}
use Names.{MayCheckOrders, IsActing, is_woken, is_taking_back, round_of, bound_to, ThreadRec, Turnstile, config_in}
use Names.{Description, Slot, Record, Cell, Turnstiles, SleepQueues, Graph, IsOf, IsPosed, objects_in, found, Fits}
use Names.{MayMake, Pose, Runs, StandsOn, is_off_queues, Knowledge, one_place, stands_nowhere, found_first, found_later}
use Names.{IsGoing, IsOffTheWay, IsOfKind, Takes, counts, took, its_chain, chain_place}
use Rattle.std.proofs.Common.{◌≡◌, ◌≢◌, ◌⊎◌, ◌<◌, ◌≤◌, ◌%◌, ◌&&◌, ◌||◌, ◌∷◌, ◌∙◌}
use mathlib.Core.Option.{some-ne-none}
use Rattle.floor_table.specs.Views.{IsReady}
use Rattle.lock_floor.proofs.ChainPlaces.{chain_at}
use Rattle.lock_floor.proofs.May.{keeps_own_out, IsOrderedTake, IsUnhalted, WantsItsRound, holds_it, doing_it, counts_it, own_log, column, in_wanted_round, gains_in_order, settled_now, not_away_settled, awake_now, stamped_now, owes_settled, goes_on}
use Rattle.lock_floor.proofs.Taking.{record_at}

-- 1. Chains

-- what holds of each chain that there is holds of that of a queue
pub each_chain : (floor : Description) (P : Item → Type 0) → ((k : ℕ) → k < floor.chains → P (TurnstileChain k))
    → ((k : ℕ) → k < floor.chains → P (SleepChain k))
    → 1 ≤ floor.chains → (q : QueueName) → P (its_chain floor q)
each_chain floor P turnstiles sleepers some_chains (Lock l) = go (is_turnstile ((config_in floor).kind l.0))
  where
    go : (b : Bool) → P (cond b (TurnstileChain (l.0 % floor.chains)) (SleepChain (l.0 % floor.chains)))
    go true = turnstiles (l.0 % floor.chains) (mod-lt l.0 (omega (arith, some_chains)))
    go false = sleepers (l.0 % floor.chains) (mod-lt l.0 (omega (arith, some_chains)))
each_chain floor P turnstiles sleepers some_chains (Chan d) =
    sleepers (d.0 % floor.chains) (mod-lt d.0 (omega (arith, some_chains)))

pub is_a_chain : (floor : Description) (q : QueueName) → is_chain (its_chain floor q) ≡ true
is_a_chain floor e = grind arith

-- that of a lock of a kind with turnstiles has turnstiles
pub turnstiles_taken : (floor : Description) (l j : ℕ) (old new : Knowledge)
    → is_turnstile ((config_in floor).kind l) ≡ true
    → (k : Takes floor (its_chain floor (lock_queue l)) j old new) → (chain : List (QueueName × Turnstile))
    × (k.value ≡ Turnstiles chain)
turnstiles_taken floor l j old new turnstile k =
    go k.value (subst (λ b. IsOfKind (cond b (TurnstileChain (l % floor.chains)) (SleepChain (l % floor.chains)))
    k.value) turnstile k.kind)
  where
    go : (y : Slot) → IsOfKind (TurnstileChain (l % floor.chains)) y → (chain : List (QueueName × Turnstile))
        × (y ≡ Turnstiles chain)
    go (Turnstiles chain) is = (chain, refl)
    go (Record b) is = absurd is
    go (Cell value) is = absurd is
    go (SleepQueues chain) is = absurd is
    go (Graph b) is = absurd is

-- 2. Where the thread is

unwoken_at : (p : Pose) (wait : Wait) (o : Option QueueName) → is_off_queues p ≡ true → IsPosed p wait o
    → is_woken wait ≡ false
unwoken_at e wait o is h = grind arith

-- It isn't on its way to a channel: in a wait it wants the lock of the wait back, or was woken or halted
abbrev pub IsNoSleeper : Knowledge → Type 0
IsNoSleeper v =
    is_taking_back v.share.log ≡ true → v.share.doing.wanted ≡ None → v.share.doing.woken_from ≡ None
    → ((d : ℕ) → v.share.doing.noted ≡ Some (SleepHalted (chan_queue d)) → ⊥) → ⊥

module _ (floor : Description) (v : Knowledge) where
  abbrev c : Config
  c = config_in floor

  abbrev t : ℕ
  t = v.thread

  module _ (s : State) (f : Fits floor v s) where
    -- it isn't on its way to a channel
    not_away : IsNoSleeper v → IsOnItsWay s t → ⊥
    not_away awake o =
        awake (ap is_taking_back (column floor v s f (λ x. x.log)) ∙ o.slept)
        (sym (doing_it floor v s f (λ d. d.wanted)) ∙ o.wants)
        (sym (doing_it floor v s f (λ d. d.woken_from)) ∙ o.unwoken)
        (λ d e. o.unhalted d (doing_it floor v s f (λ d. d.noted) ∙ e))

    acting_now : is_off_queues v.pose ≡ true → IsActing s t
    acting_now off = record {
      unnamed = stands_nowhere c s f.sound.facts.lawful t v.pose off f.pose;
      unwoken = unwoken_at v.pose (s.wait t) (s.blocked_on t) off f.pose;
    }

    posed_now : (p : Pose) → v.pose ≡ p → IsPosed p (s.wait t) (s.blocked_on t)
    posed_now p e = subst (λ k. IsPosed k (s.wait t) (s.blocked_on t)) e f.pose

  -- 3. A chain is taken where nothing is out

  -- by a thread that runs, or stands on a queue
  pub may_take_chain_settled : (q : QueueName) → IsOffTheWay v.pose → v.out ≡ [] → IsGoing v
      → IsOfRound floor.chains c v.share.doing.round (its_chain floor q) → WantsItsRound v
      → MayMake floor v (λ s. item_with s (its_chain floor q) ≡ None) (TakesItem t (its_chain floor q) ∷ [])
  may_take_chain_settled q there empty going of_round wants s f home = grind arith

  -- by one that runs
  pub may_take_chain : (q : QueueName) → v.pose ≡ Runs → v.out ≡ [] → IsGoing v
      → IsOfRound floor.chains c v.share.doing.round (its_chain floor q) → WantsItsRound v
      → MayMake floor v (λ s. item_with s (its_chain floor q) ≡ None) (TakesItem t (its_chain floor q) ∷ [])
  may_take_chain q runs = may_take_chain_settled q (inl runs)

  -- 4. A record is taken under a chain

  module _ (q : QueueName) (x : Slot) (out : v.out ≡ (chain_place floor q, x) ∷ []) where
    pub its_only : (s : State) (f : Fits floor v s) (i : Item) → HasItem s t i → i ≡ its_chain floor q
    its_only s f i has =
        let p = f.out.no_other i has in
        elim (cases_eq (chain_place floor q) p.0) [
          | inl e ↦ one_place floor i (its_chain floor q) p.0 p.1 (chain_at floor f.sized.some_chains q ∙ ap Some e)
          | inr ne ↦ absurd (some-ne-none p.2.0
              (sym p.2.1 ∙ ap (found p.0) out ∙ found_later (chain_place floor q) p.0 x [] ne))
        ]

    pub its_chain_out : (s : State) (f : Fits floor v s) → HasItem s t (its_chain floor q)
    its_chain_out s f = (f.out.each (its_chain floor q) (chain_place floor q) x (chain_at floor f.sized.some_chains q)
        (ap (found (chain_place floor q)) out ∙ found_first (chain_place floor q) x [])).0

    pub may_take_record_settled : (u : ℕ) → u < length floor.threads → IsOffTheWay v.pose → IsGoing v
        → MayMake floor v (λ s. s.record_with u ≡ None) (TakesItem t (RecordOf u) ∷ [])
    may_take_record_settled u low there going s f home = (
      record {
        fits = record {
          may = record {
            thread = f.thread;
            home = home;
            together = λ k has. subst (λ i. (go_together (RecordOf u) i ≡ true) × (go_together i (RecordOf u) ≡ true))
                (sym (its_only s f k has))
                (each_chain floor (λ i. (go_together (RecordOf u) i ≡ true) × (go_together i (RecordOf u) ≡ true))
                (λ k low. (refl, refl)) (λ k low. (refl, refl)) f.sized.some_chains q);
            orders = tt;
          };
          has_out = (low, no_chain (s.round t));
          has_seen = tt;
          asks_of_thread = record {
            runs = inl (awake_now floor v s f going);
            owes = owes_settled floor v s f there going;
          };
        };
        keeps_order = λ is. absurd (let z : false ≡ true = is in cc);
        keeps_count = tt;
      },
      tt,
    )
      where
        no_chain : (r : Option Round) → IsOfRound floor.chains c r (RecordOf u)
        no_chain None = tt
        no_chain (Some r) = λ is. absurd cc

    pub may_take_record : (u : ℕ) → u < length floor.threads → v.pose ≡ Runs → IsGoing v
        → MayMake floor v (λ s. s.record_with u ≡ None) (TakesItem t (RecordOf u) ∷ [])
    may_take_record u low runs = may_take_record_settled u low (inl runs)

    -- and the chain is given back last
    pub may_give_chain : is_bound v.share.doing.round ≡ false → IsOffTheWay v.pose → IsGoing v
        → MayMake floor v (λ s. Unit {0}) (GivesItem t (its_chain floor q) ∷ [])
    may_give_chain ended there going s f _ =
        let unbound : is_bound (s.round t) ≡ false = ap is_bound (doing_it floor v s f (λ d. d.round)) ∙ ended in
        let settled : IsSettled s t = settled_now floor v s f there in (
          record {
            fits = record {
              may = record {
                thread = f.thread;
                out = its_chain_out s f;
                done = each_chain floor (IsDoneWith s t) (λ k low. (unbound, settled))
                    (λ k low. (unbound, stamped_now floor v s f going, settled)) f.sized.some_chains q;
              };
              has_out = its_chain_out s f;
              has_seen = tt;
              asks_of_thread = record {
                unparked = ap is_parked (doing_it floor v s f (λ d. d.phase) ∙ going.awake);
                owes = owes_settled floor v s f there going;
              };
            };
            keeps_order = tt;
            keeps_count = each_chain floor (KeepsCountedOut s t)
                (λ k low u is _. let z : TurnstileChain k ≡ RecordOf u = is in cc)
                (λ k low u is _. let z : SleepChain k ≡ RecordOf u = is in cc) f.sized.some_chains q;
          },
          tt,
        )

  -- 5. Steps with both out: the own record, which was taken last, and the chain

  module _ (q : QueueName) (y x : Slot) (out : v.out ≡ (t, y) ∷ (chain_place floor q, x) ∷ []) where
    module _ (s : State) (f : Fits floor v s) where
      apart_now : t ≢ chain_place floor q
      apart_now e = let z =
          one_place floor (RecordOf t) (its_chain floor q) (chain_place floor q)
          (record_at floor t f.thread ∙ ap Some e) (chain_at floor f.sized.some_chains q) in
          each_chain floor (λ i. RecordOf t ≡ i → ⊥) (λ k low e. cc) (λ k low e. cc) f.sized.some_chains q z

      own_out_now : HasItem s t (RecordOf t) × IsOf floor (objects_in s) (RecordOf t) y
      own_out_now = f.out.each (RecordOf t) t y (record_at floor t f.thread)
          (ap (found t) out ∙ found_first t y ((chain_place floor q, x) ∷ []))

      chain_out_now : HasItem s t (its_chain floor q)
      chain_out_now = (f.out.each (its_chain floor q) (chain_place floor q) x (chain_at floor f.sized.some_chains q)
          (ap (found (chain_place floor q)) out
          ∙ found_later t (chain_place floor q) y ((chain_place floor q, x) ∷ []) apart_now
          ∙ found_first (chain_place floor q) x [])).0

      only_both : (i : Item) → HasItem s t i → (i ≡ RecordOf t) ⊎ (i ≡ its_chain floor q)
      only_both i has =
          let p = f.out.no_other i has in
          elim (cases_eq t p.0) [
            | inl e ↦ inl (one_place floor i (RecordOf t) p.0 p.1 (record_at floor t f.thread ∙ ap Some e))
            | inr na ↦ elim (cases_eq (chain_place floor q) p.0) [
              | inl e ↦ inr (one_place floor i (its_chain floor q) p.0 p.1
                  (chain_at floor f.sized.some_chains q ∙ ap Some e))
              | inr ne ↦ absurd (some-ne-none p.2.0
                  (sym p.2.1 ∙ ap (found p.0) out ∙ found_later t p.0 y ((chain_place floor q, x) ∷ []) na
                  ∙ found_later (chain_place floor q) p.0 x [] ne))
            ]
          ]

      only_chain : (i : Item) → is_chain i ≡ true → HasItem s t i → i ≡ its_chain floor q
      only_chain i is has = elim (only_both i has) [
        | inl e ↦ absurd (let z : true ≡ false = sym is ∙ ap is_chain e in cc)
        | inr e ↦ e
      ]

    -- the own wait word

    pub may_ready : v.pose ≡ Runs → IsGoing v → MayMake floor v (λ s. Unit {0}) (Readies t q ∷ [])
    may_ready runs going s f _ = (
      record {
        fits = record {
          may = record { thread = f.thread; running = posed_now s f Runs runs };
          has_out = (chain_out_now s f, (own_out_now s f).0);
          has_seen = tt;
          asks_of_thread = goes_on floor v s f runs going;
        };
        keeps_order = tt;
        keeps_count = tt;
      },
      tt,
    )

    pub may_unready : v.pose ≡ IsReady → IsGoing v → IsNoSleeper v
        → MayMake floor v (λ s. Unit {0}) (Unreadies t q ∷ [])
    may_unready ready going awake s f _ =
        let p = posed_now s f IsReady ready in (
          record {
            fits = record {
              may = record { thread = f.thread; queued = p.0; unnamed = p.1 };
              has_out = (chain_out_now s f, (own_out_now s f).0);
              has_seen = tt;
              asks_of_thread = record {
                runs = awake_now floor v s f going;
                owes = record { added = not_away s f awake; stamped = stamped_now floor v s f going };
              };
            };
            keeps_order = tt;
            keeps_count = tt;
          },
          tt,
        )

    -- the own record goes home first

    pub may_give_own : IsOffTheWay v.pose → IsGoing v → MayMake floor v (λ s. Unit {0}) (GivesItem t (RecordOf t) ∷ [])
    may_give_own there going s f _ = (
      record {
        fits = record {
          may = record {
            thread = f.thread;
            out = (own_out_now s f).0;
            done = λ own. settled_now floor v s f there;
          };
          has_out = (own_out_now s f).0;
          has_seen = tt;
          asks_of_thread = record {
            unparked = ap is_parked (doing_it floor v s f (λ d. d.phase) ∙ going.awake);
            owes = owes_settled floor v s f there going;
          };
        };
        keeps_order = tt;
        keeps_count = keeps_own_out floor v s f;
      },
      tt,
    )

  -- 6. The lock's word, in a round of the lock

  module _ (l : ℕ) (y x : Slot) (out : v.out ≡ (t, y) ∷ (chain_place floor (lock_queue l), x) ∷ [])
      (low : l < length floor.locks) (going : IsGoing v) where
    -- a round that seeks the lock is under way
    under_way : (s : State) → Fits floor v s → seeks l v.share.doing.round ≡ true → s.round t ≡ None → ⊥
    under_way s f of_round none =
        let z : false ≡ true = sym (ap (seeks l) (sym (doing_it floor v s f (λ d. d.round)) ∙ none)) ∙ of_round in cc

    -- A look under the chain doesn't count. It is in a round of the lock, or at a lock that the thread holds and
    -- releases
    look_there : ((s : State) → Fits floor v s → IsOnItsWay s t → ⊥) → v.description ≡ floor
        → (v.share.doing.round ≢ None → seeks l v.share.doing.round ≡ true)
        → (v.share.doing.round ≡ None → (hold_in v.share.held l ≢ NotHeld) × (v.share.doing.taking ≡ None))
        → MayMake floor v (λ s. Unit {0}) (Looks t l (counts v l) ∷ [])
    look_there away mine of_round releases s f _ =
        let round : s.round t ≡ v.share.doing.round = doing_it floor v s f (λ d. d.round) in
        let counted = counts_it floor v s f mine l in
        let asks : Bool = seeks l (s.round t) || is_first (s.round t) (s.held t l) in
        let uncounted : counts v l ≡ false =
        counted ∙ ap (λ o. asks && not (is_with t o)) (chain_out_now (lock_queue l) y x out s f)
        ∙ ap (λ b. asks && not b) (eq-eqb t t refl) ∙ and_false asks in
        let held : s.round t ≡ None → s.held t l ≢ NotHeld = λ none e.
        (releases (sym round ∙ none)).0 (sym (holds_it floor v s f l) ∙ e) in (
          record {
            fits = record {
              may = record {
                thread = f.thread;
                lock = low;
                room = λ e. absurd (let z : false ≡ true = sym uncounted ∙ e in cc);
              };
              has_out = tt;
              has_seen = record {
                counts = counted;
                of_round = λ ne. ap (seeks l) round ∙ of_round (λ e. ne (round ∙ e));
                in_chain = λ i is has. only_chain (lock_queue l) y x out s f i is has;
                outside = λ i none is has. inl (held none);
                outside_takes = λ none. inl (doing_it floor v s f (λ d. d.taking) ∙ (releases (sym round ∙ none)).1);
                outside_first = λ none unheld. absurd (held none unheld);
                halting = λ e. absurd
                    (let z : false ≡ true = sym (ap is_halting (awake_now floor v s f going).phase) ∙ e in cc);
              };
              asks_of_thread = record {
                runs = inl (awake_now floor v s f going);
                owes = record { added = away s f; stamped = stamped_now floor v s f going };
              };
            };
            keeps_order = record {
              taken = λ e. of_the_round e (s.round t) refl;
              wants = λ e. absurd (let z : false ≡ true = sym uncounted ∙ e in cc);
            };
            keeps_count = tt;
          },
          tt,
        )
      where
        and_false : (b : Bool) → (b && false) ≡ false
        and_false true = refl
        and_false false = refl

        -- what is taken is looked at in its round alone
        of_the_round : s.taking t ≡ Some l → (o : Option Round) → s.round t ≡ o → seeks l (s.round t) ≡ true
        of_the_round e None none = absurd
            (let z : None ≡ Some l = sym (doing_it floor v s f (λ d. d.taking)
            ∙ (releases (sym (doing_it floor v s f (λ d. d.round)) ∙ none)).1) ∙ e in cc)
        of_the_round e (Some r) some =
            let round : s.round t ≡ v.share.doing.round = doing_it floor v s f (λ d. d.round) in
            ap (seeks l) round
            ∙ of_round (λ none. let z : Some r ≡ None = sym some ∙ round ∙ none in cc)

    -- at a lock that it holds, of a thread that runs or stands on a queue
    pub may_look_held_settled : IsOffTheWay v.pose → v.description ≡ floor → v.share.doing.round ≡ None
        → hold_in v.share.held l ≢ NotHeld → v.share.doing.taking ≡ None
        → MayMake floor v (λ s. Unit {0}) (Looks t l (counts v l) ∷ [])
    may_look_held_settled there mine none held takes =
        look_there (λ s f. not_away_settled floor v s f there) mine (λ ne. absurd (ne none)) (λ _. (held, takes))

    -- what was seen last under the chain admits the mode in which the round's lock is gained
    gain_seen : (mode : Mode) (by_try : Bool) → seeks l v.share.doing.round ≡ true
        → FitsRound v.share.doing.round l by_try
        → ((w : Word) → v.share.doing.seen_in_section ≡ Some (record { lock = l; word = w })
        → admits (c.kind l) w mode ≡ true)
        → ((k : ℕ) → v.share.doing.taking ≡ Some k → k ≡ l) → (by_try ≡ false → v.share.doing.taking ≡ Some l)
        → (s : State) → Fits floor v s → GainsFromLook floor.chains c s t l mode by_try
    gain_seen mode by_try of_round fits saw others takes s f = record {
      fits = subst (λ r. FitsRound r l by_try) (sym (doing_it floor v s f (λ d. d.round))) fits;
      in_round = λ none has. under_way s f of_round none;
      saw = λ w has seen. saw w (sym (doing_it floor v s f (λ d. d.seen_in_section)) ∙ seen);
      outside_first = λ none. absurd (under_way s f of_round none);
      others = λ k e. others k (sym (doing_it floor v s f (λ d. d.taking)) ∙ e);
      takes = λ e. doing_it floor v s f (λ d. d.taking) ∙ takes e;
    }

    module _ (awake : IsNoSleeper v) where
      pub may_look_there : v.description ≡ floor → seeks l v.share.doing.round ≡ true
          → MayMake floor v (λ s. Unit {0}) (Looks t l (counts v l) ∷ [])
      may_look_there mine of_round = look_there (λ s f. not_away s f awake) mine (λ _. of_round)
          (λ none. absurd (let z : false ≡ true = sym (ap (seeks l) none) ∙ of_round in cc))

      pub may_look_held : v.description ≡ floor → v.share.doing.round ≡ None → hold_in v.share.held l ≢ NotHeld
          → v.share.doing.taking ≡ None → MayMake floor v (λ s. Unit {0}) (Looks t l (counts v l) ∷ [])
      may_look_held mine none held takes =
          look_there (λ s f. not_away s f awake) mine (λ ne. absurd (ne none)) (λ _. (held, takes))

      -- a gain of that lock,
      pub may_gain_there : (mode : Mode) (by_try : Bool) (word : Word) → admits (c.kind l) word mode ≡ true
          → is_plain (c.kind l) word mode ≡ true → hold_in v.share.held l ≡ NotHeld
          → (v.share.doing.wanted ≡ Some l) ⊎ (v.share.doing.wanted ≡ None) → seeks l v.share.doing.round ≡ true
          → FitsRound v.share.doing.round l by_try
          → ((w : Word) → v.share.doing.seen_in_section ≡ Some (record { lock = l; word = w })
          → admits (c.kind l) w mode ≡ true)
          → ((k : ℕ) → v.share.doing.taking ≡ Some k → k ≡ l) → (by_try ≡ false → v.share.doing.taking ≡ Some l)
          → (by_try ≡ false → IsOrderedTake l v) → IsUnhalted v → is_off_queues v.pose ≡ true
          → MayMake floor v (λ s. s.word l ≡ word) (Gains t l mode by_try ∷ [])
      may_gain_there mode by_try word admitted plain unheld wants of_round fits saw others takes ordered unhalted off
          s f its =
          let wanted : s.wanted t ≡ v.share.doing.wanted = doing_it floor v s f (λ d. d.wanted) in (
            record {
              fits = record {
                may = record {
                  thread = f.thread;
                  lock = low;
                  admitted = ap (λ w. admits (c.kind l) w mode) its ∙ admitted;
                  plainly = ap (λ w. is_plain (c.kind l) w mode) its ∙ plain;
                  unheld = holds_it floor v s f l ∙ unheld;
                  acting = acting_now s f off;
                  wants = subst (λ w. (w ≡ Some l) ⊎ (w ≡ None)) (sym wanted) wants;
                };
                has_out = tt;
                has_seen = gain_seen mode by_try of_round fits saw others takes s f;
                asks_of_thread = record {
                  runs = awake_now floor v s f going;
                  owes = record { added = not_away s f awake; stamped = stamped_now floor v s f going };
                };
              };
              keeps_order = gains_in_order floor v s f l by_try ordered others unhalted;
              keeps_count = tt;
            },
            tt,
          )

      -- and a claim, of whatever turnstile stands there
      pub may_claim_there : (by_try : Bool) (word : Word) → c.kind l ≡ Rw → is_free word.holder ≡ true
          → shows_waiters word ≡ true → hold_in v.share.held l ≡ NotHeld
          → (v.share.doing.wanted ≡ Some l) ⊎ (v.share.doing.wanted ≡ None) → seeks l v.share.doing.round ≡ true
          → FitsRound v.share.doing.round l by_try
          → ((w : Word) → v.share.doing.seen_in_section ≡ Some (record { lock = l; word = w })
          → admits (c.kind l) w Excl ≡ true)
          → ((k : ℕ) → v.share.doing.taking ≡ Some k → k ≡ l) → (by_try ≡ false → v.share.doing.taking ≡ Some l)
          → (by_try ≡ false → IsOrderedTake l v) → IsUnhalted v → is_off_queues v.pose ≡ true → (h : ℕ)
          → MayMake floor v (λ s. (s.word l ≡ word) × (s.head (lock_queue l) ≡ Some h)) (Claims t l h by_try ∷ [])
      may_claim_there by_try word kind free shown unheld wants of_round fits saw others takes ordered unhalted off h
          s f its =
          let wanted : s.wanted t ≡ v.share.doing.wanted = doing_it floor v s f (λ d. d.wanted) in (
            record {
              fits = record {
                may = record {
                  thread = f.thread;
                  lock = low;
                  kind = kind;
                  free = ap (λ (w : Word). is_free w.holder) its.0 ∙ free;
                  shown = ap shows_waiters its.0 ∙ shown;
                  head = its.1;
                  unheld = holds_it floor v s f l ∙ unheld;
                  acting = acting_now s f off;
                  wants = subst (λ w. (w ≡ Some l) ⊎ (w ≡ None)) (sym wanted) wants;
                };
                has_out = (chain_out_now (lock_queue l) y x out s f, (own_out_now (lock_queue l) y x out s f).0);
                has_seen = gain_seen Excl by_try of_round fits saw others takes s f;
                asks_of_thread = record {
                  runs = awake_now floor v s f going;
                  owes = record { added = not_away s f awake; stamped = stamped_now floor v s f going };
                };
              };
              keeps_order = gains_in_order floor v s f l by_try ordered others unhalted;
              keeps_count = tt;
            },
            tt,
          )

  -- an enter from the word that the last look saw, which is held and doesn't admit, in a blocking call's round that
  -- took the chain; the sections of all held locks are open
  module _ (l : ℕ) (b : Box ThreadRec Global) (x : Slot)
      (out : v.out ≡ (t, Record b) ∷ (chain_place floor (lock_queue l), x) ∷ []) (low : l < length floor.locks)
      (going : IsGoing v) (awake : IsNoSleeper v) where
    -- it must wait
    pub must_wait : (mode : Mode) (word : Word) → is_free word.holder ≡ false → admits (c.kind l) word mode ≡ false
        → v.pose ≡ IsReady → v.share.doing.wanted ≡ Some l → v.share.doing.walk ≡ NoWalk
        → ((k : ℕ) → open_in c v.share.log t k ≡ hold_in v.share.held k) → (s : State) → Fits floor v s
        → s.word l ≡ word → MustWait c s t l mode
    must_wait mode word held refused ready wants no_walk sections s f its =
        let p = posed_now s f IsReady ready in
        record {
          thread = f.thread;
          lock = low;
          held = ap (λ (w : Word). is_free w.holder) its ∙ held;
          refused = ap (λ w. admits (c.kind l) w mode) its ∙ refused;
          queued = p.0;
          unnamed = p.1;
          wants = inl (doing_it floor v s f (λ d. d.wanted) ∙ wants);
          no_walk = doing_it floor v s f (λ d. d.walk) ∙ no_walk;
          sections = λ k m holds. own_log floor v s f k ∙ sections k ∙ sym (holds_it floor v s f k) ∙ holds;
        }

    -- and saw that last
    pub saw_it : (word : Word) → v.share.doing.last_look ≡ Some (record { lock = l; word = word })
        → v.share.doing.round ≡ Some (bound_to l) → (s : State) → Fits floor v s → s.word l ≡ word
        → EntersFromLook s t l
    saw_it word saw round s f its = record {
      saw = doing_it floor v s f (λ d. d.last_look) ∙ saw
          ∙ ap (λ w. Some (record { lock = l; word = w })) (sym its);
      round = doing_it floor v s f (λ d. d.round) ∙ round;
    }

    pub goes_on_ready : (s : State) → Fits floor v s → GoesOn s t
    goes_on_ready s f = record {
      runs = awake_now floor v s f going;
      owes = record { added = not_away s f awake; stamped = stamped_now floor v s f going };
    }

    pub may_enter_there : (mode : Mode) (own : ℕ) (word : Word) → is_free word.holder ≡ false
        → admits (c.kind l) word mode ≡ false → is_turnstile (c.kind l) ≡ true → (c.kind l ≡ Mtx → mode ≡ Excl)
        → b.value.turnstile ≡ Some own → v.pose ≡ IsReady → v.share.doing.wanted ≡ Some l
        → v.share.doing.walk ≡ NoWalk
        → ((k : ℕ) → open_in c v.share.log t k ≡ hold_in v.share.held k)
        → v.share.doing.last_look ≡ Some (record { lock = l; word = word }) → v.share.doing.round ≡ Some (bound_to l)
        → MayMake floor v (λ s. s.word l ≡ word) (Enters t l mode own ∷ [])
    may_enter_there mode own word held refused turnstile mutex lent ready wants no_walk sections saw round s f its =
        let rec = (own_out_now (lock_queue l) (Record b) x out s f).1 in (
          record {
            fits = record {
              may = record {
                waits = must_wait mode word held refused ready wants no_walk sections s f its;
                turnstile = turnstile;
                mutex = mutex;
                own = sym (ap (λ (r : RecordColumns). r.turnstile) rec.columns) ∙ lent;
              };
              has_out = (
                chain_out_now (lock_queue l) (Record b) x out s f,
                (own_out_now (lock_queue l) (Record b) x out s f).0,
              );
              has_seen = saw_it word saw round s f its;
              asks_of_thread = goes_on_ready s f;
            };
            keeps_order = doing_it floor v s f (λ d. d.wanted) ∙ wants;
            keeps_count = tt;
          },
          tt,
        )
