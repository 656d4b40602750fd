-- What a thread's seat knows allows its steps: they may be made in whatever state fits it.
use Rattle.lock_floor.proofs.Names
use Names.{ℕ, Bool, true, false, not, Option, Some, None, [], length, refl, sym, ap, subst, inl, inr, arith, eq-eqb}
use Names.{ne_eqb, same_Some, rest, put_same, own_sections, Config, open_in, left_in, Hold, NotHeld, Holds, hold_in}
use Names.{lock_queue, Word, admits, is_plain, is_drop, Event, Mtx, Mode, QueueName, LogsAreParts, OnlyLocksAreHeld}
use Names.{CountedInIsNextMarked, State, Wait, Look, Round, Running, Queued, Awake, SleepHalted, is_parked}
use Names.{gained_order, Looks, Seeks, Gains, Drops, TakesItem, GivesItem, chain_of, seeks, is_first, is_with}
use Names.{counts_as_look, Stamps, FitsRound, IsItem, IsOfRound, HasItem, HasOutForEntry, NotesInRound, EndsTake}
use Names.{ends_sleep, is_halting, IsHalting, IsFirstExchange, IsSecondExchange, IsRunnable, OwesNoStep, GoesOn}
use Names.{NeedsNoAdmission, IsRoundOfWanted, GainsInOrder, KeepsCountedOut, Item, TurnstileChain, SleepChain, RecordOf}
use Names.{CellOf, ClassGraph, item_with, IsOnItsWay, IsSettled, MayCheckOrders, IsDoneWith, Asks, IsActing, is_woken}
use Names.{is_taking_back, round_of, taking_from, after_seek, config_in, Description, Slot, IsAllowed, slot_of, IsOf}
use Names.{IsPosed, objects_in, found, Doing, ShareColumns, columns_of, share_in, is_among, Fits, MayMake, Pose, Runs}
use Names.{StandsOn, is_off_queues, Knowledge, stands_nowhere, found_first, IsGoing, IsOffTheWay, is_there, is_out}
use Names.{has_item, counts}
use Rattle.std.proofs.Common.{◌≡◌, ◌≢◌, ◌⊎◌, ◌<◌, ◌&&◌, ◌||◌, ◌∷◌, ◌∙◌}
use mathlib.Core.Option as slots
use mathlib.Core.Option.{some-ne-none}
use Rattle.lock_laws.proofs.OwnEntries.{own_section}

both_true : (x y : Bool) → (x && y) ≡ true → (x ≡ true) × (y ≡ true)
both_true true y e = (refl, e)
both_true false y e = absurd cc

-- items that neither block threads nor tell of orders
abbrev pub is_record_or_cell : Item → Bool
is_record_or_cell (TurnstileChain k) = false
is_record_or_cell (SleepChain k) = false
is_record_or_cell (RecordOf u) = true
is_record_or_cell (CellOf l key) = true
is_record_or_cell ClassGraph = false

-- in a round, a look that counts is at the round's lock
of_its_round : (o : Option Round) (h : Hold) (away : Bool) (l : ℕ) → o ≢ None
    → ((seeks l o || is_first o h) && away) ≡ true → seeks l o ≡ true
of_its_round f h away l ne e = grind arith

-- a thread that makes the first exchange of a call wants and takes nothing, remembers no look, and none counts
pub record BeginsCall (v : Knowledge) : Type 0 where
  pub wants : v.share.doing.wanted ≡ None
  pub takes : v.share.doing.taking ≡ None
  pub unseen : v.share.doing.last_look ≡ None
  pub no_looks : v.share.doing.looks ≡ 0

-- a thread that makes the second exchange of a call at that lock, which is no mutex: it wants, takes and holds nothing,
-- its last look was at the lock, and is the one that counts
pub record ExchangesAgain (floor : Description) (l : ℕ) (v : Knowledge) : Type 0 where
  pub kind : (config_in floor).kind l ≢ Mtx
  pub wants : v.share.doing.wanted ≡ None
  pub takes : v.share.doing.taking ≡ None
  pub bare : v.share.held ≡ []
  pub behind : (look : Look) × (v.share.doing.last_look ≡ Some look) × (look.lock ≡ l)
  pub once : v.share.doing.looks ≡ 1

-- a take of the thread needs no admission: it holds nothing, has nothing to note, and isn't in a wait
pub record TakesFreely (v : Knowledge) : Type 0 where
  pub bare : v.share.held ≡ []
  pub unnoted : v.share.doing.noted ≡ None
  pub no_wait : is_taking_back v.share.log ≡ false

-- a blocking call is of the lock that the thread wants, or needs no admission
abbrev pub IsOrderedTake : ℕ → Knowledge → Type 0
IsOrderedTake l v = (v.share.doing.wanted ≡ Some l) ⊎ TakesFreely v

-- a blocking call's round that is under way is of the lock that the thread wants
abbrev pub WantsItsRound : Knowledge → Type 0
WantsItsRound v =
    (r : Round) → v.share.doing.round ≡ Some r → r.by_try ≡ false → v.share.doing.wanted ≡ Some r.lock

-- it has no halt of a take to note
abbrev pub IsUnhalted : Knowledge → Type 0
IsUnhalted v = (k : ℕ) → v.share.doing.noted ≡ Some (SleepHalted (lock_queue k)) → ⊥

-- A round begins by a call: the thread wants the lock or none, takes none where it wants none, and is in no round.
-- Where it remembers a look, that is the first exchange of a blocking call, which missed, and it holds nothing
pub record BeginsRound (l : ℕ) (by_try : Bool) (v : Knowledge) : Type 0 where
  pub unheld : hold_in v.share.held l ≡ NotHeld
  pub wants : (v.share.doing.wanted ≡ Some l) ⊎ (v.share.doing.wanted ≡ None)
  pub tries : by_try ≡ true → v.share.doing.wanted ≡ None
  pub anew : v.share.doing.wanted ≡ None → v.share.doing.taking ≡ None
  pub unseen : by_try ≡ true → v.share.doing.last_look ≡ None
  pub missed : (look : Look) → v.share.doing.last_look ≡ Some look → (look.lock ≡ l) × (v.share.held ≡ [])
  pub ordered : by_try ≡ false → IsOrderedTake l v
  pub unhalted : IsUnhalted v
  pub no_round : v.share.doing.round ≡ None
  pub runs : v.pose ≡ Runs
  pub nothing_out : v.out ≡ []
  pub going : IsGoing v

-- a thread that runs, or came to stand on a queue, isn't about to stand on one
settled_at : (p : Pose) (wait : Wait) (o : Option QueueName) → IsOffTheWay p → IsPosed p wait o → wait ≡ Queued
    → o ≢ None
settled_at p wait o e h queued none = grind arith

module _ (floor : Description) (v : Knowledge) where
  abbrev c : Config
  c = config_in floor

  abbrev t : ℕ
  t = v.thread

  -- 1. What fits

  module _ (s : State) (f : Fits floor v s) where
    pub column : {A : Type 0} (g : ShareColumns → A) → g (columns_of v.share) ≡ g (share_in s t)
    column g = ap g f.share.columns

    -- it has out what its seat has, and nothing else
    pub its_item : v.description ≡ floor → (i : Item) → has_item v i ≡ is_with t (item_with s i)
    its_item mine i = ap (λ (d : Description). is_out v.out (slot_of d i)) mine ∙ go (slot_of floor i) refl
      where
        without : (o : Option ℕ) → (o ≡ Some t → ⊥) → false ≡ is_with t o
        without None away = refl
        without (Some u) away = sym (ne_eqb u t (λ e. away (ap Some e)))

        there : (j : ℕ) → slot_of floor i ≡ Some j → (o : slots.Option Slot) → found j v.out ≡ o
            → is_there o ≡ is_with t (item_with s i)
        there j place slots.none e = without (item_with s i) (λ out.
            let p = f.out.no_other i out in
            let same : p.0 ≡ j = same_Some p.0 j (sym p.1 ∙ place) in
            some-ne-none p.2.0 (sym p.2.1 ∙ ap (λ k. found k v.out) same ∙ e))
        there j place (slots.some x) e = sym (ap (is_with t) (f.out.each i j x place e).0 ∙ eq-eqb t t refl)

        go : (o : Option ℕ) → slot_of floor i ≡ o → is_out v.out o ≡ is_with t (item_with s i)
        go None e = without (item_with s i)
            (λ out. let p = f.out.no_other i out in let z : None ≡ Some p.0 = sym e ∙ p.1 in cc)
        go (Some j) e = there j e (found j v.out) refl

    -- where nothing is out
    pub nothing_with : v.out ≡ [] → (i : Item) → HasItem s t i → ⊥
    nothing_with empty i out =
        let there = f.out.no_other i out in
        some-ne-none there.2.0 (sym there.2.1 ∙ ap (found there.0) empty)

    -- its sections are those of its log
    pub own_log : (l : ℕ) → open_in c s.history t l ≡ open_in c v.share.log t l
    unfolding LogsAreParts
    own_log l = own_section c s.history t l
        ∙ ap (λ es. open_in c es t l) (sym (f.sound.facts.lawful.books.logs_are_parts t) ∙ sym (column (λ x. x.log)))

    -- and so are those that its waits ended
    pub own_left : (l : ℕ) → left_in c v.share.log t l ≡ left_in c s.history t l
    unfolding LogsAreParts
    own_left l = sym (ap (λ x. x.left) (own_sections c s.history t l)
        ∙ ap (λ es. left_in c es t l) (sym (f.sound.facts.lawful.books.logs_are_parts t) ∙ sym (column (λ x. x.log))))

    -- what it holds, wants, seeks and does
    pub holds_it : (l : ℕ) → s.held t l ≡ hold_in v.share.held l
    holds_it l = sym (column (λ x. x.held l))

    pub doing_it : {A : Type 0} (g : Doing → A) → g (share_in s t).doing ≡ g v.share.doing
    doing_it g = sym (column (λ x. g x.doing))

    -- whether a look counts, as the state has it
    pub counts_it : v.description ≡ floor → (l : ℕ) → counts v l ≡ counts_as_look floor.chains c s t l
    counts_it mine l =
        let chain : chain_of v.description.chains (config_in v.description) l ≡ chain_of floor.chains c l =
        ap (λ (d : Description). chain_of d.chains (config_in d) l) mine in
        (λ i. (seeks l (sym (doing_it (λ d. d.round)) i)
        || is_first (sym (doing_it (λ d. d.round)) i) (sym (holds_it l) i)) && not (has_item v (chain i)))
        ∙ ap (λ b. (seeks l (s.round t) || is_first (s.round t) (s.held t l)) && not b)
        (its_item mine (chain_of floor.chains c l))

    -- a lock that it holds is one of the floor's
    pub its_lock : (l : ℕ) (mode : Mode) → hold_in v.share.held l ≡ Holds mode → l < length floor.locks
    unfolding OnlyLocksAreHeld
    its_lock l mode e = f.sound.taken.only_locks_are_held t l mode (holds_it l ∙ e)

    -- with nothing out
    no_item : v.out ≡ [] → (i : Item) → is_with t (item_with s i) ≡ false
    no_item empty i = go (item_with s i) refl
      where
        go : (o : Option ℕ) → item_with s i ≡ o → is_with t o ≡ false
        go None e = refl
        go (Some u) e = ne_eqb u t (λ q. nothing_with empty i (e ∙ ap Some q))

    pub settled_now : IsOffTheWay v.pose → IsSettled s t
    settled_now there = settled_at v.pose (s.wait t) (s.blocked_on t) there f.pose

    -- it isn't on its way to a channel
    pub not_away_settled : IsOffTheWay v.pose → IsOnItsWay s t → ⊥
    not_away_settled there o = settled_now there o.queued o.nowhere

    pub awake_now : IsGoing v → IsRunnable s t
    awake_now going = record {
      phase = doing_it (λ d. d.phase) ∙ going.awake;
      unended = doing_it (λ d. d.has_ended) ∙ going.unended;
    }

    not_halting : IsGoing v → IsHalting s t → ⊥
    not_halting going e = let z : false ≡ true = sym (ap is_halting (awake_now going).phase) ∙ e in cc

    pub stamped_now : IsGoing v → s.unstamped t ≡ None
    stamped_now going = doing_it (λ d. d.unstamped) ∙ going.stamped

    pub owes_settled : IsOffTheWay v.pose → IsGoing v → OwesNoStep s t
    owes_settled there going = record { added = not_away_settled there; stamped = stamped_now going }

    -- a thread that has counted nobody in may give back whatever it has out, and any thread its own record: it counts
    -- itself in and out without it
    pub keeps_out : v.share.doing.counting ≡ None → (i : Item) → KeepsCountedOut s t i
    keeps_out uncounted i u is counted =
        let z : None ≡ Some u = sym (doing_it (λ d. d.counting) ∙ uncounted) ∙ counted in cc

    -- who has no record out has counted nobody in
    pub none_counted : ((u : ℕ) → HasItem s t (RecordOf u) → ⊥) → v.share.doing.counting ≡ None
    unfolding CountedInIsNextMarked
    none_counted bare = go v.share.doing.counting refl
      where
        go : (o : Option ℕ) → v.share.doing.counting ≡ o → v.share.doing.counting ≡ None
        go None e = e
        go (Some u) e = absurd
            (bare u (f.sound.counted.counted_in_is_next_marked t u (doing_it (λ d. d.counting) ∙ e)).2)

    pub keeps_own_out : KeepsCountedOut s t (RecordOf t)
    unfolding CountedInIsNextMarked
    keeps_own_out u is counted =
        (f.sound.counted.counted_in_is_next_marked t u counted).1 (let z : RecordOf t ≡ RecordOf u = is in cc)

    pub goes_on_settled : IsOffTheWay v.pose → IsGoing v → GoesOn s t
    goes_on_settled there going = record { runs = awake_now going; owes = owes_settled there going }

    module _ (runs : v.pose ≡ Runs) where
      is_running : s.wait t ≡ Running
      is_running = subst (λ p. IsPosed p (s.wait t) (s.blocked_on t)) runs f.pose

      -- the thread stands on no queue and wasn't woken
      pub is_acting : IsActing s t
      is_acting = record {
        unnamed = stands_nowhere c s f.sound.facts.lawful t v.pose (ap is_off_queues runs) f.pose;
        unwoken = ap is_woken is_running;
      }

      -- a thread that runs isn't on its way to a channel
      off : IsOnItsWay s t → ⊥
      off = not_away_settled (inl runs)

    module _ (runs : v.pose ≡ Runs) (going : IsGoing v) where
      pub is_awake : IsRunnable s t
      is_awake = awake_now going

      pub owes_none : OwesNoStep s t
      owes_none = owes_settled (inl runs) going

      pub goes_on : GoesOn s t
      goes_on = goes_on_settled (inl runs) going

      first_exchange : BeginsCall v → IsFirstExchange s t
      first_exchange b = record {
        acting = is_acting runs;
        wants = doing_it (λ d. d.wanted) ∙ b.wants;
        takes = doing_it (λ d. d.taking) ∙ b.takes;
        unseen = doing_it (λ d. d.last_look) ∙ b.unseen;
        first = doing_it (λ d. d.looks) ∙ b.no_looks;
      }

      second_exchange : (l : ℕ) → ExchangesAgain floor l v → IsSecondExchange c s t l
      second_exchange l a = record {
        kind = a.kind;
        acting = is_acting runs;
        wants = doing_it (λ d. d.wanted) ∙ a.wants;
        takes = doing_it (λ d. d.taking) ∙ a.takes;
        bare = sym (column (λ x. x.held_locks)) ∙ ap gained_order a.bare;
        behind = (a.behind.0, doing_it (λ d. d.last_look) ∙ a.behind.1, a.behind.2);
        once = doing_it (λ d. d.looks) ∙ a.once;
      }

      -- an exchange outside a round is one of these
      call_exchange : (l : ℕ) → BeginsCall v ⊎ ExchangesAgain floor l v
          → IsFirstExchange s t ⊎ (IsSecondExchange c s t l ⊎ IsHalting s t)
      call_exchange l (inl b) = inl (first_exchange b)
      call_exchange l (inr a) = inr (inl (second_exchange l a))

    -- how it keeps to the order of locks

    -- its take is of the lock that it wants, or needs no admission
    pub in_order : (l : ℕ) → IsOrderedTake l v → (s.wanted t ≡ Some l) ⊎ NeedsNoAdmission s t
    in_order l (inl wants) = inl (doing_it (λ d. d.wanted) ∙ wants)
    in_order l (inr free) = inr record {
      bare = sym (column (λ x. x.held_locks)) ∙ ap gained_order free.bare;
      unnoted = doing_it (λ d. d.noted) ∙ free.unnoted;
      awake = ap is_taking_back (sym (column (λ x. x.log))) ∙ free.no_wait;
    }

    -- the round under way is of the lock that it wants
    pub in_wanted_round : WantsItsRound v → IsRoundOfWanted s t
    in_wanted_round wants r is blocks =
        doing_it (λ d. d.wanted) ∙ wants r (sym (doing_it (λ d. d.round)) ∙ is) blocks

    pub not_halted : IsUnhalted v → (k : ℕ) → s.noted t ≡ Some (SleepHalted (lock_queue k)) → ⊥
    not_halted unhalted k e = unhalted k (sym (doing_it (λ d. d.noted)) ∙ e)

    pub gains_in_order : (l : ℕ) (by_try : Bool) → (by_try ≡ false → IsOrderedTake l v)
        → ((k : ℕ) → v.share.doing.taking ≡ Some k → k ≡ l) → IsUnhalted v → GainsInOrder s t l by_try
    gains_in_order l by_try ordered others unhalted = record {
      wants = λ blocks. in_order l (ordered blocks);
      takes = λ k e. others k (sym (doing_it (λ d. d.taking)) ∙ e);
      unhalted = not_halted unhalted;
    }

    -- outside rounds
    pub no_wanted_round : v.share.doing.round ≡ None → IsRoundOfWanted s t
    no_wanted_round none r is blocks =
        absurd (let z : None ≡ Some r = sym (doing_it (λ d. d.round) ∙ none) ∙ is in cc)

  -- 2. Steps on lock words

  -- with nothing out, a look counts where a round of the lock is under way
  pub none_has : v.out ≡ [] → (i : Item) → has_item v i ≡ false
  none_has empty i = grind arith

  pub counts_there : (l : ℕ) (by_try : Bool) → v.out ≡ [] → v.share.doing.round ≡ Some (round_of l by_try)
      → counts v l ≡ true
  counts_there l by_try empty round =
      (λ i. (seeks l (round i) || is_first (round i) (hold_in v.share.held l))
      && not (none_has empty (chain_of v.description.chains (config_in v.description) l) i))
      ∙ (λ i. (eq-eqb l l refl i || false) && true)

  -- outside a round a look at a lock that it doesn't hold counts, and one at a lock that it holds doesn't
  pub counts_first : (l : ℕ) → v.out ≡ [] → v.share.doing.round ≡ None → hold_in v.share.held l ≡ NotHeld
      → counts v l ≡ true
  counts_first l empty none unheld i =
      (seeks l (none i) || is_first (none i) (unheld i))
      && not (none_has empty (chain_of v.description.chains (config_in v.description) l) i)

  pub counts_not : (l : ℕ) (mode : Mode) → v.share.doing.round ≡ None → hold_in v.share.held l ≡ Holds mode
      → counts v l ≡ false
  counts_not l mode none held i =
      (seeks l (none i) || is_first (none i) (held i))
      && not (has_item v (chain_of v.description.chains (config_in v.description) l))

  pub may_look : (l : ℕ) → v.description ≡ floor → l < length floor.locks → v.pose ≡ Runs → v.out ≡ [] → IsGoing v
      → (counts v l ≡ true → v.share.doing.looks < 100) → (v.share.doing.round ≢ None → counts v l ≡ true)
      → (v.share.doing.round ≡ None → v.share.doing.taking ≡ None)
      → (v.share.doing.round ≡ None → hold_in v.share.held l ≡ NotHeld → BeginsCall v ⊎ ExchangesAgain floor l v)
      → WantsItsRound v
      → MayMake floor v (λ s. Unit {0}) (Looks t l (counts v l) ∷ [])
  may_look l mine low runs empty going few of_round takes first wants s f _ =
      let round : s.round t ≡ v.share.doing.round = doing_it s f (λ d. d.round) in
      let looks : s.looks t ≡ v.share.doing.looks = doing_it s f (λ d. d.looks) in
      let counted = counts_it s f mine l in (
        record {
          fits = record {
            may = record { thread = f.thread; lock = low; room = λ e. subst (λ n. n < 100) (sym looks) (few e) };
            has_out = tt;
            has_seen = record {
              counts = counted;
              of_round = λ ne. ap (seeks l) round ∙ seeks_it (λ e. ne (round ∙ e));
              in_chain = λ i x out. absurd (nothing_with s f empty i out);
              outside = λ i n x out. absurd (nothing_with s f empty i out);
              outside_takes = λ none. inl (doing_it s f (λ d. d.taking) ∙ takes (sym round ∙ none));
              outside_first = λ none unheld. call_exchange s f runs going l
                  (first (sym round ∙ none) (sym (holds_it s f l) ∙ unheld));
              halting = λ e. absurd (not_halting s f going e);
            };
            asks_of_thread = record { runs = inl (is_awake s f runs going); owes = owes_none s f runs going };
          };
          keeps_order = record {
            taken = λ e. of_the_round e v.share.doing.round refl;
            wants = λ _. in_wanted_round s f wants;
          };
          keeps_count = tt;
        },
        tt,
      )
    where
      seeks_it : v.share.doing.round ≢ None → seeks l v.share.doing.round ≡ true
      seeks_it ne = of_its_round v.share.doing.round (hold_in v.share.held l) _ l ne (of_round ne)

      -- what is taken is looked at in its round alone
      of_the_round : s.taking t ≡ Some l → (o : Option Round) → v.share.doing.round ≡ o → seeks l (s.round t) ≡ true
      of_the_round e None none = absurd
          (let z : None ≡ Some l = sym (doing_it s f (λ d. d.taking) ∙ takes none) ∙ e in cc)
      of_the_round e (Some r) some = ap (seeks l) (doing_it s f (λ d. d.round))
          ∙ seeks_it (λ none. let z : Some r ≡ None = sym some ∙ none in cc)

  -- a look at a lock that it holds, to release it, of a thread that runs or stands on a queue
  pub may_look_settled : (l : ℕ) (mode : Mode) → v.description ≡ floor → l < length floor.locks
      → hold_in v.share.held l ≡ Holds mode → v.share.doing.round ≡ None → v.share.doing.taking ≡ None → v.out ≡ []
      → IsOffTheWay v.pose → IsGoing v → MayMake floor v (λ s. Unit {0}) (Looks t l (counts v l) ∷ [])
  may_look_settled l mode mine low held none takes empty there going s f _ =
      let counted = counts_it s f mine l in
      let uncounted : counts v l ≡ false = counts_not l mode none held in
      let no_round : s.round t ≡ None = doing_it s f (λ d. d.round) ∙ none in
      let holds : s.held t l ≡ Holds mode = holds_it s f l ∙ held in (
        record {
          fits = record {
            may = record {
              thread = f.thread;
              lock = low;
              room = λ e. absurd (let z : false ≡ true = sym uncounted ∙ e in cc);
            };
            has_out = tt;
            has_seen = record {
              counts = counted;
              of_round = λ ne. absurd (ne no_round);
              in_chain = λ i x out. absurd (nothing_with s f empty i out);
              outside = λ i n x out. absurd (nothing_with s f empty i out);
              outside_takes = λ _. inl (doing_it s f (λ d. d.taking) ∙ takes);
              outside_first = λ _ unheld. absurd (let z : Holds mode ≡ NotHeld = sym holds ∙ unheld in cc);
              halting = λ e. absurd (not_halting s f going e);
            };
            asks_of_thread = record { runs = inl (awake_now s f going); owes = owes_settled s f there going };
          };
          keeps_order = record {
            taken = λ e. absurd (let z : None ≡ Some l = sym (doing_it s f (λ d. d.taking) ∙ takes) ∙ e in cc);
            wants = λ _. no_wanted_round s f none;
          };
          keeps_count = tt;
        },
        tt,
      )

  -- the begin of a round, with a first look or with a gain

  module _ (l : ℕ) (by_try : Bool) (low : l < length floor.locks) (b : BeginsRound l by_try v) (s : State)
      (f : Fits floor v s) where
    abbrev sought : State
    sought = after_seek s t l by_try

    seek_fits : IsAllowed floor s (Seeks t l by_try)
    seek_fits = record {
      fits = record {
        may = record {
          thread = f.thread;
          lock = low;
          unheld = holds_it s f l ∙ b.unheld;
          acting = is_acting s f b.runs;
          wants = subst (λ w. (w ≡ Some l) ⊎ (w ≡ None)) (sym (doing_it s f (λ d. d.wanted))) b.wants;
          tries_want_nothing = λ e. doing_it s f (λ d. d.wanted) ∙ b.tries e;
          no_round = doing_it s f (λ d. d.round) ∙ b.no_round;
        };
        has_out = nothing_with s f b.nothing_out (chain_of floor.chains c l);
        has_seen = record {
          takes = λ e. doing_it s f (λ d. d.taking) ∙ b.anew (sym (doing_it s f (λ d. d.wanted)) ∙ e);
          tries = λ e. doing_it s f (λ d. d.last_look) ∙ b.unseen e;
          blocks = λ look e.
              let m = b.missed look (sym (doing_it s f (λ d. d.last_look)) ∙ e) in
              (m.0, sym (column s f (λ x. x.held_locks)) ∙ ap gained_order m.1);
        };
        asks_of_thread = goes_on s f b.runs b.going;
      };
      keeps_order = λ blocks. in_order s f l (b.ordered blocks);
      keeps_count = tt;
    }

    begun : sought.round t ≡ Some (round_of l by_try)
    unfolding after_seek
    begun = put_same s.round t (Some (round_of l by_try))

    in_round : sought.round t ≡ None → ⊥
    in_round none = let z : Some (round_of l by_try) ≡ None = sym begun ∙ none in cc

    runs_on : IsRunnable sought t
    unfolding after_seek
    runs_on = let a = is_awake s f b.runs b.going in assumption a

    owes_on : OwesNoStep sought t
    unfolding after_seek
    owes_on = record {
      added = λ o. off s f b.runs
          assumption o;
      stamped = (owes_none s f b.runs b.going).stamped;
    }

    look_fits : (by_try ≡ false → v.share.doing.wanted ≡ Some l) → IsAllowed floor sought (Looks t l true)
    unfolding after_seek
    look_fits wants =
        let looks : sought.looks t ≡ 0 = put_same s.looks t 0 in
        let of_round : seeks l (Some (round_of l by_try)) ≡ true = eq-eqb l l refl in
        record {
          fits = record {
            may = record { thread = f.thread; lock = low; room = λ _. subst (λ n. n < 100) (sym looks) (omega arith) };
            has_out = tt;
            has_seen = record {
              counts = sym (ap (λ r. (seeks l r || is_first r (s.held t l))
                  && not (is_with t (item_with s (chain_of floor.chains c l)))) begun
                  ∙ (λ i. (of_round i || false) && not (no_item s f b.nothing_out (chain_of floor.chains c l) i)));
              of_round = λ _. ap (seeks l) begun ∙ of_round;
              in_chain = λ i x out. absurd (nothing_with s f b.nothing_out i out);
              outside = λ i n x out. absurd (nothing_with s f b.nothing_out i out);
              outside_takes = λ none. absurd (in_round none);
              outside_first = λ none. absurd (in_round none);
              halting = λ e. absurd (not_halting s f b.going e);
            };
            asks_of_thread = record { runs = inl runs_on; owes = owes_on };
          };
          keeps_order = record { taken = λ _. ap (seeks l) begun ∙ of_round; wants = λ _. of_wanted };
          keeps_count = tt;
        }
      where
        -- the round is of the lock that is wanted
        of_wanted : IsRoundOfWanted sought t
        of_wanted r is blocks =
            let same : round_of l by_try ≡ r = same_Some (round_of l by_try) r (sym begun ∙ is) in
            doing_it s f (λ d. d.wanted) ∙ wants (ap (λ (x : Round). x.by_try) same ∙ blocks)
            ∙ ap (λ (x : Round). Some x.lock) same

    -- then the lock is taken by a blocking call: also where it was wanted, and so taken already
    taken : by_try ≡ false → (v.share.doing.wanted ≡ Some l → v.share.doing.taking ≡ Some l)
        → sought.taking t ≡ Some l
    unfolding after_seek
    taken blocks already = put_same s.taking t (taking_from by_try (s.wanted t) l (s.taking t)) ∙ elim b.wants [
      | inl w ↦ (λ i. taking_from (blocks i) ((doing_it s f (λ d. d.wanted) ∙ w) i) l (s.taking t))
          ∙ doing_it s f (λ d. d.taking) ∙ already w
      | inr w ↦ (λ i. taking_from (blocks i) ((doing_it s f (λ d. d.wanted) ∙ w) i) l (s.taking t))
    ]

    -- what a try takes it took before: nothing
    taken_by_try : by_try ≡ true → sought.taking t ≡ None
    unfolding after_seek
    taken_by_try tries =
        put_same s.taking t (taking_from by_try (s.wanted t) l (s.taking t))
        ∙ (λ i. taking_from (tries i) (s.wanted t) l (s.taking t))
        ∙ doing_it s f (λ d. d.taking) ∙ b.anew (b.tries tries)

    gain_fits : (mode : Mode) → admits (c.kind l) (s.word l) mode ≡ true → is_plain (c.kind l) (s.word l) mode ≡ true
        → (v.share.doing.wanted ≡ Some l → v.share.doing.taking ≡ Some l)
        → IsAllowed floor sought (Gains t l mode by_try)
    unfolding after_seek
    gain_fits mode admitted plain already =
        let acting = is_acting s f b.runs in
        record {
          fits = record {
            may = record {
              thread = f.thread;
              lock = low;
              admitted = admitted;
              plainly = plain;
              unheld = holds_it s f l ∙ b.unheld;
              acting = assumption acting;
              wants = subst (λ w. (w ≡ Some l) ⊎ (w ≡ None)) (sym (doing_it s f (λ d. d.wanted))) b.wants;
            };
            has_out = tt;
            has_seen = record {
              fits = subst (λ r. FitsRound r l by_try) (sym begun) (refl, refl);
              in_round = λ none. absurd (in_round none);
              saw = λ w out _. absurd (nothing_with s f b.nothing_out (chain_of floor.chains c l) out);
              outside_first = λ none. absurd (in_round none);
              others = of_it by_try refl;
              takes = λ blocks. taken blocks already;
            };
            asks_of_thread = record { runs = runs_on; owes = owes_on };
          };
          keeps_order = record {
            wants = λ blocks. still_in_order (b.ordered blocks);
            takes = of_it by_try refl;
            unhalted = not_halted s f b.unhalted;
          };
          keeps_count = tt;
        }
      where
        of_it : (x : Bool) → by_try ≡ x → (k : ℕ) → sought.taking t ≡ Some k → k ≡ l
        of_it true tries k e = absurd (let z : None ≡ Some k = sym (taken_by_try tries) ∙ e in cc)
        of_it false blocks k e = same_Some k l (sym e ∙ taken blocks already)

        still_in_order : IsOrderedTake l v → (sought.wanted t ≡ Some l) ⊎ NeedsNoAdmission sought t
        still_in_order o = elim (in_order s f l o) [
          | inl wants ↦ inl wants
          | inr free ↦ inr (assumption free)
        ]

  pub may_seek : (l : ℕ) (by_try : Bool) → l < length floor.locks → BeginsRound l by_try v
      → (by_try ≡ false → v.share.doing.wanted ≡ Some l)
      → MayMake floor v (λ s. Unit {0}) (Seeks t l by_try ∷ Looks t l true ∷ [])
  may_seek l by_try low b wants s f _ = (seek_fits l by_try low b s f, (look_fits l by_try low b s f wants, tt))

  pub may_seek_gain : (l : ℕ) (mode : Mode) (by_try : Bool) (word : Word) → l < length floor.locks
      → admits (c.kind l) word mode ≡ true → is_plain (c.kind l) word mode ≡ true
      → (v.share.doing.wanted ≡ Some l → v.share.doing.taking ≡ Some l) → BeginsRound l by_try v
      → MayMake floor v (λ s. s.word l ≡ word) (Seeks t l by_try ∷ Gains t l mode by_try ∷ [])
  may_seek_gain l mode by_try word low admitted plain already b s f its = (
    seek_fits l by_try low b s f,
    (
      gain_fits l by_try low b s f mode (ap (λ w. admits (c.kind l) w mode) its ∙ admitted)
          (ap (λ w. is_plain (c.kind l) w mode) its ∙ plain) already,
      tt,
    ),
  )

  pub may_gain : (l : ℕ) (mode : Mode) (by_try : Bool) (word : Word) → l < length floor.locks
      → admits (c.kind l) word mode ≡ true → is_plain (c.kind l) word mode ≡ true → hold_in v.share.held l ≡ NotHeld
      → (v.share.doing.wanted ≡ Some l) ⊎ (v.share.doing.wanted ≡ None) → FitsRound v.share.doing.round l by_try
      → (v.share.doing.round ≡ None → BeginsCall v) → ((k : ℕ) → v.share.doing.taking ≡ Some k → k ≡ l)
      → (by_try ≡ false → v.share.doing.taking ≡ Some l) → (by_try ≡ false → IsOrderedTake l v) → IsUnhalted v
      → v.pose ≡ Runs → v.out ≡ [] → IsGoing v
      → MayMake floor v (λ s. s.word l ≡ word) (Gains t l mode by_try ∷ [])
  may_gain l mode by_try word low admitted plain unheld wants fits first others takes ordered unhalted runs empty going
      s f its =
      let round : s.round t ≡ v.share.doing.round = doing_it s f (λ d. d.round) in
      let wanted : s.wanted t ≡ v.share.doing.wanted = doing_it s f (λ d. d.wanted) in (
        record {
          fits = record {
            may = record {
              thread = f.thread;
              lock = low;
              admitted = ap (λ w. admits (c.kind l) w mode) its ∙ admitted;
              plainly = ap (λ w. is_plain (c.kind l) w mode) its ∙ plain;
              unheld = holds_it s f l ∙ unheld;
              acting = is_acting s f runs;
              wants = subst (λ w. (w ≡ Some l) ⊎ (w ≡ None)) (sym wanted) wants;
            };
            has_out = tt;
            has_seen = record {
              fits = subst (λ r. FitsRound r l by_try) (sym round) fits;
              in_round = λ _. nothing_with s f empty (chain_of floor.chains c l);
              saw = λ w out _. absurd (nothing_with s f empty (chain_of floor.chains c l) out);
              outside_first = λ none. first_exchange s f runs going (first (sym round ∙ none));
              others = λ k e. others k (sym (doing_it s f (λ d. d.taking)) ∙ e);
              takes = λ e. doing_it s f (λ d. d.taking) ∙ takes e;
            };
            asks_of_thread = goes_on s f runs going;
          };
          keeps_order = gains_in_order s f l by_try ordered others unhalted;
          keeps_count = tt;
        },
        tt,
      )

  -- a release, of a thread that runs or stands on a queue
  pub may_drop_settled : (l : ℕ) (mode : Mode) (word : Word) → l < length floor.locks
      → hold_in v.share.held l ≡ Holds mode → is_drop word ≡ true → open_in c v.share.log t l ≡ NotHeld
      → is_among l v.share.begun ≡ true → v.share.doing.taking ≡ None → IsOffTheWay v.pose → IsGoing v
      → MayMake floor v (λ s. s.word l ≡ word) (Drops t l mode ∷ [])
  may_drop_settled l mode word low held stays closed begun takes there going s f its = (
    record {
      fits = record {
        may = record {
          thread = f.thread;
          lock = low;
          held = holds_it s f l ∙ held;
          stays = ap is_drop its ∙ stays;
          closed = own_log s f l ∙ closed;
          begun = sym (column s f (λ x. x.has_begun l)) ∙ begun;
        };
        has_out = tt;
        has_seen = tt;
        asks_of_thread = goes_on_settled s f there going;
      };
      keeps_order = doing_it s f (λ d. d.taking) ∙ takes;
      keeps_count = tt;
    },
    tt,
  )

  -- the same of one that runs
  pub may_drop : (l : ℕ) (mode : Mode) (word : Word) → l < length floor.locks → hold_in v.share.held l ≡ Holds mode
      → is_drop word ≡ true → open_in c v.share.log t l ≡ NotHeld → is_among l v.share.begun ≡ true
      → v.share.doing.taking ≡ None → v.pose ≡ Runs → IsGoing v
      → MayMake floor v (λ s. s.word l ≡ word) (Drops t l mode ∷ [])
  may_drop l mode word low held stays closed begun takes runs =
      may_drop_settled l mode word low held stays closed begun takes (inl runs)

  -- 3. Entries

  pub may_stamp_end : (e : Event) → ((s : State) → Fits floor v s → Asks c s t e × HasOutForEntry floor.chains s t e)
      → NotesInRound v.share.doing.round e → (is_taking_back v.share.log ≡ true → ends_sleep e ≡ true) → v.pose ≡ Runs
      → IsGoing v
      → ((k : ℕ) → v.share.doing.taking ≡ Some k → EndsTake c (is_taking_back v.share.log) e k)
      → MayMake floor v (λ s. Unit {0}) (Stamps t e ∷ [])
  may_stamp_end e asks in_round asleep runs going ends s f _ =
      let a = asks s f in
      let round : s.round t ≡ v.share.doing.round = doing_it s f (λ d. d.round) in
      let unstamped : s.unstamped t ≡ v.share.doing.unstamped = doing_it s f (λ d. d.unstamped) in
      let log : s.log t ≡ v.share.log = sym (column s f (λ x. x.log)) in (
        record {
          fits = record {
            may = record { thread = f.thread; acting = is_acting s f runs; asks = a.0 };
            has_out = a.1;
            has_seen = record {
              in_round = subst (λ r. NotesInRound r e) (sym round) in_round;
              asleep = λ q. asleep (ap is_taking_back (sym log) ∙ q);
              wakes = λ ne. absurd (ne (unstamped ∙ going.stamped));
              takes = λ l q. subst (λ es. EndsTake c (is_taking_back es) e l) (sym log)
                  (ends l (sym (doing_it s f (λ d. d.taking)) ∙ q));
            };
            asks_of_thread = record { runs = is_awake s f runs going; added = off s f runs };
          };
          keeps_order = λ l q. subst (λ es. EndsTake c (is_taking_back es) e l) (sym log)
              (ends l (sym (doing_it s f (λ d. d.taking)) ∙ q));
          keeps_count = tt;
        },
        tt,
      )

  -- of a thread that takes nothing
  pub may_stamp : (e : Event) → ((s : State) → Fits floor v s → Asks c s t e × HasOutForEntry floor.chains s t e)
      → NotesInRound v.share.doing.round e → (is_taking_back v.share.log ≡ true → ends_sleep e ≡ true) → v.pose ≡ Runs
      → IsGoing v → v.share.doing.taking ≡ None
      → MayMake floor v (λ s. Unit {0}) (Stamps t e ∷ [])
  may_stamp e asks in_round asleep runs going takes_nothing =
      may_stamp_end e asks in_round asleep runs going
      (λ k q. absurd (let z : None ≡ Some k = sym takes_nothing ∙ q in cc))

  -- 4. Items

  may_check : v.pose ≡ Runs → (s : State) → Fits floor v s → (i : Item) → MayCheckOrders s t i
  may_check runs s f (TurnstileChain k) = tt
  may_check runs s f (SleepChain k) = tt
  may_check runs s f (RecordOf u) = tt
  may_check runs s f (CellOf l key) = tt
  may_check runs s f ClassGraph = is_acting s f runs

  pub may_take : (i : Item) → v.pose ≡ Runs → v.out ≡ [] → v.share.doing.round ≡ None → IsGoing v
      → ((s : State) → Fits floor v s → IsItem floor.chains c i)
      → MayMake floor v (λ s. item_with s i ≡ None) (TakesItem t i ∷ [])
  may_take i runs empty no_round going there s f home = (
    record {
      fits = record {
        may = record {
          thread = f.thread;
          home = home;
          together = λ k out. absurd (nothing_with s f empty k out);
          orders = may_check runs s f i;
        };
        has_out = (
          there s f,
          subst (λ r. IsOfRound floor.chains c r i) (sym (doing_it s f (λ d. d.round) ∙ no_round))
              tt,
        );
        has_seen = tt;
        asks_of_thread = record { runs = inl (is_awake s f runs going); owes = owes_none s f runs going };
      };
      keeps_order = λ _. no_wanted_round s f no_round;
      keeps_count = tt;
    },
    tt,
  )

  -- what was taken last
  module _ (i : Item) (j : ℕ) (x : Slot) (place : slot_of floor i ≡ Some j) (last : v.out ≡ (j, x) ∷ rest v.out) where
    pub says_its : (s : State) → Fits floor v s → HasItem s t i × IsOf floor (objects_in s) i x
    says_its s f = f.out.each i j x place (ap (found j) last ∙ found_first j x (rest v.out))

    -- a record or a cell goes home where the thread runs or stands on a queue
    pub may_give_settled : is_record_or_cell i ≡ true → IsOffTheWay v.pose → v.share.doing.phase ≡ Awake
        → v.share.doing.unstamped ≡ None → v.share.doing.counting ≡ None
        → MayMake floor v (λ s. Unit {0}) (GivesItem t i ∷ [])
    may_give_settled plain there awake noted uncounted s f _ = (
      record {
        fits = record {
          may = record { thread = f.thread; out = (says_its s f).0; done = done i plain };
          has_out = (says_its s f).0;
          has_seen = tt;
          asks_of_thread = record {
            unparked = ap is_parked (doing_it s f (λ d. d.phase) ∙ awake);
            owes = record {
              added = not_away_settled s f there;
              stamped = doing_it s f (λ d. d.unstamped) ∙ noted;
            };
          };
        };
        keeps_order = tt;
        keeps_count = keeps_out s f uncounted i;
      },
      tt,
    )
      where
        done : (k : Item) → is_record_or_cell k ≡ true → IsDoneWith s t k
        done (TurnstileChain k) it = absurd cc
        done (SleepChain k) it = absurd cc
        done (RecordOf u) it = λ own. settled_now s f there
        done (CellOf l key) it = tt
        done ClassGraph it = absurd cc

    -- the same where it runs
    pub may_give : is_record_or_cell i ≡ true → v.pose ≡ Runs → v.share.doing.phase ≡ Awake
        → v.share.doing.unstamped ≡ None → v.share.doing.counting ≡ None
        → MayMake floor v (λ s. Unit {0}) (GivesItem t i ∷ [])
    may_give plain runs = may_give_settled plain (inl runs)
