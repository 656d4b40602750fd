-- The turns of a thread that gives a lock back, by an operation, after it went to sleep with it or after it was cut:
-- their steps may be made, and they leave the run on track.
use Rattle.run_laws.proofs.Names
use Names.{ℕ, suc, Bool, true, false, cond, eqb, List, [], length, take, slice_get, Option, Some, None, option_map}
use Names.{refl, sym, ap, eq-eqb, subst, none-some, Word, is_free, is_drop, is_turnstile, without_one, shows_waiters}
use Names.{config_of, operations_of, IsProper, hold_in, without_lock, Config, Hold, NotHeld, Holds, is_unheld}
use Names.{lock_queue, open_in, HaltsOnlyWhenRunning, has_reversal, State, HeldLock, Running, put, put_at, gained_order}
use Names.{Step, Stamps, May, MayAll, after, AsksOfSleepers, without_held, entry_of, after_drop, after_stamp}
use Names.{IsLastHolder, after_open, after_open_sleep, QueuedStands, StandingWants, OnlyLocksAreHeld, Run, ends, does}
use Names.{mode_held, was_cut, waits_on, lock_of_wait, owed_release, to_release, without_unheld, Mode, Release, Plan}
use Names.{LockNo, StepKind, Held, IsOnTrack, OwesNothing, IsAtOperation, IsCutShort, TakesLock, by_turn, put_same}
use Names.{Apart, release_fits, still_unheld, hold_in-without, gained_order-without, own_section, arith}
use Rattle.std.proofs.Common.{◌≡◌, ◌≢◌, ◌<◌, ◌∷◌, ◌∙◌}
use Rattle.lock_model.specs.declared.event.Event.TheVariants as event
use Rattle.run_laws.proofs.LastHeld.{GivesLast, gives_last, apart-take}
use Rattle.run_laws.proofs.OnTrack.{KeepsTrack, EndsWell, NoneOut, IsWhere, share_in, goes_on, put_at_own, noted_behind, none_unnoted, unnamed, acting, IsAwake, lets_go_on, is_awake, awake_behind, cut_no_wait, waits_uncut, before, behind, left, fit, are_locks, holds_all, all_listed, all_open, wants_none}
use Rattle.run_laws.proofs.Actions.{GivingBack, its_mode}
use Rattle.run_laws.proofs.Actions as actions

-- what a release that is no drop finds
open_finds : (w : Word) → is_drop w ≡ false → (is_free (without_one w.holder) ≡ true) × (shows_waiters w ≡ true)
open_finds w e = grind arith

-- the lock of a wait has no open section, before its release or behind it
twice_unheld : (b : Bool) (x : Hold) → cond b NotHeld x ≡ cond b NotHeld (cond b NotHeld x)
twice_unheld true x = refl
twice_unheld false x = refl

module _ (plan : Plan) (r : Run) (t : ℕ) (p : IsProper plan) (k : IsOnTrack plan r) (lt : t < length plan.threads) where
  abbrev c : Config
  c = config_of plan

  abbrev s : State
  s = r.state

  -- 1. The step that gives a lock back

  -- what it finds in a state n in which the lock's word is as in s
  record CanGive (n : State) (l : ℕ) (mode : Mode) : Type 0 where
    word : n.word ≡ s.word
    lock : l < c.locks
    held : n.held t l ≡ Holds mode
    closed : open_in c n.history t l ≡ NotHeld
    begun : n.has_begun t l ≡ true
    unmarked : n.marked t ≡ []
    off_turnstiles : (j : ℕ) → n.blocked_on t ≡ Some (lock_queue j) → is_turnstile (c.kind j) ≡ false

  releases : (n : State) (l : ℕ) (mode : Mode) → is_drop (s.word l) ≡ false → CanGive n l mode
      → IsLastHolder c n t l mode
  releases n l mode e f =
      let finds = open_finds (n.word l) (ap (λ w. is_drop (w l)) f.word ∙ e) in
      record {
        thread = lt;
        lock = f.lock;
        held = f.held;
        last = finds.0;
        shown = finds.1;
        unmarked = f.unmarked;
        closed = f.closed;
        begun = f.begun;
      }

  may_give_back : {kind : StepKind} {step : Step} (n : State) (l : ℕ) (mode : Mode)
      → GivingBack plan r t l mode kind step → CanGive n l mode → May c n step
  may_give_back n l mode (actions.drops e) f =
      record {
        thread = lt;
        lock = f.lock;
        held = f.held;
        stays = ap (λ w. is_drop (w l)) f.word ∙ e;
        closed = f.closed;
        begun = f.begun;
      }
  may_give_back n l mode (actions.opens e i) f =
      record { releases = releases n l mode e f; turnstile = i; off_turnstiles = f.off_turnstiles }
  may_give_back n l mode (actions.opens_sleep_queue e i) f = record { releases = releases n l mode e f; sleeps = i }

  -- what it makes of it, by the columns that the run's track is of
  pub record GaveBack (n m : State) (l : ℕ) (step : Step) : Type 0 where
    pub asks : AsksOfSleepers (by_turn t) n step
    pub held : m.held ≡ put_at n.held t l NotHeld
    pub held_locks : m.held_locks ≡ put n.held_locks t (without_held l (n.held_locks t))
    pub log : m.log ≡ n.log
    pub history : m.history ≡ n.history
    pub has_begun : m.has_begun ≡ n.has_begun
    pub wanted : m.wanted ≡ n.wanted
    pub taking : m.taking ≡ n.taking
    pub noted : m.noted ≡ n.noted
    pub wait : m.wait ≡ n.wait
    pub unstamped : m.unstamped ≡ n.unstamped
    pub out : NoneOut n → NoneOut m
    pub stands : QueuedStands n.wait n.blocked_on → QueuedStands m.wait m.blocked_on

  pub gave_back : {kind : StepKind} {step : Step} (n : State) (l : ℕ) (mode : Mode)
      → GivingBack plan r t l mode kind step → GaveBack n (after c n step) l step
  unfolding after_drop after_open after_open_sleep
  gave_back n l mode (actions.drops e) =
      record {
        asks = tt;
        held = refl;
        held_locks = refl;
        log = refl;
        history = refl;
        has_begun = refl;
        wanted = refl;
        taking = refl;
        noted = refl;
        wait = refl;
        unstamped = refl;
        out = λ h. h;
        stands = λ h. h;
      }
  gave_back n l mode (actions.opens e i) =
      record {
        asks = tt;
        held = refl;
        held_locks = refl;
        log = refl;
        history = refl;
        has_begun = refl;
        wanted = refl;
        taking = refl;
        noted = refl;
        wait = refl;
        unstamped = refl;
        out = λ h. h;
        stands = λ h. h;
      }
  gave_back n l mode (actions.opens_sleep_queue e i) =
      record {
        asks = tt;
        held = refl;
        held_locks = refl;
        log = refl;
        history = refl;
        has_begun = refl;
        wanted = refl;
        taking = refl;
        noted = refl;
        wait = refl;
        unstamped = refl;
        out = λ h. h;
        stands = λ h. h;
      }

  -- 2. A running thread that doesn't wait and gives a lock back that it holds, behind the entry of that

  abbrev mode : LockNo → Mode
  mode l = mode_held (s.held t l.0)

  abbrev noted : LockNo → State
  noted l = after_stamp c s t (event.Unlocked l (mode l))

  module _ (l : LockNo) (running : s.wait t ≡ Running) (free : OwesNothing plan r t) (up : waits_on (s.log t) ≡ None)
      (holds : s.held t l.0 ≢ NotHeld) where
    held : s.held t l.0 ≡ Holds (mode l)
    held = its_mode (s.held t l.0) holds

    can_give : CanGive (noted l) l.0 (mode l)
    unfolding after_stamp OnlyLocksAreHeld
    can_give = record {
      word = refl;
      lock = k.taken.only_locks_are_held t l.0 (mode l) held;
      held = held;
      closed = own_section c s t (event.Unlocked l (mode l)) l.0
          ∙ ap (λ b. cond b NotHeld (open_in c s.history t l.0)) (eq-eqb l.0 l.0 refl);
      begun = k.begun t l.0 holds;
      unmarked = free.unmarked;
      off_turnstiles = λ j f. absurd (none-some (lock_queue j) (sym (unnamed plan r t k running) ∙ f));
    }

    pub may_unlock_all : {kind : StepKind} {step : Step} → GivingBack plan r t l.0 (mode l) kind step
        → MayAll c s (Stamps t (event.Unlocked l (mode l)) ∷ step ∷ [])
    may_unlock_all g = (
      record { thread = lt; acting = acting plan r t k running; asks = all_open plan r t k up l.0 ∙ held },
      (may_give_back (noted l) l.0 (mode l) g can_give, tt),
    )

    -- what it has then
    record HasGiven (m : State) : Type 0 where
      held : (j : ℕ) → m.held t j ≡ cond (eqb l.0 j) NotHeld (s.held t j)
      listed : m.held_locks t ≡ without_held l.0 (s.held_locks t)
      sections : (j : ℕ) → open_in c m.history t j ≡ m.held t j
      begun : (j : ℕ) → m.held t j ≢ NotHeld → m.has_begun t j ≡ true
      taking : m.taking t ≡ s.taking t
      unnoted : m.noted t ≡ None

    has_given : (m : State) (step : Step) → GaveBack (noted l) m l.0 step → HasGiven m
    unfolding after_stamp
    has_given m step g = record {
      held = left_so;
      listed = ap (λ f. f t) g.held_locks ∙ put_same s.held_locks t _;
      sections = λ j. ap (λ es. open_in c es t j) g.history ∙ own_section c s t (event.Unlocked l (mode l)) j
          ∙ ap (cond (eqb l.0 j) NotHeld) (all_open plan r t k up j) ∙ sym (left_so j);
      begun = λ j x. ap (λ (f : ℕ → ℕ → Bool). f t j) g.has_begun
          ∙ k.begun t j (λ z. x (left_so j ∙ still_unheld (eqb l.0 j) (s.held t j) z));
      taking = ap (λ f. f t) g.taking ∙ put_same s.taking t (s.taking t);
      unnoted = ap (λ f. f t) g.noted ∙ put_same s.noted t None;
    }
      where
        left_so : (j : ℕ) → m.held t j ≡ cond (eqb l.0 j) NotHeld (s.held t j)
        left_so j = ap (λ (f : ℕ → ℕ → Hold). f t j) g.held ∙ put_at_own s.held t l.0 NotHeld j

  -- 3. An operation that releases

  module _ (l : LockNo) (i : IsAtOperation plan r t (Some (Release l))) where
    up : IsAwake s t
    up = is_awake plan r t k (Release l) i refl

    release_finds : (hold_in (before plan r t) l.0 ≢ NotHeld) × (without_lock l.0 (before plan r t) ≡ behind plan r t)
    release_finds = release_fits plan l _ _ (fit plan r t p (Release l) i.next)

    is_held : s.held t l.0 ≢ NotHeld
    is_held z = release_finds.0 (sym (holds_all plan r t k up l.0) ∙ z)

    pub may_release_all : {kind : StepKind} {step : Step} → GivingBack plan r t l.0 (mode l) kind step
        → MayAll c s (Stamps t (event.Unlocked l (mode l)) ∷ step ∷ [])
    may_release_all g = may_unlock_all l i.running i.free up.no_wait is_held g

    released : (m : State) (step : Step) → GaveBack (noted l) m l.0 step
        → EndsWell plan r t (suc (r.next_op t)) (event.Unlocked l (mode l)) m
    unfolding after_stamp
    released m step g =
        let has = has_given l i.running i.free up.no_wait is_held m step g in
        let none = wants_none plan r t k up.no_wait (Release l) i.next refl in
        record {
          awake = awake_behind r t (event.Unlocked l (mode l)) m (lets_go_on refl refl refl) i.uncut g.log;
          no_halt = refl;
          history = g.history;
          within = left plan r t (Release l) i.next;
          holds = λ j.
              has.held j ∙ ap (cond (eqb l.0 j) NotHeld) (holds_all plan r t k up j)
              ∙ sym (hold_in-without l.0 (before plan r t) j (are_locks plan r t p).apart)
              ∙ ap (λ (hs : List Held). hold_in hs j) release_finds.1;
          listed = has.listed ∙ ap (without_held l.0) (all_listed plan r t k up) ∙ gained_order-without l.0
              (before plan r t) (are_locks plan r t p).apart ∙ ap gained_order release_finds.1;
          sections = has.sections;
          begun = has.begun;
          wants = ap (λ f. f t) g.wanted ∙ none;
          taking = has.taking ∙ k.taking t ∙ none;
          unnoted = has.unnoted;
        }

    pub released_keeps : {kind : StepKind} {step : Step} → GivingBack plan r t l.0 (mode l) kind step
        → KeepsTrack plan r t (ends r t kind (Stamps t (event.Unlocked l (mode l)) ∷ step ∷ []))
    unfolding after_stamp
    released_keeps {kind} {step} g =
        let gave = gave_back (noted l) l.0 (mode l) g in
        goes_on plan r t (suc (r.next_op t)) kind (Stamps t (event.Unlocked l (mode l)) ∷ step ∷ [])
        (event.Unlocked l (mode l)) k ((λ d f. refl), (gave.asks, tt)) (gave.out k.lawful.nothing_out)
        (gave.stands k.lawful.queued_stands)
        (ap (λ f. f t) gave.unstamped ∙ noted_behind plan r t (event.Unlocked l (mode l)) k)
        (released (after c (noted l) step) step gave)

  -- 4. A release after a wait's first turn

  module _ (l : ℕ) (unmarked : s.marked t ≡ []) (owed : owed_release c s t ≡ Some l) where
    abbrev pub held_so : Mode
    held_so = mode_held (s.held t l)

    -- its wait's lock is held
    pub owes_it : (lock_of_wait c s t ≡ Some l) × (s.held t l ≢ NotHeld)
    owes_it = go (lock_of_wait c s t) refl owed
      where
        held : (j : ℕ) (x : Hold) → s.held t j ≡ x → cond (is_unheld x) None (Some j) ≡ Some l
            → (Some j ≡ Some l) × (s.held t l ≢ NotHeld)
        held j x e f = grind arith

        go : (o : Option ℕ) → lock_of_wait c s t ≡ o → to_release (s.held t) o ≡ Some l
            → (o ≡ Some l) × (s.held t l ≢ NotHeld)
        go o e f = grind arith

    pub holds_it : s.held t l ≡ Holds held_so
    holds_it = its_mode (s.held t l) owes_it.1

    pub uncut : was_cut s t ≡ false
    uncut = go (waits_on (s.log t)) refl owes_it.0
      where
        go : (w : Option ℕ) → waits_on (s.log t) ≡ w → option_map c.chan_lock w ≡ Some l → was_cut s t ≡ false
        go None e f = absurd (none-some l f)
        go (Some d) e f = waits_uncut plan r t k d e

    -- so far nothing that its operations led to is released
    pub holds_before : (j : ℕ) → s.held t j ≡ hold_in (before plan r t) j
    holds_before j = rw (uncut, owes_it.0, holds_it) at (k.holds t j)

    listed_before : s.held_locks t ≡ gained_order (before plan r t)
    listed_before = rw (uncut, owes_it.0, holds_it) at (k.listed t)

    -- it stands on no lock's queue: there it would want that lock, and not hold it
    off_queues : (j : ℕ) → s.blocked_on t ≡ Some (lock_queue j) → ⊥
    unfolding StandingWants
    off_queues j e =
        let wanted = k.lawful.lawful.waits.standing_wants t j e in
        owes_it.1 (subst (λ m. s.held t m ≡ NotHeld) (its_lock (waits_on (s.log t)) owes_it.0 (k.wants t j wanted))
        (k.wants_unheld t j wanted))
      where
        its_lock : (w : Option ℕ) → option_map c.chan_lock w ≡ Some l
            → TakesLock c j w (slice_get (operations_of plan t) (r.next_op t)) → j ≡ l
        its_lock w f x = grind arith

    pub may_give_up_all : {kind : StepKind} {step : Step} → GivingBack plan r t l held_so kind step
        → MayAll c s (step ∷ [])
    may_give_up_all g = (
      may_give_back s l held_so g (record {
        word = refl;
        lock = (are_locks plan r t p).within l (λ z. owes_it.1 (holds_before l ∙ z));
        held = holds_it;
        closed = k.sections t l ∙ rw (owes_it.0, eq-eqb l l refl) refl;
        begun = k.begun t l owes_it.1;
        unmarked = unmarked;
        off_turnstiles = λ j f. absurd (off_queues j f);
      }),
      tt,
    )

    gave_up : (m : State) (step : Step) → GaveBack s m l step → IsWhere plan t (share_in plan m t (r.next_op t))
    gave_up m step g = rw (g.log, g.history, g.has_begun, g.wanted, g.taking, g.noted) (record {
      within = k.within t;
      no_endtry = k.no_endtry t;
      waiting = k.waiting t;
      holds = λ j. holds j ∙ ap (cond (eqb l j) NotHeld) (holds_before j)
          ∙ sym (hold_in-without l (before plan r t) j apart) ∙ ap (λ (hs : List Held). hold_in hs j) (sym now);
      listed = ap (λ f. f t) g.held_locks ∙ put_same s.held_locks t _ ∙ ap (without_held l) listed_before
          ∙ gained_order-without l (before plan r t) apart ∙ ap gained_order (sym now);
      left = k.left t;
      opened = λ j. k.sections t j
          ∙ rw owes_it.0 (twice_unheld (eqb l j) (s.held t j) ∙ ap (cond (eqb l j) NotHeld) (sym (holds j)));
      begun = λ j x. k.begun t j (λ z. x (holds j ∙ still_unheld (eqb l j) (s.held t j) z));
      wants = k.wants t;
      wants_unheld = λ j f. holds j ∙ still_unheld (eqb l j) (s.held t j) (k.wants_unheld t j f);
      cut_wants_nothing = k.cut_wants_nothing t;
      taking = k.taking t;
      unnoted = k.unnoted t;
    })
      where
        apart : Apart (before plan r t)
        apart = (are_locks plan r t p).apart

        holds : (j : ℕ) → m.held t j ≡ cond (eqb l j) NotHeld (s.held t j)
        holds j = ap (λ (f : ℕ → ℕ → Hold). f t j) g.held ∙ put_at_own s.held t l NotHeld j

        now : cond (was_cut s t) (take (length (m.held_locks t)) (before plan r t))
            (without_unheld (m.held t) (lock_of_wait c s t) (before plan r t)) ≡ without_lock l (before plan r t)
        now = rw (uncut, owes_it.0, holds l, eq-eqb l l refl) refl

    pub gave_up_keeps : {kind : StepKind} {step : Step} → GivingBack plan r t l held_so kind step
        → KeepsTrack plan r t (does kind (step ∷ []))
    gave_up_keeps {kind} {step} g =
        let gave = gave_back s l held_so g in
        record {
          asks = (gave.asks, tt);
          out = gave.out k.lawful.nothing_out;
          stands = gave.stands k.lawful.queued_stands;
          noted = ap (λ f. f t) gave.unstamped ∙ none_unnoted plan r t k;
          no_halts = rw gave.history k.no_halts;
          there = gave_up (after c s step) step gave;
          back = rw (gave.log, gave.wait, gave.wanted) (k.back_wants t);
        }

  -- 5. A thread that was cut gives back what it gained last

  module _ (h : HeldLock) (rest : List HeldLock) (i : IsCutShort plan r t) (listed : s.held_locks t ≡ h ∷ rest) where
    abbrev its : LockNo
    its = record { 0 = h.lock }

    abbrev left_now : ℕ
    left_now = length (s.held_locks t)

    cut_listed : s.held_locks t ≡ gained_order (take left_now (before plan r t))
    cut_listed = rw i.cut at (k.listed t)

    pub cut_holds : (j : ℕ) → s.held t j ≡ hold_in (take left_now (before plan r t)) j
    cut_holds j = rw i.cut at (k.holds t j)

    apart : Apart (before plan r t)
    apart = (are_locks plan r t p).apart

    pub last : GivesLast (before plan r t) left_now h
    last = gives_last (before plan r t) left_now h rest apart (sym cut_listed ∙ listed)

    last_held : s.held t h.lock ≢ NotHeld
    last_held z = let y : NotHeld ≡ Holds last.last.mode = sym z ∙ cut_holds h.lock ∙ last.held in cc

    none : waits_on (s.log t) ≡ None
    none = cut_no_wait plan r t k i.cut

    pub may_give_last_all : {kind : StepKind} {step : Step} → GivingBack plan r t h.lock (mode its) kind step
        → MayAll c s (Stamps t (event.Unlocked its (mode its)) ∷ step ∷ [])
    may_give_last_all g = may_unlock_all its i.running i.free none last_held g

    fewer : (m : State) (step : Step) → GaveBack (noted its) m h.lock step
        → m.held_locks t ≡ without_held h.lock (gained_order (take left_now (before plan r t)))
    unfolding after_stamp
    fewer m step g = ap (λ f. f t) g.held_locks ∙ put_same s.held_locks t _ ∙ ap (without_held h.lock) cut_listed

    pub last_left : (m : State) (step : Step) → GaveBack (noted its) m h.lock step
        → take (length (m.held_locks t)) (before plan r t) ≡ last.others
    last_left m step g = ap (λ (ls : List HeldLock). take (length ls) (before plan r t)) (fewer m step g) ∙ last.left

    gave_last : (m : State) (step : Step) → GaveBack (noted its) m h.lock step
        → IsWhere plan t (share_in plan m t (r.next_op t))
    unfolding after_stamp
    gave_last m step g = rw (waits, cut, wanted, taking, has.unnoted) (record {
      within = k.within t;
      no_endtry = k.no_endtry t;
      waiting = λ d f. absurd cc;
      holds = λ j.
          has.held j ∙ ap (cond (eqb h.lock j) NotHeld) (cut_holds j) ∙ sym
          (hold_in-without h.lock (take left_now (before plan r t)) j (apart-take left_now (before plan r t) apart))
          ∙ ap (λ (hs : List Held). hold_in hs j) (last.without ∙ sym (last_left m step g));
      listed = fewer m step g ∙ gained_order-without h.lock (take left_now (before plan r t))
          (apart-take left_now (before plan r t) apart) ∙ ap gained_order (last.without ∙ sym (last_left m step g));
      left = λ j f. absurd cc;
      opened = has.sections;
      begun = has.begun;
      wants = λ j f. absurd cc;
      wants_unheld = λ j f. absurd cc;
      cut_wants_nothing = λ f. refl;
      taking = refl;
      unnoted = refl;
    })
      where
        has : HasGiven its i.running i.free none last_held m
        has = has_given its i.running i.free none last_held m step g

        log : m.log t ≡ entry_of s t (event.Unlocked its (mode its)) ∷ s.log t
        log = ap (λ f. f t) g.log ∙ put_same s.log t _

        waits : waits_on (m.log t) ≡ None
        waits = ap waits_on log

        cut : has_reversal (m.log t) ≡ true
        cut = ap has_reversal log ∙ i.cut

        wanted : m.wanted t ≡ None
        wanted = ap (λ f. f t) g.wanted ∙ k.cut_wants_nothing t i.cut

        taking : m.taking t ≡ None
        taking = has.taking ∙ k.taking t ∙ k.cut_wants_nothing t i.cut

    pub gave_last_keeps : {kind : StepKind} {step : Step} → GivingBack plan r t h.lock (mode its) kind step
        → KeepsTrack plan r t (does kind (Stamps t (event.Unlocked its (mode its)) ∷ step ∷ []))
    unfolding after_stamp HaltsOnlyWhenRunning
    gave_last_keeps {kind} {step} g =
        let gave = gave_back (noted its) h.lock (mode its) g in
        record {
          asks = ((λ d f. refl), (gave.asks, tt));
          out = gave.out k.lawful.nothing_out;
          stands = gave.stands k.lawful.queued_stands;
          noted = ap (λ f. f t) gave.unstamped ∙ noted_behind plan r t (event.Unlocked its (mode its)) k;
          no_halts = rw gave.history ((λ e. refl), k.no_halts);
          there = gave_last (after c (noted its) step) step gave;
          back = λ d f. absurd (none-some d (sym (ap waits_on (ap (λ f. f t) gave.log ∙ put_same s.log t _)) ∙ f));
        }
