-- The turns of a thread that takes or tries a lock, or takes one back after a wait: it gains or claims it, blocks, or
-- finds it busy. Their steps may be made, and they leave the run on track.
use Rattle.run_laws.proofs.Names
use Names.{ℕ, suc, Bool, true, false, cond, eqb, List, [], length, Option, Some, None, option_map, refl, sym, ap, inl}
use Names.{inr, arith, subst, unwrap_or, eqb-true, none-some, is_plain, admits, bits_of, config_of, lock_kind}
use Names.{operations_of, IsProper, hold_in, Config, Hold, NotHeld, Holds, lock_queue, Sections, sections_by}
use Names.{sections_in, open_in, left_in, replaced, State, Queued, HeldLock, put, put_at, gained_order, Step, Gains}
use Names.{Claims, Stamps, Readies, May, MayAll, IsOnItsWay, is_woken, Asks, begun_after, taking_after, entry_of}
use Names.{MayGain, MayStamp, after_look, after_gain, after_stamp, after_ready, has_slept, after_enter_sleep, MustWait}
use Names.{after_enter, MayClaim, after_claim, FreeMutexShowsNone, is_signalled, signals_noted, Run, ends, does}
use Names.{finds_busy, waits_on, to_release, lock_of_wait, held_now, Mtx, Mode, Excl, Op, Take, Try, Sleep, Plan, Lock}
use Names.{LockNo, ChanNo, Event, Entry, Held, IsOnTrack, IsAtOperation, AsleepAreOnTheirWay, ResumedSlept, columns}
use Names.{put_same, put_at_same, IsClaim, is_claim, free_shows_none, refused_held, GainFits, gain_passes, PassesBlock}
use Names.{try_passes, WaitFits, wait_fits, last_is, hold_in-push, gained_order-push, has_turnstile, has_sleep_queue}
use Names.{shown_head, seen_again, one_channel, asleep, off_acting, unnoted_unhalted, signals_nowhere, own_section}
use Rattle.std.proofs.Common.{◌≡◌, ◌≢◌, ◌⊎◌, ◌<◌, ◌∷◌, ◌++◌, ◌∙◌}
use Rattle.lock_model.specs.declared.turn.StepKind.TheVariants as kind
use Rattle.lock_model.specs.declared.event.Event.TheVariants as event
use Rattle.run_laws.proofs.TurnsOfWaits.{given_up}
use Rattle.run_laws.proofs.OnTrack.{KeepsTrack, EndsWell, LetsGoOn, lets_go_on, goes_on, IsWhere, share_in, is_there, now_stands, not_running, put_at_own, noted_behind, none_unnoted, unnamed, acting, acting_in, ends_quietly, IsAwake, is_awake, awake_behind, before, behind, left, fit, are_locks, wants_none, wants_it}
use Rattle.run_laws.proofs.Actions.{Taking, anew, back, Gaining, by_taking, by_trying, Entering, on_turnstile, on_sleep_queue, lock_with, mode_left, its_mode}

-- the section that an entry begins, beside the hold that changes
gained_section : (b : Bool) (m : Mode) (x y : Hold) → x ≡ y → replaced (cond b (Holds m) NotHeld) x ≡ cond b (Holds m) y
gained_section true m x y e = refl
gained_section false m x y e = e

-- a log says that its thread waits where its newest entry is the Sleeps entry
pub waits_slept : (es : List Entry) (d : ℕ) → waits_on es ≡ Some d → has_slept d es ≡ true
waits_slept es d e = grind arith

-- 1. What a gain finds: the lock may be gained, what is held and open then, and what its entry asks and says

pub record Finds (plan : Plan) (r : Run) (t : ℕ) (l : LockNo) (mode : Mode) (by_try : Bool) (e : Event) : Type 0 where
  pub lock : l.0 < length plan.locks
  pub mutex : lock_kind plan l.0 ≡ Mtx → mode ≡ Excl
  pub unheld : r.state.held t l.0 ≡ NotHeld
  pub wants : (r.state.wanted t ≡ Some l.0) ⊎ (r.state.wanted t ≡ None)
  pub opened : (j : ℕ) → open_in (config_of plan) r.state.history t j ≡ r.state.held t j
  -- the operation adds the lock to what is held
  pub adds : held_now plan r t ++ (record { l = l; mode = mode; by_try = by_try }) ∷ [] ≡ behind plan r t
  -- the entry begins the lock's section, in the mode; it lets its thread go on, and ends what it takes
  pub section : (j : ℕ) → (sections_by (config_of plan) e j (sections_in (config_of plan) r.state.history t j)).now
      ≡ replaced (cond (eqb l.0 j) (Holds mode) NotHeld) (open_in (config_of plan) r.state.history t j)
  pub begun : (f : ℕ → ℕ → Bool) → begun_after (config_of plan) e t f ≡ put_at f t l.0 true
  pub lets : LetsGoOn e
  pub taken : taking_after e (r.state.taking t) ≡ None
  pub asks : (n : State) → n.history ≡ r.state.history → n.woken_from ≡ r.state.woken_from → n.held t l.0 ≡ Holds mode
      → n.held_locks t ≡ record { lock = l.0; by_try = by_try } ∷ r.state.held_locks t → Asks (config_of plan) n t e

module _ (plan : Plan) (r : Run) (t : ℕ) (p : IsProper plan) (k : IsOnTrack plan r) (lt : t < length plan.threads) where
  abbrev c : Config
  c = config_of plan

  abbrev s : State
  s = r.state

  -- a take, or a try
  anew_finds : (l : LockNo) (mode : Mode) (by_try : Bool) (e : Event) → IsAwake s t
      → GainFits plan l mode by_try (before plan r t) (behind plan r t)
      → ((s.wanted t ≡ Some l.0) ⊎ (s.wanted t ≡ None))
      → ((j : ℕ) (x : Sections) → (sections_by c e j x).now ≡ replaced (cond (eqb l.0 j) (Holds mode) NotHeld) x.now)
      → ((f : ℕ → ℕ → Bool) → begun_after c e t f ≡ put_at f t l.0 true) → LetsGoOn e
      → taking_after e (s.taking t) ≡ None
      → ((n : State) → (n.held t l.0 ≡ Holds mode) → (open_in c n.history t l.0 ≡ NotHeld) → (others : List HeldLock)
      → n.held_locks t ≡ record { lock = l.0; by_try = by_try } ∷ others → Asks c n t e)
      → Finds plan r t l mode by_try e
  anew_finds l mode by_try e up fits wants section begun lets taken asks = grind arith

  -- 2. A wait that is over: the lock was released, and is taken back as it was held

  module _ (d : ChanNo) (e : ℕ) (w : waits_on (s.log t) ≡ Some e) (i : IsAtOperation plan r t (Some (Sleep d))) where
    abbrev pub wait_lock : ℕ
    wait_lock = c.chan_lock d.0

    same_chan : e ≡ d.0
    same_chan = let at = k.waiting t e w in cc

    pub waits : waits_on (s.log t) ≡ Some d.0
    waits = w ∙ ap Some same_chan

    pub wait_finds : WaitFits plan d.0 (before plan r t) (behind plan r t)
    wait_finds = wait_fits plan d (before plan r t) (behind plan r t) (fit plan r t p (Sleep d) i.next)

    its_lock : lock_of_wait c s t ≡ Some wait_lock
    its_lock = ap (λ o. option_map c.chan_lock o) waits

    released : s.held t wait_lock ≡ NotHeld
    released = given_up (s.held t) wait_lock (ap (to_release (s.held t)) (sym its_lock) ∙ i.free.released)

    -- its thread was woken from the channel by a signal
    slept : has_slept d.0 (s.log t) ≡ true
    slept = waits_slept (s.log t) d.0 waits

    pub was_woken : s.woken_from t ≡ Some d.0
    unfolding ResumedSlept AsleepAreOnTheirWay
    was_woken = go (s.woken_from t) refl
      where
        none : (v : ℕ) → v < c.threads → signals_noted t (s.unstamped v) (s.marked v) ≡ 0
        none v l =
            rw (none_unnoted plan r v k) (signals_nowhere c s t k.lawful.lawful v l (unnamed plan r t k i.running))

        go : (o : Option ℕ) → s.woken_from t ≡ o → o ≡ Some d.0
        go None f =
            let a = asleep k.lawful.lawful k.sleepers t d.0 slept none (ap is_signalled i.running) f in
            let here = unnamed plan r t k i.running in
            let z = off_acting c s t k.lawful.lawful here (ap is_woken i.running)
            ∙ unnoted_unhalted (s.noted t) (k.unnoted t) in
            absurd (none-some t (k.sleepers.asleep_are_on_their_way t d.0 a z here).2)
        go (Some x) f = ap Some (one_channel x d.0 (s.log t) (k.sleepers.resumed_slept t x f) slept)

    left_so : left_in c s.history t wait_lock ≡ hold_in (before plan r t) wait_lock
    left_so = k.left t wait_lock its_lock

    left_mode : left_in c s.history t wait_lock ≡ Holds (mode_left plan r t d)
    left_mode = its_mode (left_in c s.history t wait_lock) (λ z. wait_finds.held (sym left_so ∙ z))

    back_opened : (j : ℕ) → open_in c s.history t j ≡ s.held t j
    back_opened j = grind arith

    back_section : (j : ℕ) → (sections_by c (event.Woke d) j (sections_in c s.history t j)).now
        ≡ replaced (cond (eqb wait_lock j) (Holds (mode_left plan r t d)) NotHeld) (open_in c s.history t j)
    back_section j = ap (λ x. replaced x (open_in c s.history t j)) (go (eqb wait_lock j) refl)
      where
        go : (b : Bool) → eqb wait_lock j ≡ b
            → cond b (left_in c s.history t j) NotHeld ≡ cond b (Holds (mode_left plan r t d)) NotHeld
        go true x =
            subst (λ m. left_in c s.history t m ≡ Holds (mode_left plan r t d)) (eqb-true wait_lock j x) left_mode
        go false x = refl

    back_finds : Finds plan r t (lock_with plan d) (mode_left plan r t d) false (event.Woke d)
    back_finds = record {
      lock = (are_locks plan r t p).within wait_lock wait_finds.held;
      mutex = (are_locks plan r t p).mutexes wait_lock (mode_left plan r t d) (sym left_so ∙ left_mode);
      unheld = released;
      wants = inl (wants_it plan r t k (back d e w) i);
      opened = back_opened;
      adds = rw (i.uncut, its_lock, released) (last_is (lock_with plan d) (mode_left plan r t d)
          (before plan r t) wait_finds.last (are_locks plan r t p).apart (sym left_so ∙ left_mode) ∙ wait_finds.same);
      section = back_section;
      begun = λ f. refl;
      lets = lets_go_on refl refl refl;
      taken = refl;
      asks = λ n same woken held listed.
          let at : left_in c n.history t wait_lock
          ≡ Holds (mode_left plan r t d) = ap (λ es. left_in c es t wait_lock) same ∙ left_mode in (
            record {
              held = held ∙ sym at;
              holds = λ z. let y : NotHeld ≡ Holds (mode_left plan r t d) = sym z ∙ held in cc;
              closed = ap (λ es. open_in c es t wait_lock) same ∙ back_opened wait_lock ∙ released;
            },
            ap (λ f. f t) woken ∙ was_woken,
          );
    }

  -- 3. A gain

  taking_finds : {l : LockNo} {mode : Mode} {op : Op} {e : Event} → Taking plan r t l mode op e
      → IsAtOperation plan r t (Some op) → Finds plan r t l mode false e
  taking_finds (anew l mode j e) i =
      let up = is_awake plan r t k (Take l mode) i refl in
      let f = fit plan r t p (Take l mode) i.next in
      anew_finds l mode false (event.Locked l mode) up (gain_passes plan l mode false _ _ f.passes f.behind)
      (inl (wants_it plan r t k (anew l mode j e) i))
      (λ j x. refl) (λ g. refl) (lets_go_on refl refl refl) refl (λ n held closed others listed.
      (record { held = held; closed = closed }, record { others = others; last = listed }))
  taking_finds (back d e w) i = back_finds d e w i

  pub finds : {l : LockNo} {mode : Mode} {op : Op} {by_try : Bool} {e : Event} → Gaining plan r t l mode op by_try e
      → IsAtOperation plan r t (Some op) → Finds plan r t l mode by_try e
  finds (by_taking g) i = taking_finds g i
  finds (by_trying l mode past) i =
      let up = is_awake plan r t k (Try l mode past) i refl in
      let none = wants_none plan r t k up.no_wait (Try l mode past) i.next refl in
      let f = fit plan r t p (Try l mode past) i.next in
      anew_finds l mode true (event.Tried l mode) up (gain_passes plan l mode true _ _ f.passes f.behind) (inr none)
      (λ j x. refl) (λ g. refl) (lets_go_on refl refl refl) (k.taking t ∙ none)
      (λ n held closed others listed.
      (record { held = held; closed = closed }, record { others = others; last = listed }))

  module _ {l : LockNo} {mode : Mode} {op : Op} {by_try : Bool} {noted : Event}
      (g : Gaining plan r t l mode op by_try noted) (i : IsAtOperation plan r t (Some op)) where
    found : Finds plan r t l mode by_try noted
    found = finds g i

    -- plain, or a claim

    may_gain : admits (c.kind l.0) (s.word l.0) mode ≡ true → is_plain (c.kind l.0) (s.word l.0) mode ≡ true
        → MayGain c s t l.0 mode
    may_gain e f = record {
      thread = lt;
      lock = found.lock;
      admitted = e;
      plainly = f;
      unheld = found.unheld;
      acting = acting plan r t k i.running;
      wants = found.wants;
    }

    claims : admits (c.kind l.0) (s.word l.0) mode ≡ true → is_plain (c.kind l.0) (s.word l.0) mode ≡ false
        → IsClaim (c.kind l.0) (s.word l.0) mode
    unfolding FreeMutexShowsNone
    claims e f =
        is_claim (c.kind l.0) (s.word l.0) mode
        (λ mutex. free_shows_none (s.word l.0) (k.lawful.lawful.waits.free_mutex_shows_none l.0 mutex)) e f

    abbrev pub head : ℕ
    head = unwrap_or (s.head (lock_queue l.0)) t

    may_claim : admits (c.kind l.0) (s.word l.0) mode ≡ true → is_plain (c.kind l.0) (s.word l.0) mode ≡ false
        → MayClaim c s t l.0 head
    may_claim e f =
        let claim = claims e f in
        let stands = shown_head c s l.0 k.lawful.lawful claim.shown in
        record {
          thread = lt;
          lock = found.lock;
          kind = claim.is_rw;
          free = claim.free;
          shown = claim.shown;
          head = rw stands.1 refl;
          unheld = found.unheld;
          acting = acting plan r t k i.running;
          wants = found.wants;
        }

    -- the entry may be made behind either
    may_stamp : (n : State) → n.blocked_on t ≡ s.blocked_on t → n.wait t ≡ s.wait t → n.history ≡ s.history
        → n.woken_from ≡ s.woken_from → n.held t l.0 ≡ Holds mode
        → n.held_locks t ≡ record { lock = l.0; by_try = by_try } ∷ s.held_locks t → MayStamp c n t noted
    may_stamp n named says same woken held listed = record {
      thread = lt;
      acting = acting_in plan r t k n named says i.running;
      asks = found.asks n same woken held listed;
    }

    pub may_gain_all : admits (c.kind l.0) (s.word l.0) mode ≡ true → is_plain (c.kind l.0) (s.word l.0) mode ≡ true
        → MayAll c s (Gains t l.0 mode by_try ∷ Stamps t noted ∷ [])
    unfolding after_gain
    may_gain_all e f = (
      may_gain e f,
      (
        may_stamp (after_gain s t l.0 mode by_try) refl refl refl refl (put_at_same s.held t l.0 (Holds mode))
            (put_same s.held_locks t _),
        tt,
      ),
    )

    pub may_claim_all : admits (c.kind l.0) (s.word l.0) mode ≡ true → is_plain (c.kind l.0) (s.word l.0) mode ≡ false
        → MayAll c s (Claims t l.0 head by_try ∷ Stamps t noted ∷ [])
    unfolding after_claim
    may_claim_all e f =
        let held = put_at_same s.held t l.0 (Holds Excl) ∙ ap Holds (sym (claims e f).exclusive) in (
          may_claim e f,
          (may_stamp (after_claim c s t l.0 head by_try) refl refl refl refl held (put_same s.held_locks t _), tt),
        )

    -- what either leaves

    abbrev gained : Held
    gained = record { l = l; mode = mode; by_try = by_try }

    abbrev entry : Entry
    entry = entry_of s t noted

    ends_gained : (n : State) → n.log ≡ put s.log t (entry ∷ s.log t) → n.history ≡ entry ∷ s.history
        → n.held ≡ put_at s.held t l.0 (Holds mode)
        → n.held_locks ≡ put s.held_locks t (record { lock = l.0; by_try = by_try } ∷ s.held_locks t)
        → n.has_begun ≡ begun_after c noted t (put_at s.has_begun t l.0 false) → n.wanted ≡ put s.wanted t None
        → n.taking ≡ put s.taking t (taking_after noted (s.taking t)) → n.noted ≡ put s.noted t None
        → EndsWell plan r t (suc (r.next_op t)) noted n
    unfolding after_stamp
    ends_gained n log history held listed begun wanted taking unnoted = record {
      awake = awake_behind r t noted n found.lets i.uncut log;
      no_halt = found.lets.no_halt;
      history = history;
      within = left plan r t op i.next;
      holds = λ j.
          holds j ∙ ap (cond (eqb l.0 j) (Holds mode)) (k.holds t j)
          ∙ sym (hold_in-push (held_now plan r t) gained j (sym (k.holds t l.0) ∙ found.unheld))
          ∙ ap (λ (hs : List Held). hold_in hs j) found.adds;
      listed = ap (λ f. f t) listed ∙ put_same s.held_locks t _ ∙ ap (λ hs. record { lock = l.0; by_try = by_try } ∷ hs)
          (k.listed t) ∙ sym (gained_order-push (held_now plan r t) gained)
          ∙ ap gained_order found.adds;
      sections = λ j.
          ap (λ es. open_in c es t j) history ∙ own_section c s t noted j ∙ found.section j
          ∙ gained_section (eqb l.0 j) mode (open_in c s.history t j) (s.held t j) (found.opened j)
          ∙ sym (holds j);
      begun = λ j x. ap (λ (f : ℕ → ℕ → Bool). f t j) (begun ∙ found.begun (put_at s.has_begun t l.0 false))
          ∙ began j (λ z. x (ap (λ (f : ℕ → ℕ → Hold). f t j) held ∙ z));
      wants = ap (λ f. f t) wanted ∙ put_same s.wanted t None;
      taking = ap (λ f. f t) taking ∙ put_same s.taking t _ ∙ found.taken;
      unnoted = ap (λ f. f t) unnoted ∙ put_same s.noted t None;
    }
      where
        holds : (j : ℕ) → n.held t j ≡ cond (eqb l.0 j) (Holds mode) (s.held t j)
        holds j = ap (λ (f : ℕ → ℕ → Hold). f t j) held ∙ put_at_own s.held t l.0 (Holds mode) j

        began : (j : ℕ) → put_at s.held t l.0 (Holds mode) t j ≢ NotHeld
            → put_at (put_at s.has_begun t l.0 false) t l.0 true t j ≡ true
        began j = grind (arith, columns, k.begun t j)

    pub gained_keeps : KeepsTrack plan r t (ends r t kind.Gain (Gains t l.0 mode by_try ∷ Stamps t noted ∷ []))
    unfolding after_gain after_stamp
    gained_keeps = goes_on plan r t (suc (r.next_op t)) kind.Gain (Gains t l.0 mode by_try ∷ Stamps t noted ∷ []) noted
        k (tt, ((λ d f. refl), tt)) k.lawful.nothing_out k.lawful.queued_stands
        (noted_behind plan r t noted k) (ends_gained _ refl refl refl refl refl refl refl refl)

    pub claimed_keeps : admits (c.kind l.0) (s.word l.0) mode ≡ true → is_plain (c.kind l.0) (s.word l.0) mode ≡ false
        → KeepsTrack plan r t (ends r t kind.Claim (Claims t l.0 head by_try ∷ Stamps t noted ∷ []))
    unfolding after_claim after_stamp
    claimed_keeps e f = goes_on plan r t (suc (r.next_op t)) kind.Claim (Claims t l.0 head by_try ∷ Stamps t noted ∷ [])
        noted k (tt, ((λ d f. refl), tt)) k.lawful.nothing_out k.lawful.queued_stands
        (noted_behind plan r t noted k) (ends_gained _ refl refl
        (ap (λ m. put_at s.held t l.0 (Holds m)) (sym (claims e f).exclusive)) refl refl refl refl refl)

  -- 4. A take, or a taking back, whose lock refuses it blocks

  module _ {l : LockNo} {mode : Mode} {op : Op} {noted : Event} (g : Taking plan r t l mode op noted)
      (i : IsAtOperation plan r t (Some op)) where
    takes : Finds plan r t l mode false noted
    takes = taking_finds g i

    its_turnstile : s.turnstile t ≡ Some (unwrap_or (s.turnstile t) t)
    its_turnstile = let x = has_turnstile c s t k.lawful.lawful (unnamed plan r t k i.running) in rw x.1 refl

    its_sleep_queue : s.sleep_queue t ≡ Some (unwrap_or (s.sleep_queue t) t)
    its_sleep_queue = let x = has_sleep_queue c s t k.lawful.lawful (unnamed plan r t k i.running) in rw x.1 refl

    must_wait : admits (c.kind l.0) (s.word l.0) mode ≡ false → MustWait c (after_ready s t) t l.0 mode
    unfolding after_ready
    must_wait e = record {
      thread = lt;
      lock = takes.lock;
      held = refused_held (c.kind l.0) (s.word l.0) mode takes.mutex e;
      refused = e;
      queued = put_same s.wait t Queued;
      unnamed = unnamed plan r t k i.running;
      wants = takes.wants;
      no_walk = i.free.no_walk;
      sections = λ j m f. takes.opened j ∙ f;
    }

    may_enter : {step : Step} → admits (c.kind l.0) (s.word l.0) mode ≡ false → Entering plan r t l.0 mode step
        → May c (after_ready s t) step
    unfolding after_ready
    may_enter e (on_turnstile f) =
        record { waits = must_wait e; turnstile = f; mutex = takes.mutex; own = its_turnstile }
    may_enter e (on_sleep_queue f) = record { waits = must_wait e; sleeps = f; own = its_sleep_queue }

    pub may_enter_all : {step : Step} → admits (c.kind l.0) (s.word l.0) mode ≡ false → Entering plan r t l.0 mode step
        → MayAll c s (Readies t (Lock l) ∷ step ∷ [])
    may_enter_all e f = (record { thread = lt; running = i.running }, (may_enter e f, tt))

    -- it isn't on its way to a channel
    off : IsOnItsWay (after_ready s t) t → ⊥
    unfolding after_ready
    off w = grind arith

    -- it wants the lock before and behind
    there : IsWhere plan t (record (share_in plan s t (r.next_op t)) { wanted = put s.wanted t (Some l.0) t })
    there = rw (put_same s.wanted t (Some l.0), ← wants_it plan r t k g i) (is_there plan r t k)

    pub entered_keeps : {step : Step} → Entering plan r t l.0 mode step
        → KeepsTrack plan r t (does kind.Enter (Readies t (Lock l) ∷ step ∷ []))
    unfolding after_ready after_enter after_enter_sleep
    entered_keeps (on_turnstile f) = record {
      asks = (tt, (off, tt));
      out = k.lawful.nothing_out;
      stands = now_stands s.wait s.blocked_on t (lock_queue l.0) k.lawful.queued_stands;
      noted = none_unnoted plan r t k;
      no_halts = k.no_halts;
      there = there;
      back = λ d e runs. not_running s.wait t runs;
    }
    entered_keeps (on_sleep_queue f) = record {
      asks = (tt, (off, tt));
      out = k.lawful.nothing_out;
      stands = now_stands s.wait s.blocked_on t (lock_queue l.0) k.lawful.queued_stands;
      noted = none_unnoted plan r t k;
      no_halts = k.no_halts;
      there = there;
      back = λ d e runs. not_running s.wait t runs;
    }

  -- 5. A try whose lock refuses it finds it busy

  module _ (l : LockNo) (mode : Mode) (past : ℕ) (i : IsAtOperation plan r t (Some (Try l mode past))) where
    abbrev seen : ℕ
    seen = bits_of (s.word l.0)

    tried : Finds plan r t l mode true (event.Tried l mode)
    tried = finds (by_trying l mode past) i

    passes : PassesBlock (operations_of plan t) (r.next_op t) past
    passes = try_passes plan p t (r.next_op t) l mode past i.next

    may_stamp_busy : admits (c.kind l.0) (s.word l.0) mode ≡ false
        → MayStamp c (after_look s t l.0 false) t (event.Busy l seen)
    unfolding after_look
    may_stamp_busy e = record {
      thread = lt;
      acting = acting_in plan r t k (after_look s t l.0 false) refl refl i.running;
      asks = (
        mode,
        rw (seen_again c s l.0 k.lawful.lawful) (record {
          unheld = tried.unheld;
          looked = put_same s.last_look t (Some (record { lock = l.0; word = s.word l.0 }));
          refused = e;
          mutex = tried.mutex;
        }),
      );
    }

    pub may_find_busy_all : admits (c.kind l.0) (s.word l.0) mode ≡ false → MayAll c s (finds_busy r t l past).steps
    may_find_busy_all e = (record { thread = lt; lock = tried.lock; room = λ e. absurd cc }, (may_stamp_busy e, tt))

    pub found_busy_keeps : KeepsTrack plan r t (finds_busy r t l past)
    unfolding after_look after_stamp
    found_busy_keeps = goes_on plan r t past kind.Note (finds_busy r t l past).steps (event.Busy l seen) k
        (tt, ((λ d f. refl), tt)) k.lawful.nothing_out k.lawful.queued_stands
        (noted_behind plan r t (event.Busy l seen) k)
        (ends_quietly plan r t past (Try l mode past) (event.Busy l seen) _ k i (record {
          no_take = refl;
          no_wait = refl;
          within = passes.within;
          same = sym passes.leaves;
          quiet = refl;
          lets = lets_go_on refl refl refl;
        }) refl refl refl refl refl refl refl refl)
