-- The actions of a thread that has gone to sleep, goes to sleep, or wakes others, by what it reads.
use Rattle.step_world.proofs.Names
use Names.{ℕ, suc, Bool, true, false, not, cond, List, [], length, map, slice_get, Option, Some, None, option_map, refl}
use Names.{sym, ap, subst, eq-eqb, unwrap_or, then_some, none-some, same_Some, Config, config_of, IsProper, hold_in}
use Names.{without_lock, Hold, NotHeld, Holds, is_unheld, has_reversal, Waiter, chan_queue, taken_off, State, Running}
use Names.{Step, Readies, Stamps, Adds, Wakes, after, after_all, bits_of_threads, after_ready, after_stamp, MayWake}
use Names.{after_add, after_wake, Run, does, ends, mode_held, waits_on, was_cut, lock_of_wait, to_release, owed_release}
use Names.{turn_of, run_after, held_now, LockNo, ChanNo, Held, Event, Mode, Sleep, WakeOne, WakeAll, Plan, Chan}
use Names.{StepKind, Did, IsAtOperation, is_awake, waits_uncut, before, behind, fit, put_at_own, IsAwake, back}
use Names.{lock_with, mode_left, its_mode, makes_operation, gives_up_first, given_up, Machine, Thread, Does, Ends, May}
use Names.{Progress, progress, progress_of, ChangesProgress, KeepsBooks, mode_left_by, with_released, HasState, IsRunOf}
use Names.{IsTurn, IsMade, IsBehind, IsTake, IsWake, IsDoneWaking, GivesBack, MayGiveBack, back_in, IsAsFar, arith}
use Rattle.std.proofs.Common.{◌≡◌, ◌≢◌, ◌<◌, ◌≤◌, ◌∷◌, ◌∙◌}
use Rattle.std.specs.Prelude.{is_some}
use Rattle.lock_model.specs.declared.event.Event.TheVariants as event
use Rattle.lock_model.specs.declared.turn.StepKind.TheVariants as kinds
use Rattle.run_laws.proofs.TurnsOfReleases as releases
use Rattle.run_laws.proofs.TurnsOfSleeps as sleeps
use Rattle.step_world.proofs.AsFar.{waits_behind, cut_behind, awake_behind, that_is}
use Rattle.step_world.proofs.Turning.{has_room, may_next, IsTurning, Begins, begins, made, made_behind, stays}
use Rattle.step_world.proofs.ActionsOfLocks.{is_take, given, kind_is, back_keeps_log, back_puts}

-- the entry of a wake
abbrev pub noting : ChanNo → Bool → ℕ → Event
noting d true woken = event.WokeAll d woken
noting d false woken = event.WokeOne d woken

-- 1. What is read of a wait

some_is : {A : Type 0} (o : Option A) → is_some o ≡ true → (x : A) × (o ≡ Some x)
some_is f e = grind arith

none_is : {A : Type 0} (o : Option A) → is_some o ≡ false → o ≡ None
none_is f e = grind arith

module _ {plan : Plan} {m : Machine} {r : Run} {th : Thread} (t : ℕ) (h : IsRunOf plan m r)
    (is : slice_get m.threads.items t ≡ Some th) where
  chan_read : option_map (λ (d : ChanNo). d.0) th.waits_on ≡ waits_on (r.state.log t)
  chan_read = ap (λ x. x.chan) (h.shows.shows.threads.thread t th is).columns

  hold_read : (l : ℕ) → hold_in th.held.items l ≡ r.state.held t l
  hold_read l = ap (λ x. x.held l) (h.shows.shows.threads.thread t th is).columns

  -- none where it holds nothing,
  pub owes_without_held : (hs : List Held) → th.held.items ≡ hs → length hs ≡ 0
      → owed_release (config_of plan) r.state t ≡ None
  owes_without_held [] e i = go (lock_of_wait (config_of plan) r.state t)
    where
      go : (o : Option ℕ) → to_release (r.state.held t) o ≡ None
      go None = refl
      go (Some l) = rw (sym (hold_read l) ∙ ap (λ (hs : List Held). hold_in hs l) e) refl
  owes_without_held (x ∷ xs) e i = absurd cc

  -- the lock of none,
  pub owes_none : th.waits_on ≡ None → owed_release (config_of plan) r.state t ≡ None
  owes_none e = rw (sym chan_read ∙ ap (option_map (λ (d : ChanNo). d.0)) e) refl

  -- or of one, as long as it is held
  pub owes_its : {d : ChanNo} {l : LockNo} → th.waits_on ≡ Some d → l.0 ≡ (config_of plan).chan_lock d.0
      → option_map (λ (x : LockNo). x.0) (then_some (not (is_unheld (hold_in th.held.items l.0))) l)
      ≡ owed_release (config_of plan) r.state t
  owes_its {d} {l} e same =
      rw (sym chan_read ∙ ap (option_map (λ (d : ChanNo). d.0)) e, ← same, hold_read l.0) (go (r.state.held t l.0))
    where
      go : (x : Hold)
          → option_map (λ (y : LockNo). y.0) (then_some (not (is_unheld x)) l) ≡ cond (is_unheld x) None (Some l.0)
      go NotHeld = refl
      go (Holds mode) = refl

module _ {plan : Plan} {m : Machine} {t : ℕ} {r : Run} (p : IsProper plan) (lt : t < length plan.threads)
    (h : IsRunOf plan m r) where
  abbrev c : Config
  c = config_of plan

  abbrev s : State
  s = r.state

  -- 2. The release after a wait's first turn

  module _ {l : ℕ} (d : IsDoneWaking plan r t) (owed : owed_release c s t ≡ Some l) where
    abbrev mode : Mode
    mode = mode_held (s.held t l)

    abbrev its_back : StepKind × Step
    its_back = back_in c s t l mode

    pub gives_up_action : Begins plan r t m (does its_back.0 (its_back.1 ∷ []))
    gives_up_action = begins p lt h (gives_up_first plan r t l d.no_walk d.unmarked owed)

    pub may_give_up : HasState plan m (λ x. (y : Mode) × MayGiveBack c x t l y)
    may_give_up = let b = gives_up_action.turning in (s, b.shows, b.lawful, (mode, b.may.0))

    waits : lock_of_wait c s t ≡ Some l
    waits = (releases.owes_it plan r t p h.on_track lt l d.unmarked owed).0

    holds : s.held t l ≡ Holds mode
    holds = releases.holds_it plan r t p h.on_track lt l d.unmarked owed

    abbrev n : State
    n = after c s its_back.1

    released : n.held t l ≡ NotHeld
    released = ap (λ (f : ℕ → ℕ → Hold). f t l) (back_puts c s t l mode) ∙ put_at_own s.held t l NotHeld l
        ∙ rw (eq-eqb l l refl) refl

    waits_still : lock_of_wait c n t ≡ Some l
    waits_still = ap (λ es. option_map c.chan_lock (waits_on es)) (back_keeps_log c s t l mode) ∙ waits

    uncut : was_cut s t ≡ false
    uncut = go (waits_on (s.log t)) refl waits
      where
        go : (w : Option ℕ) → waits_on (s.log t) ≡ w → option_map c.chan_lock w ≡ Some l → was_cut s t ≡ false
        go None e f = absurd (none-some l f)
        go (Some k) e f = waits_uncut plan r t h.on_track k e

    uncut_still : was_cut n t ≡ false
    uncut_still = ap has_reversal (back_keeps_log c s t l mode) ∙ uncut

    -- its wait's lock is the one that it has released last
    gone_back : (a : Progress) → IsAsFar plan r t a
        → IsBehind plan r (run_after plan r t (does its_back.0 (its_back.1 ∷ []))) t (with_released l a)
    gone_back a far = record {
      next_op = far.next_op;
      as_far = record {
        next_op = refl;
        held = ap (without_lock l) held ∙ rw (uncut_still, waits_still, released) refl;
        left = λ j w e. subst (λ i. hold_in (before plan r t) i ≡ Holds (with_released l a).left)
            (same_Some l j (sym waits_still ∙ w)) left_so;
      };
    }
      where
        held : a.held ≡ before plan r t
        held = far.held ∙ rw (uncut, waits, holds) refl

        held_so : hold_in (before plan r t) l ≡ Holds mode
        held_so = sym (releases.holds_before plan r t p h.on_track lt l d.unmarked owed l) ∙ holds

        left_so : hold_in (before plan r t) l ≡ Holds (with_released l a).left
        left_so = held_so
            ∙ ap (λ x. Holds (mode_left_by x a.left)) (sym (ap (λ (hs : List Held). hold_in hs l) held ∙ held_so))

    pub gave_up : {x : Machine} {kind : StepKind} → GivesBack plan m x t l kind
        → ChangesProgress m x t (with_released l) → KeepsBooks m x → IsTurn plan r t x (Did kind)
    gave_up {x} gave moves books =
        let b = gives_up_action in
        subst (λ (y : StepKind). IsTurn plan r t x (Did y)) (sym (kind_is l mode b.turning gave))
        (stays (made (Does (Did its_back.0)) b (given l mode b.turning gave moves books) (gone_back b.at b.as_far)))

  module _ {th : Thread} (is : slice_get m.threads.items t ≡ Some th) where
    -- 3. A wait that is over: its lock is taken back, in the mode in which it was held

    module _ {d : ChanNo} (at : IsAtOperation plan r t (Some (Sleep d))) where
      its_chan : {e : ChanNo} → th.waits_on ≡ Some e → waits_on (s.log t) ≡ Some d.0
      its_chan {e} w =
          let on : waits_on (s.log t) ≡ Some e.0 = sym (chan_read t h is) ∙ ap (option_map (λ (x : ChanNo). x.0)) w in
          let same : e.0 ≡ d.0 = (let z = sym (h.on_track.waiting t e.0 on) ∙ at.next in cc) in
          on ∙ ap Some same

      left_is : waits_on (s.log t) ≡ Some d.0 → th.left ≡ mode_left plan r t d
      left_is on =
          let wait : lock_of_wait c s t ≡ Some (c.chan_lock d.0) = ap (option_map c.chan_lock) on in
          let own = that_is (progress m t) (h.shows.progress t lt) in
          let far : IsAsFar plan r t (progress_of th) = subst (IsAsFar plan r t)
          (same_Some own.0 (progress_of th) (sym own.1 ∙ ap (option_map progress_of) is)) own.2 in
          let unheld = given_up (s.held t) (c.chan_lock d.0)
          (ap (to_release (s.held t)) (sym wait) ∙ at.free.released) in
          sym (ap mode_held (h.on_track.left t (c.chan_lock d.0) wait ∙ far.left (c.chan_lock d.0) wait unheld))

      pub takes_back : {l : LockNo} → is_some th.waits_on ≡ true → l.0 ≡ c.chan_lock d.0
          → IsTake plan r t l th.left (event.Woke d)
      takes_back {l} w same =
          let on = its_chan (some_is th.waits_on w).1 in
          let it : IsTake plan r t (lock_with plan d) (mode_left plan r t d) (event.Woke d) = is_take p lt h
          (back d d.0 on) at in
          subst (λ x. IsTake plan r t l x (event.Woke d)) (sym (left_is on))
          (subst (λ (i : ℕ). IsTake plan r t (record { 0 = i }) (mode_left plan r t d) (event.Woke d)) (sym same) it)

      -- 4. A wait's first turn

      module _ (none : is_some th.waits_on ≡ false) where
        up : waits_on (s.log t) ≡ None
        up = sym (chan_read t h is) ∙ ap (option_map (λ (x : ChanNo). x.0)) (none_is th.waits_on none)

        abbrev own : ℕ
        own = unwrap_or (s.sleep_queue t) t

        abbrev sleeping : List Step
        sleeping = Readies t (Chan d) ∷ Stamps t (event.Sleeps d) ∷ Adds t d.0 own ∷ []

        pub sleeps_action : Begins plan r t m (does kinds.Add sleeping)
        sleeps_action = begins p lt h (makes_operation plan r t (Sleep d) at ∙ rw up refl)

        abbrev asleep : State
        asleep = after_all c s sleeping

        log_then : waits_on (asleep.log t) ≡ Some d.0
        unfolding after_add
        log_then = waits_behind c (after_ready s t) t (event.Sleeps d)

        uncut_then : was_cut asleep t ≡ false
        unfolding after_add after_ready
        uncut_then = cut_behind c (after_ready s t) t (event.Sleeps d) ∙ at.uncut

        held_then : asleep.held t ≡ s.held t
        unfolding after_add after_stamp after_ready
        held_then = refl

        -- it holds the lock with which it goes to sleep
        holds_its : s.held t (c.chan_lock d.0) ≢ NotHeld
        holds_its = sleeps.holds_it plan r t p h.on_track lt d at up

        gone_to_sleep : (a : Progress) → IsAsFar plan r t a
            → IsBehind plan r (run_after plan r t (does kinds.Add sleeping)) t a
        gone_to_sleep a far = record {
          next_op = far.next_op;
          as_far = record {
            next_op = refl;
            held =
                let before_is : a.held ≡ before plan r t = far.held ∙ rw (at.uncut, up) refl in
                let then : held_now plan (run_after plan r t (does kinds.Add sleeping)) t ≡ before plan r t =
                rw (uncut_then, log_then, held_then, its_mode (s.held t (c.chan_lock d.0)) holds_its) refl in
                before_is ∙ sym then;
            left = λ l w e.
                let same : c.chan_lock d.0
                ≡ l = same_Some (c.chan_lock d.0) l (sym (ap (option_map c.chan_lock) log_then) ∙ w) in
                absurd (holds_its (ap (s.held t) same ∙ sym (ap (λ f. f l) held_then) ∙ e));
          };
        }

        pub fallen_asleep : {x : Machine} → IsTurning plan r t x asleep sleeps_action.at []
            → IsMade plan r t x (Does (Did kinds.Add))
        fallen_asleep now =
            made (Does (Did kinds.Add)) sleeps_action now (gone_to_sleep sleeps_action.at sleeps_action.as_far)

  -- 5. A wake

  -- sleepers may be taken off, and there is room for the entry of that
  pub may_wake : (d : ChanNo) (all : Bool) → IsWake plan r t d all → May m (λ k x. MayWake k x t d.0 all)
  may_wake d true at = may_next (begins p lt h (makes_operation plan r t (WakeAll d) at)).turning
  may_wake d false at = may_next (begins p lt h (makes_operation plan r t (WakeOne d) at)).turning

  pub room_for_wake : (d : ChanNo) (all : Bool) → IsWake plan r t d all → 1 ≤ m.log.spare
  room_for_wake d true at = has_room p lt h at
  room_for_wake d false at = has_room p lt h at

  module _ (d : ChanNo) (all : Bool) {noted : Event} (woken : ℕ) (w : IsWake plan r t d all)
      (e : noted ≡ noting d all woken)
      (bits : woken
      ≡ bits_of_threads (map (λ (x : Waiter). x.thread) (taken_off all (s.lists (chan_queue d.0)).exclusive))) where
    abbrev waking : List Step
    waking = Wakes t d.0 all ∷ Stamps t noted ∷ []

    pub wakes_action : Begins plan r t m (ends r t kinds.Wake waking)
    wakes_action = begins p lt h
        (go all w ∙ ap (λ x. ends r t kinds.Wake (Wakes t d.0 all ∷ Stamps t x ∷ []))
        (ap (noting d all) (sym bits) ∙ sym e))
      where
        go : (b : Bool) → IsWake plan r t d b
            → turn_of plan r t ≡ ends r t kinds.Wake (Wakes t d.0 b ∷ Stamps t (noting d b
            (bits_of_threads (map (λ (x : Waiter). x.thread) (taken_off b (s.lists (chan_queue d.0)).exclusive)))) ∷ [])
        go true at = makes_operation plan r t (WakeAll d) at
        go false at = makes_operation plan r t (WakeOne d) at

    -- the thread runs, was not cut and doesn't wait, and holds what it held
    leaves : (s.wait t ≡ Running) × IsAwake s t × (before plan r t ≡ behind plan r t)
    leaves = go all w
      where
        go : (b : Bool) → IsWake plan r t d b → (s.wait t ≡ Running) × IsAwake s t × (before plan r t ≡ behind plan r t)
        go true at =
            (at.running, is_awake plan r t h.on_track (WakeAll d) at refl, (fit plan r t p (WakeAll d) at.next).behind)
        go false at =
            (at.running, is_awake plan r t h.on_track (WakeOne d) at refl, (fit plan r t p (WakeOne d) at.next).behind)

    pub woke : {x : Machine} → IsTurning plan r t x (after_all c s waking) wakes_action.at []
        → IsMade plan r t x (Ends kinds.Wake)
    unfolding after_wake
    woke now =
        let b = wakes_action in
        let up = awake_behind c (after_wake s t d.0 all) t noted b.turning.may.1.0 leaves.0
        (h.on_track.unnoted t) leaves.1.uncut in
        made_behind (Ends kinds.Wake) (suc (r.next_op t)) refl b now up b.as_far.next_op
        (b.as_far.held ∙ rw (leaves.1.uncut, leaves.1.no_wait) refl ∙ leaves.2)
