-- The turns of a thread that goes to sleep on a channel, or wakes sleepers: their steps may be made, and they leave
-- the run on track.
use Rattle.run_laws.proofs.Names
use Names.{ℕ, suc, Bool, false, cond, eqb, List, [], length, map, Option, Some, None, refl, sym, ap, eq-eqb, subst}
use Names.{unwrap_or, ne_eqb, none-some, same_Some, config_of, IsProper, hold_in, without_lock, Config, NotHeld, Waiter}
use Names.{chan_queue, taken_off, HaltsOnlyWhenRunning, has_reversal, Sections, open_in, sections_in, State, Queued}
use Names.{Wake, put, gained_order, Readies, Stamps, Adds, MayAll, Asks, IsTheWake, is_woken, bits_of_threads}
use Names.{changes_sections, unstamped_after, MayStamp, after_ready, after_stamp, MayAdd, has_slept, after_add}
use Names.{after_wake, Run, does, mode_held, was_cut, waits_on, wakes, without_unheld, Mode, Op, Sleep, WakeOne}
use Names.{WakeAll, Plan, Chan, ChanNo, Event, Held, IsOnTrack, IsAtOperation, put_same, WaitFits, wait_fits, wake_fits}
use Names.{last_is, gained_order-push, has_sleep_queue, own_sections_by}
use Rattle.std.proofs.Common.{◌≡◌, ◌≢◌, ◌<◌, ◌∷◌, ◌∙◌}
use Rattle.lock_model.specs.declared.turn.StepKind.TheVariants as kind
use Rattle.lock_model.specs.declared.event.Event.TheVariants as event
use Rattle.run_laws.proofs.OnTrack.{KeepsTrack, IsWhere, LetsGoOn, lets_go_on, share_in, not_running, goes_on, ends_quietly, now_stands, noted_behind, none_unnoted, unnamed, acting_in, IsAwake, before, behind, left, fit, are_locks, holds_all, all_listed, all_open, wants_none, is_take, is_wait}
use Rattle.run_laws.proofs.Actions.{Waking, of_one, of_all, lock_with, its_mode}

module _ (plan : Plan) (r : Run) (t : ℕ) (p : IsProper plan) (k : IsOnTrack plan r) (lt : t < length plan.threads) where
  abbrev c : Config
  c = config_of plan

  abbrev s : State
  s = r.state

  -- 1. A wait's first turn

  module _ (d : ChanNo) (i : IsAtOperation plan r t (Some (Sleep d))) (no : waits_on (s.log t) ≡ None) where
    up : IsAwake s t
    up = record { no_wait = no; uncut = i.uncut }

    abbrev l : ℕ
    l = c.chan_lock d.0

    abbrev x : ℕ
    x = unwrap_or (s.sleep_queue t) t

    abbrev noted : State
    noted = after_stamp c (after_ready s t) t (event.Sleeps d)

    finds : WaitFits plan d.0 (before plan r t) (behind plan r t)
    finds = wait_fits plan d (before plan r t) (behind plan r t) (fit plan r t p (Sleep d) i.next)

    -- its lock is held, and its section open,
    pub holds_it : s.held t l ≢ NotHeld
    holds_it z = finds.held (sym (holds_all plan r t k up l) ∙ z)

    section : open_in c s.history t l ≢ NotHeld
    section z = holds_it (sym (all_open plan r t k no l) ∙ z)

    -- and it was gained last, and not by a try
    pub gained_last : s.held_locks t ≡ record { lock = l; by_try = false }
        ∷ gained_order (without_lock l (before plan r t))
    gained_last =
        let mode : Mode = mode_held (hold_in (before plan r t) l) in
        let last = last_is (lock_with plan d) mode (before plan r t) finds.last (are_locks plan r t p).apart
        (its_mode (hold_in (before plan r t) l) finds.held) in
        all_listed plan r t k up ∙ ap gained_order (sym last) ∙ gained_order-push (without_lock l (before plan r t))
        (record { l = lock_with plan d; mode = mode; by_try = false })

    its_sleep_queue : s.sleep_queue t ≡ Some x
    its_sleep_queue = let y = has_sleep_queue c s t k.lawful.lawful (unnamed plan r t k i.running) in rw y.1 refl

    wants_nothing : s.wanted t ≡ None
    wants_nothing = wants_none plan r t k no (Sleep d) i.next refl

    may_note : MayStamp c (after_ready s t) t (event.Sleeps d)
    unfolding after_ready
    may_note = record {
      thread = lt;
      acting = record { unnamed = unnamed plan r t k i.running; unwoken = ap is_woken (put_same s.wait t Queued) };
      asks = record {
        chan = finds.chan;
        queued = put_same s.wait t Queued;
        wants = wants_nothing;
        opened = section;
        last = record { others = gained_order (without_lock l (before plan r t)); last = gained_last };
        sections = λ j mode h ne. all_open plan r t k no j ∙ h;
      };
    }

    may_add : MayAdd c noted t d.0 x
    unfolding after_ready after_stamp
    may_add = record {
      thread = lt;
      chan = finds.chan;
      queued = put_same s.wait t Queued;
      unnamed = unnamed plan r t k i.running;
      own = its_sleep_queue;
      wants = wants_nothing;
      slept = ap (has_slept d.0) (put_same s.log t _) ∙ eq-eqb d.0 d.0 refl;
      unwoken = put_same s.woken_from t None;
      sections = λ j mode h ne. ap (λ (y : Sections). y.now) (own_sections_by c (after_ready s t) t (event.Sleeps d) j)
          ∙ ap (λ b. cond b NotHeld (open_in c s.history t j)) (ne_eqb l j (λ e. ne (sym e)))
          ∙ all_open plan r t k no j ∙ h;
    }

    pub may_sleep_all : MayAll c s (Readies t (Chan d) ∷ Stamps t (event.Sleeps d) ∷ Adds t d.0 x ∷ [])
    may_sleep_all = (record { thread = lt; running = i.running }, (may_note, (may_add, tt)))

    waits : waits_on (noted.log t) ≡ Some d.0
    unfolding after_ready after_stamp
    waits = ap waits_on (put_same s.log t _)

    cut : was_cut noted t ≡ false
    unfolding after_ready after_stamp
    cut = ap has_reversal (put_same s.log t _) ∙ i.uncut

    takes_nothing : put s.taking t (s.taking t) t ≡ None
    takes_nothing = put_same s.taking t (s.taking t) ∙ k.taking t ∙ wants_nothing

    -- it waits in that operation, holds what it held, and its lock's section has ended
    there : IsWhere plan t (share_in plan noted t (r.next_op t))
    unfolding after_ready after_stamp
    there = rw (waits, cut, wants_nothing, takes_nothing, put_same s.noted t None) (record {
      within = k.within t;
      no_endtry = k.no_endtry t;
      waiting = λ e f. i.next ∙ ap (λ (n : ℕ). Some (Sleep (record { 0 = n }))) (same_Some d.0 e f);
      holds = λ j. holds_all plan r t k up j ∙ ap (λ (hs : List Held). hold_in hs j) (sym holding);
      listed = all_listed plan r t k up ∙ ap gained_order (sym holding);
      left = λ j f. subst (λ m. (sections_in c noted.history t m).left ≡ hold_in (before plan r t) m)
          (same_Some l j f) left_so;
      opened = λ j. ap (λ (y : Sections). y.now) (own_sections_by c (after_ready s t) t (event.Sleeps d) j)
          ∙ ap (cond (eqb l j) NotHeld) (all_open plan r t k no j);
      begun = k.begun t;
      wants = λ j f. absurd (none-some j f);
      wants_unheld = λ j f. absurd (none-some j f);
      cut_wants_nothing = λ f. refl;
      taking = refl;
      unnoted = refl;
    })
      where
        holding : without_unheld (s.held t) (Some l) (before plan r t) ≡ before plan r t
        holding = rw (its_mode (s.held t l) holds_it) refl

        left_so : (sections_in c noted.history t l).left ≡ hold_in (before plan r t) l
        left_so =
            ap (λ (y : Sections). y.left) (own_sections_by c (after_ready s t) t (event.Sleeps d) l)
            ∙ ap (λ b. cond b (open_in c s.history t l) (sections_in c s.history t l).left) (eq-eqb l l refl)
            ∙ all_open plan r t k no l ∙ holds_all plan r t k up l

    pub slept_keeps : KeepsTrack plan r t
        (does kind.Add (Readies t (Chan d) ∷ Stamps t (event.Sleeps d) ∷ Adds t d.0 x ∷ []))
    unfolding after_ready after_stamp after_add HaltsOnlyWhenRunning
    slept_keeps = record {
      asks = (
        tt,
        (
          (λ e f. refl),
          (
            record {
              works = refl;
              stamped = noted_behind plan r t (event.Sleeps d) k;
              unnoted = put_same s.noted t None;
            },
            tt,
          ),
        ),
      );
      out = k.lawful.nothing_out;
      stands = now_stands s.wait s.blocked_on t (chan_queue d.0) k.lawful.queued_stands;
      noted = noted_behind plan r t (event.Sleeps d) k;
      no_halts = ((λ e. refl), k.no_halts);
      there = there;
      back = λ j f runs. not_running s.wait t runs;
    }

  -- 2. A wake

  module _ {op : Op} {all : Bool} {noting : ℕ → Event} (d : ChanNo) (g : Waking d op all noting)
      (i : IsAtOperation plan r t (Some op)) where
    abbrev taken : List ℕ
    taken = map (λ (w : Waiter). w.thread) (taken_off all (s.lists (chan_queue d.0)).exclusive)

    abbrev woken : Event
    woken = noting (bits_of_threads taken)

    abbrev wake : Wake
    wake = record { chan = d.0; all = all; taken = taken }

    -- what its operation and its entry are
    record IsWaking (o : Op) (b : Bool) (e : Event) (bits : ℕ) : Type 0 where
      chan : d.0 < c.chans
      same : before plan r t ≡ behind plan r t
      asks : (n : State) → IsTheWake (n.unstamped t) d.0 b bits → Asks c n t e
      no_take : is_take o ≡ false
      no_wait : is_wait o ≡ false
      quiet : changes_sections e ≡ false
      lets : LetsGoOn e
      noted : (w : Option Wake) → unstamped_after e w ≡ None

    is_waking : (bits : ℕ) → IsWaking op all (noting bits) bits
    is_waking bits = go g i
      where
        go : {o : Op} {b : Bool} {f : ℕ → Event} → Waking d o b f → IsAtOperation plan r t (Some o)
            → IsWaking o b (f bits) bits
        go of_one at =
            let f = fit plan r t p (WakeOne d) at.next in
            record {
              chan = wake_fits plan d [] f.passes;
              same = f.behind;
              asks = λ n w. w;
              no_take = refl;
              no_wait = refl;
              quiet = refl;
              lets = lets_go_on refl refl refl;
              noted = λ w. refl;
            }
        go of_all at =
            let f = fit plan r t p (WakeAll d) at.next in
            record {
              chan = wake_fits plan d [] f.passes;
              same = f.behind;
              asks = λ n w. w;
              no_take = refl;
              no_wait = refl;
              quiet = refl;
              lets = lets_go_on refl refl refl;
              noted = λ w. refl;
            }

    its : IsWaking op all woken (bits_of_threads taken)
    its = is_waking (bits_of_threads taken)

    may_note_wake : MayStamp c (after_wake s t d.0 all) t woken
    unfolding after_wake
    may_note_wake = record {
      thread = lt;
      acting = acting_in plan r t k (after_wake s t d.0 all) refl refl i.running;
      asks = its.asks (after_wake s t d.0 all) (rw (put_same s.unstamped t (Some wake)) (refl, refl, refl));
    }

    pub may_wake_all : MayAll c s (wakes r t d all noting).steps
    may_wake_all = (
      record { thread = lt; chan = its.chan; unmarked = i.free.unmarked; stamped = none_unnoted plan r t k },
      (may_note_wake, tt),
    )

    pub woke_keeps : KeepsTrack plan r t (wakes r t d all noting)
    unfolding after_wake after_stamp
    woke_keeps = goes_on plan r t (suc (r.next_op t)) kind.Wake (wakes r t d all noting).steps woken k
        (refl, ((λ e f. refl), tt)) k.lawful.nothing_out k.lawful.queued_stands
        (put_same (put s.unstamped t (Some wake)) t _ ∙ its.noted _)
        (ends_quietly plan r t (suc (r.next_op t)) op woken _ k i (record {
          no_take = its.no_take;
          no_wait = its.no_wait;
          within = left plan r t op i.next;
          same = its.same;
          quiet = its.quiet;
          lets = its.lets;
        }) refl refl refl refl refl refl refl refl)
