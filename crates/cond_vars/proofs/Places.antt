-- A wait, place after place: what the thread knows at each, with the release of its lock in between and the taking
-- back, allows the next.
use Rattle.std.proofs.Common.{◌≡◌, ◌≢◌, ℕ, ◌<◌, ◌≤◌, Bool, false, cond, eqb, Some, List, [], ◌∷◌, ◌++◌, length, length-append, refl, sym, ap, ◌∙◌, subst, inl, inr, arith, eq-eqb}
use Rattle.std.proofs.lemmas.Bool.{cases_eq, ne_eqb}
use Rattle.lock_laws.proofs.HeldLists.{Apart, hold_in-push}
use Rattle.lock_laws.proofs.Sections.{own_sections_by}
use Rattle.lock_model.specs.Config.{Config}
use Rattle.lock_model.specs.History.{Sections, open_in, left_in}
use Rattle.lock_model.specs.Holds.{Hold, NotHeld, Holds}
use Rattle.lock_model.specs.Operations.{hold_in, without_lock}
use Rattle.lock_model.specs.Queues.{Cause, BySignal, ByAbort, chan_queue}
use Rattle.lock_model.specs.declared.event.Entry.{Entry}
use Rattle.lock_model.specs.declared.event.Event.TheVariants.{Sleeps}
use Rattle.lock_model.specs.declared.event.Held.{Held}
use Rattle.lock_model.specs.declared.numbers.ChanNo.{ChanNo}
use Rattle.lock_model.specs.declared.numbers.LockNo.{LockNo}
use Rattle.lock_model.specs.declared.plan.Kind.TheVariants.{Mtx}
use Rattle.lock_model.specs.declared.plan.Mode.{Mode}
use Rattle.lock_model.specs.declared.plan.Mode.TheVariants.{Excl}
use Rattle.lock_model.specs.declared.plan.QueueName.{QueueName}
use Rattle.lock_state.specs.Steps.LockWords.{is_taking_back, after_stamp}
use Rattle.lock_state.specs.Steps.Turnstiles.{wanted_after, noted_after, woken_from_by, round_for}
use Rattle.floor_table.specs.Descriptions.{config_in}
use Rattle.floor_table.specs.Shares.{is_among}
use Rattle.floor_table.specs.Views.{Knowledge, StandsOn, seeing}
use Rattle.floor_table.specs.declared.description.Description.{Description}
use Rattle.lock_floor.specs.Relocks.{WasEnded, GivesUp, MayRetake, TakesBack}
use Rattle.lock_floor.specs.Resumes.{MayRunAgain, RunsAgain, resumed}
use Rattle.lock_floor.specs.Views.{entry_by}
use Rattle.lock_floor.proofs.MayWake.{may_run_again}
use Rattle.lock_floor.proofs.Resting.{behind}
use Rattle.halting.specs.Halts.{MayCountOut, kept_of}
use Rattle.cond_vars.specs.Parts.{IsToRelease, HasReleased, IsParked, IsToTakeBack}
use Rattle.cond_vars.specs.Sleeping.{MayLieDown, LiesThere, IsBack, IsToNote}
use Rattle.cond_vars.specs.Waits.{MayWait, lock_of}
use Rattle.cond_vars.proofs.HeldLocks.{held_at_end, others_held}

-- 1. It stands on the queue, and may release its lock

-- behind its entry the section of the lock is closed, and was left in its mode; the others are as before
sections_left : (c : Config) (log : List Entry) (t ticket k : ℕ) (d : ChanNo)
    → (open_in c (entry_by t ticket (Sleeps d) ∷ log) t k ≡ cond (eqb (c.chan_lock d.0) k) NotHeld (open_in c log t k))
    × (left_in c (entry_by t ticket (Sleeps d) ∷ log) t k
    ≡ cond (eqb (c.chan_lock d.0) k) (open_in c log t k) (left_in c log t k))
unfolding after_stamp
sections_left c log t ticket k d =
    let by = own_sections_by c (behind c log ticket) t (Sleeps d) k in
    (ap (λ (x : Sections). x.now) by, ap (λ (x : Sections). x.left) by)

-- a mutex is held exclusively, if at all
abbrev pub IsAlone : Description → ℕ → Knowledge → Type 0
IsAlone floor k v = (mode : Mode) → hold_in v.share.held k ≡ Holds mode → (config_in floor).kind k ≡ Mtx → mode ≡ Excl

module _ (floor : Description) (d : ChanNo) (v : Knowledge) (may : MayWait floor d.0 v) (m : MayLieDown floor d.0 v)
    (apart : Apart v.share.held) (alone : IsAlone floor (lock_of floor d.0) v) (new : Knowledge)
    (lies : LiesThere floor d v new) where
  abbrev c : Config
  c = config_in floor

  abbrev k : ℕ
  k = lock_of floor d.0

  mode_now : (mode : Mode) × (hold_in v.share.held k ≡ Holds mode)
  mode_now = go (hold_in v.share.held k) refl
    where
      go : (x : Hold) → hold_in v.share.held k ≡ x → (mode : Mode) × (hold_in v.share.held k ≡ Holds mode)
      go NotHeld e = absurd (m.holds e)
      go (Holds mode) e = (mode, e)

  abbrev as_held : Held
  as_held = record { l = record { 0 = k }; mode = mode_now.0; by_try = false }

  at_end : without_lock k v.share.held ++ as_held ∷ [] ≡ v.share.held
  at_end = held_at_end k mode_now.0 v.share.held may.last apart mode_now.1

  its_own : (b : Hold) → cond (eqb k k) NotHeld b ≡ NotHeld
  its_own b = ap (λ x. cond x NotHeld b) (eq-eqb k k refl)

  another : (j : ℕ) → j ≢ k → (b : Hold) → cond (eqb k j) NotHeld b ≡ b
  another j other b = ap (λ x. cond x NotHeld b) (ne_eqb k j (λ e. other (sym e)))

  others_then : (j : ℕ) → j ≢ k → hold_in (without_lock k v.share.held) j ≡ hold_in v.share.held j
  others_then j other = others_held k v.share.held apart j ∙ another j other (hold_in v.share.held j)

  fewer : length (without_lock k v.share.held) < 8
  fewer = omega (arith, may.few, ap length at_end, length-append (without_lock k v.share.held) (as_held ∷ []))

  pub to_release : IsToRelease floor d new
  to_release = subst (IsToRelease floor d) (sym lies.view) record {
    stands = refl;
    slept = refl;
    unnoted = refl;
    may = record {
      there = inr (d.0, refl);
      unburdened = assumption m.rest;
      takes = m.rest.takes_nothing;
      no_round = m.rest.no_round;
      before = without_lock k v.share.held;
      last = as_held;
      held = sym at_end;
      lock = refl;
      closed = (sections_left c v.share.log v.thread lies.ticket k d).0 ∙ its_own (open_in c v.share.log v.thread k);
      begun = m.rest.begun k m.holds;
    };
    holds = m.holds;
    left = (sections_left c v.share.log v.thread lies.ticket k d).1
        ∙ ap (λ b. cond b (open_in c v.share.log v.thread k) (left_in c v.share.log v.thread k)) (eq-eqb k k refl)
        ∙ m.rest.sections k;
    mutex = λ is. mode_now.1 ∙ ap Holds (alone mode_now.0 mode_now.1 is);
    few = fewer;
    once = others_held k v.share.held apart k ∙ its_own (hold_in v.share.held k);
    others = λ j other.
        (sections_left c v.share.log v.thread lies.ticket j d).0
        ∙ another j other (open_in c v.share.log v.thread j) ∙ m.rest.sections j ∙ sym (others_then j other);
    begun = λ j other held. m.rest.begun j (λ e. held (others_then j other ∙ e));
    room = omega (arith, may.room);
  }

-- 2. It has released it, and may count itself out

module _ (floor : Description) (d : ChanNo) (v : Knowledge) (h : IsToRelease floor d v) (w : Knowledge)
    (gives : GivesUp (lock_of floor d.0) v w) (of_floor : w.description ≡ floor) where
  log_now : w.share.log ≡ v.share.log
  log_now = gives.keeps.log

  thread_now : w.thread ≡ v.thread
  thread_now = gives.keeps.thread

  same_left : left_in (config_in floor) w.share.log w.thread (lock_of floor d.0)
      ≡ left_in (config_in floor) v.share.log v.thread (lock_of floor d.0)
  same_left i = left_in (config_in floor) (log_now i) (thread_now i) (lock_of floor d.0)

  unheld_now : hold_in w.share.held (lock_of floor d.0) ≡ NotHeld
  unheld_now = ap (λ hs. hold_in hs (lock_of floor d.0)) gives.held ∙ h.once

  sections_now : (j : ℕ) → open_in (config_in floor) w.share.log w.thread j ≡ hold_in w.share.held j
  sections_now j = elim (cases_eq j (lock_of floor d.0)) [
    | inl same ↦ subst (λ x. open_in (config_in floor) w.share.log w.thread x ≡ hold_in w.share.held x) (sym same)
        ((λ i. open_in (config_in floor) (log_now i) (thread_now i) (lock_of floor d.0)) ∙ h.may.closed
        ∙ sym unheld_now)
    | inr other ↦ (λ i. open_in (config_in floor) (log_now i) (thread_now i) j) ∙ h.others j other
        ∙ sym (ap (λ hs. hold_in hs j) gives.held)
  ]

  pub has_released : HasReleased floor d (kept_of w)
  has_released = record {
    description = of_floor;
    stands = gives.pose ∙ h.stands;
    slept = ap is_taking_back log_now ∙ h.slept;
    unnoted = gives.keeps.noted ∙ h.unnoted;
    no_round = gives.no_round;
    no_walk = gives.unburdened.no_walk;
    unended = gives.unburdened.going.unended;
    stamped = gives.unburdened.going.stamped;
    unheld = unheld_now;
    left = λ e. h.holds (sym h.left ∙ sym same_left ∙ e);
    mutex = λ is. same_left ∙ h.left ∙ h.mutex is;
    few = subst (λ hs. length hs < 8) (sym gives.held) h.few;
    sections = sections_now;
    begun = λ j other held.
        ap (is_among j) gives.begun ∙ h.begun j other (λ e. held (ap (λ hs. hold_in hs j) gives.held ∙ e));
    room = subst (λ n. 1 ≤ n) (sym gives.keeps.spare) h.room;
  }

  pub may_park : MayCountOut floor w
  may_park = record {
    aside = record {
      description = of_floor;
      is_out = inl (chan_queue d.0, gives.pose ∙ h.stands, (unheld_now, ap is_taking_back log_now ∙ h.slept));
      no_round = gives.no_round;
      no_walk = gives.unburdened.no_walk;
      stamped = gives.unburdened.going.stamped;
    };
    uncounted = gives.unburdened.uncounted;
    nothing_out = gives.unburdened.nothing_out;
    unmarked = gives.unburdened.unmarked;
    awake = gives.unburdened.going.awake;
  }

-- 3. It was woken, and may take its lock back

module _ (floor : Description) (d : ChanNo) (v : Knowledge) (h : HasReleased floor d (kept_of v)) (p : IsParked v) where
  abbrev q : QueueName
  q = chan_queue d.0

  pub may_run : MayRunAgain floor v
  may_run =
      may_run_again floor v q h.stands p.nothing_out h.no_walk h.stamped p.at_resume (h.unheld, h.slept)

  module _ (cause : Cause) (new : Knowledge) (r : RunsAgain floor cause v new) where
    its_queue : r.queue ≡ q
    its_queue = let same : StandsOn r.queue ≡ StandsOn q = sym r.stands ∙ h.stands in cc

    knows : new ≡ seeing new.seen (resumed (config_in floor) v q cause)
    knows = r.view ∙ ap (λ x. seeing new.seen (resumed (config_in floor) v x cause)) its_queue

    wants_it : (x : Cause) (b : Bool)
        → wanted_after (config_in floor) q x b v.share.doing.wanted ≡ Some (lock_of floor d.0)
    wants_it BySignal b = refl
    wants_it ByAbort b = refl

    was_ended : (x : Cause) (b : Bool) (z : Knowledge)
        → z.share.doing.woken_from ≡ woken_from_by q x v.share.doing.woken_from
        → z.share.doing.noted ≡ noted_after q x b v.share.doing.noted → WasEnded z
    was_ended BySignal b z from noted = (d.0, inl (from, noted ∙ h.unnoted))
    was_ended ByAbort b z from noted = (d.0, inr noted)

    note_then : (x : Cause) (b : Bool) (z : Knowledge)
        → z.share.doing.woken_from ≡ woken_from_by q x v.share.doing.woken_from
        → z.share.doing.noted ≡ noted_after q x b v.share.doing.noted → IsToNote x d.0 z
    note_then BySignal b z from noted = from
    note_then ByAbort b z from noted = noted

    same_mode : (mode : Mode) → Holds mode ≡ Holds Excl → mode ≡ Excl
    same_mode mode e = cc

    pub to_take_back : IsToTakeBack floor d cause new
    to_take_back = subst (IsToTakeBack floor d cause) (sym knows) record {
      left = h.left;
      may = λ mode is. record {
        runs = refl;
        unburdened = assumption (p, h);
        unheld = h.unheld;
        few = h.few;
        mutex = λ mtx. same_mode mode (sym is ∙ h.mutex mtx);
        wants = wants_it cause (is_taking_back v.share.log);
        takes = refl;
        round = ap round_for (wants_it cause (is_taking_back v.share.log));
        looks = refl;
        back = h.slept;
        sections = h.sections;
        ended = was_ended cause (is_taking_back v.share.log)
            (seeing new.seen (resumed (config_in floor) v q cause)) refl refl;
      };
      begun = h.begun;
      room = h.room;
      to_note = note_then cause (is_taking_back v.share.log)
          (seeing new.seen (resumed (config_in floor) v q cause)) refl refl;
    }

-- 4. It has its lock back

module _ (floor : Description) (d : ChanNo) (cause : Cause) (v : Knowledge) (h : IsToTakeBack floor d cause v)
    (l : LockNo) (its : l.0 ≡ lock_of floor d.0) (mode : Mode)
    (left : left_in (config_in floor) v.share.log v.thread (lock_of floor d.0) ≡ Holds mode) (z : Knowledge)
    (back : TakesBack l mode v z) where
  abbrev lock : ℕ
  lock = lock_of floor d.0

  may : MayRetake floor lock mode v
  may = h.may mode left

  abbrev as_taken : Held
  as_taken = record { l = l; mode = mode; by_try = false }

  held_again : (j : ℕ) → hold_in z.share.held j ≡ cond (eqb lock j) (Holds mode) (hold_in v.share.held j)
  held_again j = ap (λ hs. hold_in hs j) back.held
      ∙ hold_in-push v.share.held as_taken j (ap (hold_in v.share.held) its ∙ may.unheld)
      ∙ ap (λ x. cond (eqb x j) (Holds mode) (hold_in v.share.held j)) its

  others_again : (j : ℕ) → j ≢ lock → hold_in z.share.held j ≡ hold_in v.share.held j
  others_again j other = held_again j
      ∙ ap (λ b. cond b (Holds mode) (hold_in v.share.held j)) (ne_eqb lock j (λ e. other (sym e)))

  its_again : hold_in z.share.held lock ≡ Holds mode
  its_again = held_again lock ∙ ap (λ b. cond b (Holds mode) (hold_in v.share.held lock)) (eq-eqb lock lock refl)

  note_now : (x : Cause) → IsToNote x d.0 v → IsToNote x d.0 z
  note_now BySignal note = back.keeps.woken_from ∙ note
  note_now ByAbort note = back.keeps.noted ∙ note

  open_now : (j : ℕ) → open_in (config_in floor) z.share.log z.thread j ≡ hold_in v.share.held j
  open_now j = (λ i. open_in (config_in floor) (back.keeps.log i) (back.keeps.thread i) j) ∙ may.sections j

  pub is_back : IsBack floor d cause z
  is_back = record {
    runs = back.runs;
    unburdened = back.unburdened;
    wants = back.wants;
    takes = back.takes ∙ ap Some its;
    no_round = back.no_round;
    looks = back.looks;
    slept = ap is_taking_back back.keeps.log ∙ may.back;
    held = its_again
        ∙ sym ((λ i. left_in (config_in floor) (back.keeps.log i) (back.keeps.thread i) lock) ∙ left);
    holds = λ e. (let y : Holds mode ≡ NotHeld = sym its_again ∙ e in cc);
    closed = open_now lock ∙ may.unheld;
    others = λ j other. open_now j ∙ sym (others_again j other);
    begun = λ j other held.
        back.begun j (λ e. other (e ∙ its)) ∙ h.begun j other (λ e. held (others_again j other ∙ e));
    room = subst (λ n. 1 ≤ n) (sym back.keeps.spare) h.room;
    to_note = note_now cause h.to_note;
  }
