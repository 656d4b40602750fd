-- A thread that has its lock back behind a wait notes how its sleep ended, and is at rest.
use Rattle.std.proofs.Common.{◌≡◌, ◌≢◌, ℕ, ◌+◌, ◌≤◌, Bool, true, false, cond, eqb, [], ◌∷◌, refl, sym, ap, ◌∙◌, subst, inl, inr, arith, eq-eqb}
use Rattle.std.proofs.lemmas.Bool.{cases_eq, ne_eqb}
use Rattle.std.proofs.lemmas.Option.{same_Some}
use Rattle.lock_laws.proofs.Sections.{own_section}
use Rattle.lock_model.specs.Config.{Config}
use Rattle.lock_model.specs.History.{open_in, left_in, replaced}
use Rattle.lock_model.specs.Holds.{Hold, NotHeld, Holds}
use Rattle.lock_model.specs.Operations.{hold_in}
use Rattle.lock_model.specs.Queues.{Cause, BySignal, ByAbort, chan_queue}
use Rattle.lock_model.specs.declared.event.Event.{Event}
use Rattle.lock_model.specs.declared.event.Event.TheVariants.{Woke, HaltedChan}
use Rattle.lock_model.specs.declared.numbers.ChanNo.{ChanNo}
use Rattle.lock_state.specs.Facts.Sleeps.{NoSleepIsHalted}
use Rattle.lock_state.specs.Steps.{Stamps}
use Rattle.lock_state.specs.Steps.LockWords.{after_stamp}
use Rattle.floor_table.specs.Descriptions.{config_in}
use Rattle.floor_table.specs.Shares.{is_among}
use Rattle.floor_table.specs.Steps.{Makes, MayMake}
use Rattle.floor_table.specs.Views.{Knowledge, seeing}
use Rattle.floor_table.specs.declared.description.Description.{Description}
use Rattle.lock_floor.specs.Passes.{IsAtRest}
use Rattle.lock_floor.specs.Resumes.{cause_of}
use Rattle.lock_floor.specs.Views.{entry_by, stamped}
use Rattle.lock_floor.proofs.MaySleep.{HasItBack, may_stamp_woke, may_stamp_halted}
use Rattle.lock_floor.proofs.Resting.{IsIdle, at_rest, behind, rest_seeing}
use Rattle.cond_vars.specs.Sleeping.{IsBack, NotesEnd}
use Rattle.cond_vars.specs.Waits.{lock_of, ended_by}

-- 1. It may note it

has_it_back : (floor : Description) (d : ChanNo) (cause : Cause) (v : Knowledge) → IsBack floor d cause v
    → HasItBack floor d.0 v
has_it_back floor d cause v b = record {
  runs = b.runs;
  going = b.unburdened.going;
  no_round = b.no_round;
  back = b.slept;
  held = b.held;
  holds = b.holds;
  closed = b.closed;
  takes = λ k takes. same_Some (lock_of floor d.0) k (sym b.takes ∙ takes);
}

may_note : (floor : Description) (d : ChanNo) (cause : Cause) (v : Knowledge) → IsBack floor d cause v
    → MayMake floor v (λ s. Unit {0}) (Stamps v.thread (ended_by cause d) ∷ [])
may_note floor d BySignal v b = may_stamp_woke floor v d (has_it_back floor d BySignal v b) b.to_note
may_note floor d ByAbort v b = may_stamp_halted floor v d (has_it_back floor d ByAbort v b) b.to_note

-- 2. The halt word

-- at the moment of such an entry the halt word is 1
halt_is_set : (floor : Description) (d : ChanNo) (t : ℕ) (v w : Knowledge)
    (m : Makes floor (Stamps t (HaltedChan d) ∷ []) v w) → m.state.halted ≡ true
unfolding NoSleepIsHalted
halt_is_set floor d t v w m = go m.state.halted refl
  where
    go : (b : Bool) → m.state.halted ≡ b → m.state.halted ≡ true
    go true e = e
    go false e = absurd (m.sound.sleepers.no_sleep_is_halted e t (chan_queue d.0) m.may.0.fits.may.asks.1)

halt_then : (floor : Description) (d : ChanNo) (cause : Cause) (t : ℕ) (v w : Knowledge)
    (m : Makes floor (Stamps t (ended_by cause d) ∷ []) v w) → cause ≡ ByAbort → m.state.halted ≡ true
halt_then floor d BySignal t v w m is = absurd (let z : BySignal ≡ ByAbort = is in cc)
halt_then floor d ByAbort t v w m is = halt_is_set floor d t v w m

-- 3. It is at rest

-- behind it the section of the lock is open in its mode again
opened_again : (floor : Description) (d : ChanNo) (v : Knowledge) (ticket : ℕ) (e : Event) (k : ℕ)
    → open_in (config_in floor) (entry_by v.thread ticket e ∷ v.share.log) v.thread k
    ≡ replaced (cond (eqb (lock_of floor d.0) k) (left_in (config_in floor) v.share.log v.thread k) NotHeld)
    (open_in (config_in floor) v.share.log v.thread k)
    → (hold_in v.share.held (lock_of floor d.0) ≡ left_in (config_in floor) v.share.log v.thread (lock_of floor d.0))
    → hold_in v.share.held (lock_of floor d.0) ≢ NotHeld
    → (k ≢ lock_of floor d.0 → open_in (config_in floor) v.share.log v.thread k ≡ hold_in v.share.held k)
    → open_in (config_in floor) (entry_by v.thread ticket e ∷ v.share.log) v.thread k ≡ hold_in v.share.held k
opened_again floor d v ticket e k is held holds others = elim (cases_eq (lock_of floor d.0) k) [
  | inl same ↦ is
      ∙ ap (λ b. replaced (cond b (left_in (config_in floor) v.share.log v.thread k) NotHeld)
      (open_in (config_in floor) v.share.log v.thread k)) (eq-eqb (lock_of floor d.0) k same)
      ∙ ap (λ h. replaced h (open_in (config_in floor) v.share.log v.thread k)) (sym (at_it same))
      ∙ kept (hold_in v.share.held k) (open_in (config_in floor) v.share.log v.thread k)
      (subst (λ j. hold_in v.share.held j ≢ NotHeld) same holds)
  | inr other ↦ is
      ∙ ap (λ b. replaced (cond b (left_in (config_in floor) v.share.log v.thread k) NotHeld)
      (open_in (config_in floor) v.share.log v.thread k)) (ne_eqb (lock_of floor d.0) k other)
      ∙ others (λ j. other (sym j))
]
  where
    at_it : lock_of floor d.0 ≡ k → hold_in v.share.held k ≡ left_in (config_in floor) v.share.log v.thread k
    at_it same = subst (λ j. hold_in v.share.held j ≡ left_in (config_in floor) v.share.log v.thread j) same held

    kept : (h before : Hold) → h ≢ NotHeld → replaced h before ≡ h
    kept (Holds mode) before ne = refl
    kept NotHeld before ne = absurd (ne refl)

module _ (floor : Description) (d : ChanNo) (v : Knowledge) (ticket : ℕ) where
  abbrev c : Config
  c = config_in floor

  abbrev l : ℕ
  l = lock_of floor d.0

  sections_woke : (k : ℕ) → open_in c (entry_by v.thread ticket (Woke d) ∷ v.share.log) v.thread k
      ≡ replaced (cond (eqb l k) (left_in c v.share.log v.thread k) NotHeld) (open_in c v.share.log v.thread k)
  unfolding after_stamp
  sections_woke k = own_section c (behind c v.share.log ticket) v.thread (Woke d) k

  sections_halted : (k : ℕ) → open_in c (entry_by v.thread ticket (HaltedChan d) ∷ v.share.log) v.thread k
      ≡ replaced (cond (eqb l k) (left_in c v.share.log v.thread k) NotHeld) (open_in c v.share.log v.thread k)
  unfolding after_stamp
  sections_halted k = own_section c (behind c v.share.log ticket) v.thread (HaltedChan d) k

  sections_then : (cause : Cause) (k : ℕ)
      → open_in c (entry_by v.thread ticket (ended_by cause d) ∷ v.share.log) v.thread k
      ≡ replaced (cond (eqb l k) (left_in c v.share.log v.thread k) NotHeld) (open_in c v.share.log v.thread k)
  sections_then BySignal k = sections_woke k
  sections_then ByAbort k = sections_halted k

  begun_then : (cause : Cause) → IsBack floor d cause v → (k : ℕ) → hold_in v.share.held k ≢ NotHeld
      → is_among k (stamped c v (entry_by v.thread ticket (ended_by cause d))).share.begun ≡ true
  begun_then BySignal b k held = among k (b.begun k) held
    where
      among : (k : ℕ) → (k ≢ l → hold_in v.share.held k ≢ NotHeld → is_among k v.share.begun ≡ true)
          → hold_in v.share.held k ≢ NotHeld → is_among k (l ∷ v.share.begun) ≡ true
      among k others held = elim (cases_eq l k) [
        | inl same ↦ rw (eq-eqb l k same) refl
        | inr other ↦ rw (ne_eqb l k other) (others (λ j. other (sym j)) held)
      ]
  begun_then ByAbort b k held = among k (b.begun k) held
    where
      among : (k : ℕ) → (k ≢ l → hold_in v.share.held k ≢ NotHeld → is_among k v.share.begun ≡ true)
          → hold_in v.share.held k ≢ NotHeld → is_among k (l ∷ v.share.begun) ≡ true
      among k others held = elim (cases_eq l k) [
        | inl same ↦ rw (eq-eqb l k same) refl
        | inr other ↦ rw (ne_eqb l k other) (others (λ j. other (sym j)) held)
      ]

  idle_then : (cause : Cause) → IsBack floor d cause v
      → IsIdle (stamped c v (entry_by v.thread ticket (ended_by cause d)))
  idle_then BySignal b = assumption (b.wants, b.looks, b)
  idle_then ByAbort b = assumption (b.wants, b.looks, b)

  notes_end : (cause : Cause) → IsBack floor d cause v → (new : Knowledge)
      → new ≡ seeing new.seen (stamped c v (entry_by v.thread ticket (ended_by cause d)))
      → Makes floor (Stamps v.thread (ended_by cause d) ∷ []) v new → NotesEnd floor d cause v new
  notes_end cause b new says step =
      let then : Knowledge = stamped c v (entry_by v.thread ticket (ended_by cause d)) in
      record {
        notes = step;
        entry = record {
          ticket = ticket;
          log = ap (λ (k : Knowledge). k.share.log) says;
          held = ap (λ (k : Knowledge). k.share.held) says;
          spare = ap (λ (k : Knowledge). k.spare + 1) says ∙ omega (arith, b.room);
          thread = ap (λ (k : Knowledge). k.thread) says;
          before = v;
          behind = new;
          of = refl;
          step = step;
          log_before = refl;
          log_behind = refl;
        };
        rest = subst (IsAtRest floor) (sym says) (rest_seeing floor then new.seen
            (at_rest floor then (idle_then cause b) refl
            (λ k. opened_again floor d v ticket (ended_by cause d) k (sections_then cause k) b.held b.holds
            (b.others k))
            (begun_then cause b)));
        halt_word = halt_then floor d cause v.thread v new step;
      }

-- 4. As the call finds it

module _ (floor : Description) (d : ChanNo) (aborted : Bool) (v : Knowledge) (b : IsBack floor d (cause_of aborted) v)
  where
    pub room_to_note : 1 ≤ v.spare
    room_to_note = b.room

    module _ (is : aborted ≡ true) where
      pub may_note_halted : MayMake floor v (λ s. Unit {0}) (Stamps v.thread (HaltedChan d) ∷ [])
      may_note_halted = may_note floor d ByAbort v (subst (λ x. IsBack floor d (cause_of x) v) is b)

      pub notes_halted : (ticket : ℕ) (new : Knowledge)
          → new ≡ seeing new.seen (stamped (config_in floor) v (entry_by v.thread ticket (HaltedChan d)))
          → Makes floor (Stamps v.thread (HaltedChan d) ∷ []) v new → NotesEnd floor d (cause_of aborted) v new
      notes_halted ticket new says step =
          subst (λ x. NotesEnd floor d (cause_of x) v new) (sym is)
          (notes_end floor d v ticket ByAbort (subst (λ x. IsBack floor d (cause_of x) v) is b) new says step)

    module _ (is : aborted ≡ false) where
      pub may_note_woke : MayMake floor v (λ s. Unit {0}) (Stamps v.thread (Woke d) ∷ [])
      may_note_woke = may_note floor d BySignal v (subst (λ x. IsBack floor d (cause_of x) v) is b)

      pub notes_woke : (ticket : ℕ) (new : Knowledge)
          → new ≡ seeing new.seen (stamped (config_in floor) v (entry_by v.thread ticket (Woke d)))
          → Makes floor (Stamps v.thread (Woke d) ∷ []) v new → NotesEnd floor d (cause_of aborted) v new
      notes_woke ticket new says step =
          subst (λ x. NotesEnd floor d (cause_of x) v new) (sym is)
          (notes_end floor d v ticket BySignal (subst (λ x. IsBack floor d (cause_of x) v) is b) new says step)
