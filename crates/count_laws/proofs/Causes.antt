-- A halt keeps its causes behind each entry, and each other step.
use Rattle.std.proofs.Common.{◌≡◌, ◌⊎◌, ℕ, suc, ◌≤◌, Bool, true, false, cond, eqb, ◌&&◌, ◌||◌, List, [], ◌∷◌, length, Option, Some, None, refl, sym, ap, inl, inr, arith, eq-eqb, subst, ◌∙◌}
use Rattle.std.proofs.lemmas.Bool.{cases_eq, cases_Bool, ne_eqb}
use Rattle.lock_model.specs.Config.{Config}
use Rattle.lock_model.specs.Counts.{one, is_empty}
use Rattle.lock_model.specs.Halts.{entries_below, entries_since, ends_asleep, is_sleeping, waits_for_another, first_was_awaited, awaited_by, HaltsComeSince}
use Rattle.lock_model.specs.History.{entries_of}
use Rattle.lock_model.specs.Law.{is_asleep, is_named, is_halt, passes_over}
use Rattle.lock_model.specs.Queues.{Mark}
use Rattle.lock_model.specs.declared.event.Event.{Event}
use Rattle.lock_model.specs.declared.event.Event.TheVariants.{Locked, HaltedLock, Woke, HaltedChan}
use Rattle.lock_model.specs.declared.event.Entry.{Entry}
use Rattle.lock_state.specs.State.{State, Wait, Note, is_finder, put}
use Rattle.lock_state.specs.Steps.{EndsTake, EndsItsTake, ends_sleep}
use Rattle.lock_state.specs.Steps.LockWords.{MayStamp, is_taking_back, taking_from, taking_after, entry_of}
use Rattle.lock_state.specs.Steps.Counting.{MayHalt, moment_of}
use Rattle.lock_state.specs.Facts.{Lawful, LogsAreParts, NextIsNew, Counted, Ordered, Explained, UnhaltedBefore, HaltedSince, HaltsHaveCauses}
use Rattle.lock_state.specs.Facts.Halts.{NobodyIsHalted, has_cause}
use Rattle.lock_state.specs.Facts.Sleeps.{AreSignals, aborts, is_aborted, is_chan_halt, aborted}
use Rattle.sleep_laws.specs.Sleepers.{SleepersFit, AbortedSleep, MarksAreSignals, WokenBySignal, NoSleepIsHalted, off}
use Rattle.sleep_laws.proofs.SleepFacts.Entries.{asleep_slept, slept_back}
use Rattle.sleep_laws.proofs.SleepFacts.Waking.{over_nobody}
use Rattle.lock_laws.proofs.Kit.{put_same, put_other, sum_below-zero}
use Rattle.count_laws.proofs.Finders.{all_halted}
use Rattle.count_laws.proofs.Moments.{below-new, since-new, all_below, none_since, halts_to_come, slept_then, cause_kept}

-- a log tells of a sleep as the history does
taking_back_ends : (es : List Entry) → is_taking_back es ≡ ends_asleep es
taking_back_ends es = grind arith

no_aborts : (u : ℕ) (ms : List Mark) → AreSignals ms → aborts u ms ≡ 0
no_aborts u [] a = refl
no_aborts u (m ∷ ms) a = let rest = no_aborts u ms a.1 in let i = a.0 in grind (arith)

-- until the halt word is set nobody is aborted
module _ {at_work : ℕ → Option ℕ} {c : Config} {s : State} (p : SleepersFit at_work c s) (i : s.halted ≡ false) where
  unaborted : (u : ℕ) → off c s u ≡ 0
  unfolding aborted MarksAreSignals WokenBySignal NoSleepIsHalted
  unaborted u =
      let a = sum_below-zero c.threads (λ v. aborts u (s.marked v))
      (λ v lt. no_aborts u (s.marked v) (p.marks_are_signals i v)) in
      let b = by_wait (s.wait u) refl in
      let d = by_note (s.noted u) refl in
      omega arith
    where
      by_wait : (w : Wait) → s.wait u ≡ w → is_aborted w ≡ 0
      by_wait w e = grind arith

      by_note : (o : Option Note) → s.noted u ≡ o → is_chan_halt o ≡ 0
      by_note o e = grind arith

-- 1. An entry

module _ {at_work : ℕ → Option ℕ} {c : Config} {s : State} (l : Lawful c s) (p : SleepersFit at_work c s)
    (x : Explained c s)
    (t : ℕ) (e : Event) (g : MayStamp c s t e) where
  abbrev new : Entry
  new = entry_of s t e

  abbrev history : List Entry
  history = new ∷ s.history

  no_halt : s.halted ≡ false → (e : Event) → MayStamp c s t e → is_halt e ≡ false
  unfolding NoSleepIsHalted
  no_halt i e g = grind arith

  -- the thread of a waking doesn't sleep
  awake : (is_taking_back (s.log t) ≡ true → ends_sleep e ≡ true) → ends_sleep e ≡ false → (d : ℕ)
      → is_asleep s.history d t ≡ false
  unfolding LogsAreParts
  awake ends ne d = elim (cases_Bool (is_asleep s.history d t)) [
    | inl a ↦ absurd (
        let log = ap is_taking_back (l.books.logs_are_parts t) in
        let back = slept_back d (entries_of s.history t) (asleep_slept s.history d t a) in
        let z : true ≡ false = sym (ends (log ∙ back)) ∙ ne in cc)
    | inr a ↦ a
  ]

  own_passes : (e : Event) → (ends_sleep e ≡ false → (d : ℕ) → is_asleep s.history d t ≡ false)
      → passes_over c s.history e t ≡ false
  own_passes e ends_sleep = grind arith

  pub unhalted : (is_taking_back (s.log t) ≡ true → ends_sleep e ≡ true) → UnhaltedBefore c s.halted history
  unfolding UnhaltedBefore NobodyIsHalted
  unhalted ends i = (
    no_halt i e g,
    λ u. elim (cases_eq t u) [
      | inl j ↦ subst (λ v. passes_over c s.history e v ≡ false) j (own_passes e (awake ends))
      | inr j ↦ over_nobody l p t g.thread e g u j (unaborted p i u)
    ],
    x.unhalted_before i,
  )

  pub since : HaltedSince c s.halted s.halted_at (suc s.next) history
  unfolding HaltedSince HaltsComeSince
  since i = let z = x.halted_since i in (omega (arith, z.0), ((λ h. z.0), (λ u h. z.0), z.1))

  -- the thread ends its take, or slept at the moment of the halt
  awaited : (e : Event) → MayStamp c s t e → (k : ℕ) → EndsTake c (is_taking_back (s.log t)) e k
      → is_empty (entries_of (entries_since s.halted_at s.history) t) ≡ true
      → (awaited_by c e ≡ Some k) ⊎ (is_sleeping (entries_below s.halted_at s.history) t ≡ true)
  unfolding AbortedSleep aborted LogsAreParts
  awaited (Locked j mode) g k i none = inl (ap Some i.0)
  awaited (HaltedLock j) g k i none = inl (ap Some i.0)
  awaited (Woke d) g k i none = inl (ap Some i.0)
  awaited (HaltedChan d) g k i none = inr (slept_then s.halted_at t s.history none asleep)
    where
      halt : is_chan_halt (s.noted t) ≡ 1
      halt = ap is_chan_halt g.asks.1

      unnamed : (b : Bool) → is_named s.history t ≡ b → is_named s.history t ≡ false
      unnamed false i = i
      unnamed true i = absurd
          (let z = ap one i in let y = ap one (ap (λ b. b) i) in let o = one_most (is_taking_back (s.log t)) in
          omega (arith, p.aborted_sleep t, halt))
        where
          one_most : (b : Bool) → one b ≤ 1
          one_most true = omega arith
          one_most false = omega arith

      asleep : is_sleeping s.history t ≡ true
      asleep =
          let log = ap is_taking_back (l.books.logs_are_parts t) ∙ taking_back_ends (entries_of s.history t) in
          let back : ends_asleep (entries_of s.history t) ≡ true = sym log ∙ i.1 in
          rw (back, unnamed (is_named s.history t) refl) refl
  awaited other g k i none = absurd i

  abbrev caused : List Entry → List Entry → ℕ → Bool → Option ℕ → Bool
  caused past own u ended taking =
      is_empty own && (ended || waits_for_another c past u taking) ||
      (is_sleeping past u || first_was_awaited c past u own)

  own_cause : s.has_ended t ≡ false → EndsItsTake c s t e → (own : List Entry)
      → entries_of (entries_since s.halted_at s.history) t ≡ own
      → caused (entries_below s.halted_at s.history) own t (s.has_ended t) (s.taking t) ≡ true
      → (y : Option ℕ) → caused (entries_below s.halted_at s.history) (new ∷ own) t (s.has_ended t) y ≡ true
  own_cause alive ends (a ∷ own) i h y = h
  own_cause alive ends [] i h y = by_taking (s.taking t) refl (is_sleeping past t) refl (rw alive at h)
    where
      past : List Entry
      past = entries_below s.halted_at s.history

      by_taking : (o : Option ℕ) → s.taking t ≡ o → (b : Bool) → is_sleeping past t ≡ b
          → (waits_for_another c past t o || (b || false)) ≡ true
          → (b || waits_for_another c past t (awaited_by c e)) ≡ true
      by_taking o j true k h = refl
      by_taking None j false k h = absurd cc
      by_taking (Some m) j false k h = elim (awaited e g m (ends m j) (ap is_empty i)) [
        | inl z ↦ rw z (grind (arith, h))
        | inr z ↦ absurd (let q : true ≡ false = sym z ∙ k in cc)
      ]

  pub causes : s.has_ended t ≡ false → EndsItsTake c s t e
      → HaltsHaveCauses c s.halted s.halted_at s.has_ended (put s.taking t (taking_after e (s.taking t))) history
  unfolding HaltsHaveCauses HaltedSince NextIsNew
  causes alive ends i u lt =
      let at = (x.halted_since i).0 in
      let below = below-new s.halted_at new s.history at in
      let later = since-new s.halted_at new s.history at in
      let old = x.halts_have_causes i u lt in
      let past : List Entry = entries_below s.halted_at s.history in
      let own : List Entry = entries_of (entries_since s.halted_at s.history) u in
      rw (below, later) (elim (cases_eq t u) [
        | inl j ↦
            let here = own_cause alive ends (entries_of (entries_since s.halted_at s.history) t) refl
            (subst (λ v. has_cause c (s.has_ended v) (s.taking v) s.halted_at s.history v ≡ true) (sym j) old)
            (put s.taking t (taking_after e (s.taking t)) t) in
            subst (λ v. caused past
            (cond (eqb t v) (new ∷ entries_of (entries_since s.halted_at s.history) v)
            (entries_of (entries_since s.halted_at s.history) v)) v (s.has_ended v)
            (put s.taking t (taking_after e (s.taking t)) v) ≡ true) j (rw (eq-eqb t t refl) here)
        | inr j ↦ rw (ne_eqb t u j, put_other s.taking t (taking_after e (s.taking t)) u j) old
      ])

-- 2. What is taken changes, or who has ended

module _ (c : Config) (s : State) (x : Explained c s) (t : ℕ) where
  pub causes_taking : (o : Option ℕ)
      → ((past : List Entry) → waits_for_another c past t (s.taking t) ≡ true → waits_for_another c past t o ≡ true)
      → HaltsHaveCauses c s.halted s.halted_at s.has_ended (put s.taking t o) s.history
  unfolding HaltsHaveCauses
  causes_taking o f i u lt =
      cause_kept c (s.has_ended u) (s.has_ended u) (s.taking u) (put s.taking t o u) s.halted_at s.history u (λ z. z)
      (elim (cases_eq t u) [
        | inl j ↦ subst (λ v. waits_for_another c past v (s.taking v) ≡ true
            → waits_for_another c past v (put s.taking t o v) ≡ true) j (λ z. rw (put_same s.taking t o) (f past z))
        | inr j ↦ λ z. rw (put_other s.taking t o u j) z
      ]) (x.halts_have_causes i u lt)
    where
      past : List Entry
      past = entries_below s.halted_at s.history

  pub none_waits : (o y : Option ℕ) → o ≡ None → (past : List Entry) → waits_for_another c past t o ≡ true
      → waits_for_another c past t y ≡ true
  none_waits o y e past z = grind arith

  pub seek_waits : (by_try : Bool) (w : Option ℕ) (l : ℕ) (o : Option ℕ) → (w ≡ None → o ≡ None) → (past : List Entry)
      → waits_for_another c past t o ≡ true → waits_for_another c past t (taking_from by_try w l o) ≡ true
  seek_waits true w l o f past z = z
  seek_waits false None l o f past z = none_waits o (Some l) (f refl) past z
  seek_waits false (Some k) l o f past z = z

  pub causes_end : HaltsHaveCauses c s.halted s.halted_at (put s.has_ended t true) s.taking s.history
  unfolding HaltsHaveCauses
  causes_end i u lt =
      cause_kept c (s.has_ended u) (put s.has_ended t true u) (s.taking u) (s.taking u) s.halted_at s.history u
      (elim (cases_eq t u) [
        | inl j ↦ λ z. ap (put s.has_ended t true) (sym j) ∙ put_same s.has_ended t true
        | inr j ↦ λ z. put_other s.has_ended t true u j ∙ z
      ]) (λ z. z) (x.halts_have_causes i u lt)

-- 3. The halt word is set

module _ {at_work : ℕ → Option ℕ} {c : Config} {s : State} (l : Lawful c s) (h : Counted c s) (o : Ordered c s)
    (p : SleepersFit at_work c s)
    (x : Explained c s) (t : ℕ) (g : MayHalt c s t) where
  pub halt_since : HaltedSince c true (moment_of s.halted s.halted_at s.next) s.next s.history
  unfolding HaltedSince UnhaltedBefore
  halt_since i = go s.halted refl
    where
      go : (b : Bool) → s.halted ≡ b → (moment_of b s.halted_at s.next ≤ s.next)
          × HaltsComeSince c (moment_of b s.halted_at s.next) s.history
      go true j = x.halted_since j
      go false j = (omega arith, halts_to_come c s.next s.history (x.unhalted_before j))

  pub halt_causes : HaltsHaveCauses c true (moment_of s.halted s.halted_at s.next) s.has_ended s.taking s.history
  unfolding HaltsHaveCauses NextIsNew
  halt_causes i u lt = go s.halted refl
    where
      go : (b : Bool) → s.halted ≡ b
          → has_cause c (s.has_ended u) (s.taking u) (moment_of b s.halted_at s.next) s.history u ≡ true
      go true j = x.halts_have_causes j u lt
      go false j =
          let few : length s.history ≤ s.next = omega (arith, l.books.next_is_new) in
          let below = all_below s.next s.history l.books.tickets_run few in
          let later = none_since s.next s.history l.books.tickets_run few in
          rw (below, later) (elim (all_halted c s l h o x t (ap is_finder g.finder) p u lt) [
            | inl z ↦ grind (arith, z)
            | inr z ↦ elim z [ inl y ↦ grind (arith, y) | inr y ↦ grind (arith, y) ]
          ])
