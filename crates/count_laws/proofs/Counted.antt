-- Each other kind of step keeps the facts of counting.
use Rattle.std.proofs.Common.{◌≡◌, ◌⊎◌, ℕ, suc, ◌+◌, ◌<◌, Bool, true, false, cond, List, [], ◌∷◌, Option, Some, None, refl, sym, ap, inl, inr, arith, eq-eqb, subst, ◌∙◌}
use Rattle.std.proofs.lemmas.Bool.{cases_eq, ne_eqb}
use Rattle.std.proofs.lemmas.Option.{same_Some}
use Rattle.lock_model.specs.Config.{Config}
use Rattle.lock_model.specs.Counts.{one, at_option, sum_below}
use Rattle.lock_model.specs.Holds.{Hold, NotHeld, Holds}
use Rattle.lock_model.specs.Queues.{Cause, Mark, lock_queue, chan_queue}
use Rattle.lock_model.specs.declared.plan.Mode.{Mode}
use Rattle.lock_model.specs.declared.plan.Mode.TheVariants.{Excl}
use Rattle.lock_model.specs.declared.plan.Side.{Side}
use Rattle.lock_model.specs.declared.plan.QueueName.{QueueName}
use Rattle.lock_model.specs.declared.event.Event.{Event}
use Rattle.lock_state.specs.State.{State, Wait, Running, Queued, Woken, Walk, NoWalk, Phase, Awake, SelfAborted, is_parked, is_finder, found_nobody_awake, put, put_at}
use Rattle.lock_state.specs.Steps.{IsRunnable, IsCountedIn, IsAtResume, KeepsCountedOut}
use Rattle.lock_state.specs.Steps.LockWords.{is_woken, MayReady, MayUnready, after_seek, after_look, after_gain, after_drop, after_stamp, after_ready, after_unready}
use Rattle.lock_state.specs.Steps.Turnstiles.{MayOpen, MayMark, MayResume, after_enter, after_open, after_mark, after_resume, phase_marked}
use Rattle.lock_state.specs.Steps.SleepQueues.{MayOpenSleep, MayWake, MayAbort, after_enter_sleep, after_open_sleep, after_add, after_wake, after_abort, phase_aborting}
use Rattle.lock_state.specs.Steps.Lending.{after_claim, after_lend, after_shift, after_end_walk}
use Rattle.lock_state.specs.Steps.Items.{Item, TurnstileChain, SleepChain, RecordOf, CellOf, ClassGraph, MayTake, MayGive, after_take, after_give}
use Rattle.lock_state.specs.Steps.Orders.{after_admit, after_refuse}
use Rattle.lock_state.specs.Steps.Counting.{IsFirst}
use Rattle.lock_state.specs.Facts.{Lawful, StandingIsQueued, Counted, TermsFitParking, CountedInIsNextMarked, ParkedHasNoWalk, RestingHasNoMarks, ParkedHasNothingOut, RestingStands, SelfAbortedIsWoken, EndedRuns, EndedIsBare, FinderIsAlone}
use Rattle.lock_state.specs.Facts.Counts.{own_term, is_at_rest, wakes_under_way, times_counted_in}
use Rattle.lock_laws.proofs.Kit.{columns, put_same, put_other, put_at_other, sum_below-put}
use Rattle.lock_laws.proofs.Items.{with_then, at_itself, beside}
use Rattle.lock_laws.proofs.Standing.{marked_named, marked_thread}
use Rattle.count_laws.proofs.Countings.{own_one, only_finder, no_finder, finder_rests}

-- 1. Steps that change none of the columns, and gains, releases and enters of an acting thread

module _ (c : Config) (s : State) (h : Counted c s) where
  pub seek : (t l : ℕ) (by_try : Bool) → Counted c (after_seek s t l by_try)
  unfolding after_seek
  seek t l by_try = assumption h

  -- the class graph is home
  pub graph_home : ParkedHasNothingOut s.phase s.turnstile_chain_with s.sleep_chain_with s.record_with s.cell_with None
  unfolding ParkedHasNothingOut
  graph_home u (TurnstileChain k) p e = h.parked_has_nothing_out u (TurnstileChain k) p e
  graph_home u (SleepChain k) p e = h.parked_has_nothing_out u (SleepChain k) p e
  graph_home u (RecordOf v) p e = h.parked_has_nothing_out u (RecordOf v) p e
  graph_home u (CellOf l k) p e = h.parked_has_nothing_out u (CellOf l k) p e
  graph_home u ClassGraph p e = cc

  pub refuse : (t l k : ℕ) → Counted c (after_refuse s t l k)
  unfolding after_refuse
  refuse t l k = assumption (graph_home, h)

  pub look : (t l : ℕ) (b : Bool) → Counted c (after_look s t l b)
  unfolding after_look
  look t l b = assumption h

  pub stamp : (t : ℕ) (e : Event) → Counted c (after_stamp c s t e)
  unfolding after_stamp
  stamp t e = assumption h

module _ (c : Config) (s : State) (t : ℕ) (a : IsRunnable s t) (h : Counted c s) where
  bare : (l : ℕ) (x : Hold) (w : Option ℕ) → EndedIsBare s.has_ended (put_at s.held t l x) (put s.wanted t w)
  unfolding EndedIsBare
  bare l x w u f = elim (cases_eq t u) [
    | inl y ↦ absurd (let z = sym a.unended ∙ ap s.has_ended y ∙ f in cc)
    | inr y ↦ let z = h.ended_is_bare u f in
        ((λ k. put_at_other s.held t l x u k y ∙ z.0 k), put_other s.wanted t w u y ∙ z.1)
  ]

  bare_held : (l : ℕ) (x : Hold) → EndedIsBare s.has_ended (put_at s.held t l x) s.wanted
  unfolding EndedIsBare
  bare_held l x u f = ((λ k. (bare l x None u f).0 k), (h.ended_is_bare u f).1)

  pub bare_wanted : (w : Option ℕ) → EndedIsBare s.has_ended s.held (put s.wanted t w)
  unfolding EndedIsBare
  bare_wanted w u f = ((h.ended_is_bare u f).0, (bare 0 NotHeld w u f).1)

  named_rest : (q : Option QueueName) → RestingStands s.phase s.has_ended (put s.blocked_on t q) s.wait
  unfolding RestingStands
  named_rest q u p f e = grind (arith, columns)

  pub gain : (l : ℕ) (mode : Mode) (by_try : Bool) → Counted c (after_gain s t l mode by_try)
  unfolding after_gain
  gain l mode by_try = assumption (bare l (Holds mode) None, h)

  pub drop : (l : ℕ) → Counted c (after_drop s t l)
  unfolding after_drop
  drop l = assumption (bare_held l NotHeld, h)

  pub claim : (l x : ℕ) (by_try : Bool) → Counted c (after_claim c s t l x by_try)
  unfolding after_claim
  claim l x by_try = assumption (bare l (Holds Excl) None, h)

  pub enter_sleep : (l : ℕ) (mode : Mode) (x : ℕ) → Counted c (after_enter_sleep s t l mode x)
  unfolding after_enter_sleep
  enter_sleep l mode x = assumption (named_rest (Some (lock_queue l)), bare_wanted (Some l), h)

  pub admit : (l : ℕ) → Counted c (after_admit c s t l)
  unfolding after_admit
  admit l = assumption (graph_home c s h, bare_wanted (Some l), h)

  pub add : (d x : ℕ) → Counted c (after_add s t d x)
  unfolding after_add
  add d x = assumption (named_rest (Some (chan_queue d)), h)

-- 2. Walks of an acting thread

module _ (c : Config) (s : State) (t : ℕ) (a : IsRunnable s t) (h : Counted c s) (w : Walk) where
  walked : ParkedHasNoWalk s.phase (put s.walk t w)
  unfolding ParkedHasNoWalk
  walked u = grind (arith, columns, h.parked_has_no_walk u, a.phase)

module _ (c : Config) (s : State) (t : ℕ) (a : IsRunnable s t) (h : Counted c s) where
  pub enter : (l : ℕ) (mode : Mode) (x : ℕ) → Counted c (after_enter s t l mode x)
  unfolding after_enter
  enter l mode x = let w : ParkedHasNoWalk s.phase (after_enter s t l mode x).walk = walked c s t a h _ in
      assumption (w, named_rest c s t a h (Some (lock_queue l)), bare_wanted c s t a h (Some l), h)

  pub lend : (l o x : ℕ) → Counted c (after_lend c s t l o x)
  unfolding after_lend
  lend l o x = let w : ParkedHasNoWalk s.phase (after_lend c s t l o x).walk = walked c s t a h _ in assumption (w, h)

  pub shift : (o l : ℕ) → Counted c (after_shift s t o l)
  unfolding after_shift
  shift o l = let w : ParkedHasNoWalk s.phase (after_shift s t o l).walk = walked c s t a h _ in assumption (w, h)

  pub end_walk : Counted c (after_end_walk s t)
  unfolding after_end_walk
  end_walk = assumption (walked c s t a h NoWalk, h)

-- 3. The own wait word

module _ (c : Config) (s : State) (t : ℕ) (lt : t < c.threads) (a : IsRunnable s t) (h : Counted c s) (w : Wait)
    (same : is_woken w ≡ is_woken (s.wait t)) where
  waits_terms : TermsFitParking c s.counted_out s.counted_in s.phase (put s.wait t w) s.counting
  unfolding TermsFitParking wakes_under_way
  waits_terms u = grind (arith, columns, h.terms_fit_parking u)

  waits_waits : RestingStands s.phase s.has_ended s.blocked_on (put s.wait t w)
  unfolding RestingStands
  waits_waits u = grind (arith, columns, h.resting_stands u, a.phase)

  waits_self_aborted : SelfAbortedIsWoken s.phase (put s.wait t w)
  unfolding SelfAbortedIsWoken
  waits_self_aborted u = grind (arith, columns, h.self_aborted_is_woken u, a.phase)

  waits_ended : EndedRuns s.has_ended (put s.wait t w)
  unfolding EndedRuns
  waits_ended u = grind (arith, columns, h.ended_runs u, a.unended)

  waits_alone : FinderIsAlone c s.phase (put s.wait t w) s.counting
  unfolding FinderIsAlone
  waits_alone f u e l = absurd (no_finder c s h t lt a.phase f e)

module _ (c : Config) (s : State) (t : ℕ) (a : IsRunnable s t) (h : Counted c s) where
  pub ready : MayReady c s t → Counted c (after_ready s t)
  unfolding after_ready
  ready g =
      let w = sym (ap is_woken g.running) in
      assumption (
        waits_terms c s t g.thread a h Queued w,
        waits_waits c s t g.thread a h Queued w,
        waits_self_aborted c
            s t g.thread a h Queued w,
        waits_ended c s t g.thread a h Queued w,
        waits_alone c s t g.thread a h Queued w,
        h,
      )

  pub unready : MayUnready c s t → Counted c (after_unready s t)
  unfolding after_unready
  unready g =
      let w = sym (ap is_woken g.queued) in
      assumption (
        waits_terms c s t g.thread a h Running w,
        waits_waits c s t g.thread a h Running w,
        waits_self_aborted
            c s t g.thread a h Running w,
        waits_ended c s t g.thread a h Running w,
        waits_alone c s t g.thread a h Running
            w,
        h,
      )

-- 4. The marked list of an acting thread

module _ (c : Config) (s : State) (t : ℕ) (h : Counted c s) (e : s.marked t ≡ []) where
  -- a thread whose marked list is empty counts nobody in
  none_counted : s.counting t ≡ None
  unfolding CountedInIsNextMarked
  none_counted = go (s.counting t) refl
    where
      go : (o : Option ℕ) → s.counting t ≡ o → o ≡ None
      go None i = refl
      go (Some u) i = absurd (let z = (h.counted_in_is_next_marked t u i).0 in rw e at z)

  marks_next : (ms : List Mark) → CountedInIsNextMarked s.counting (put s.marked t ms) s.record_with
  unfolding CountedInIsNextMarked
  marks_next ms v u i = elim (cases_eq t v) [
    | inl x ↦ absurd (let z : None ≡ Some u = sym none_counted ∙ ap s.counting x ∙ i in cc)
    | inr x ↦ rw (put_other s.marked t ms v x) (h.counted_in_is_next_marked v u i)
  ]

  marks_rest : s.phase t ≡ Awake → (ms : List Mark) → RestingHasNoMarks s.phase (put s.marked t ms)
  unfolding RestingHasNoMarks
  marks_rest p ms u = grind (arith, columns, h.resting_has_no_marks u, ap is_at_rest p)

module _ (c : Config) (s : State) (t : ℕ) (a : IsRunnable s t) (h : Counted c s) where
  pub opens : (l : ℕ) (mode : Mode) → MayOpen c s t l mode → Counted c (after_open c s t l)
  unfolding after_open
  opens l mode g =
      let x : CountedInIsNextMarked s.counting (after_open c s t l).marked s.record_with =
      marks_next c s t h g.releases.unmarked _ in
      let y : RestingHasNoMarks s.phase (after_open c s t l).marked =
      marks_rest c s t h g.releases.unmarked a.phase _ in
      assumption (x, y, bare_held c s t a h l NotHeld, h)

  pub open_sleep : (l : ℕ) (mode : Mode) → MayOpenSleep c s t l mode → Counted c (after_open_sleep c s t l)
  unfolding after_open_sleep
  open_sleep l mode g =
      let x : CountedInIsNextMarked s.counting (after_open_sleep c s t l).marked s.record_with =
      marks_next c s t h g.releases.unmarked _ in
      let y : RestingHasNoMarks s.phase (after_open_sleep c s t l).marked =
      marks_rest c s t h g.releases.unmarked a.phase _ in
      assumption (x, y, bare_held c s t a h l NotHeld, h)

  pub wake : (d : ℕ) (all : Bool) → MayWake c s t d all → Counted c (after_wake s t d all)
  unfolding after_wake
  wake d all g =
      let x : CountedInIsNextMarked s.counting (after_wake s t d all).marked s.record_with =
      marks_next c s t h g.unmarked _ in
      let y : RestingHasNoMarks s.phase (after_wake s t d all).marked = marks_rest c s t h g.unmarked a.phase _ in
      assumption (x, y, h)

-- 5. A mark

module _ (c : Config) (s : State) (t : ℕ) (m : Mark) (ms : List Mark) (g : MayMark c s t m ms)
    (p : is_parked (s.phase t) ≡ false) (b : IsCountedIn s t m.thread) (l : Lawful c s) (h : Counted c s) where
  abbrev n : State
  n = after_mark c s t m ms

  abbrev u : ℕ
  u = m.thread

  queued : s.wait u ≡ Queued
  unfolding StandingIsQueued
  queued = l.waits.standing_is_queued u m.queue (marked_named c s t m ms l g.thread g.marked)

  lt : u < c.threads
  lt = marked_thread c s t m ms l g.thread g.marked

  -- a thread that wakes itself counted nobody in
  mine : t ≡ u → s.counting t ≡ None
  unfolding CountedInIsNextMarked
  mine e = go (s.counting t) refl
    where
      go : (o : Option ℕ) → s.counting t ≡ o → o ≡ None
      go None i = refl
      go (Some v) i = absurd
          (let z = h.counted_in_is_next_marked t v i in let y : IsFirst v (m ∷ ms) = subst (IsFirst v) g.marked z.0 in
          z.1 (e ∙ y))

  own_weight : t ≡ u → own_term (s.phase t) ≡ 1
  unfolding SelfAbortedIsWoken
  own_weight e = own_one (s.phase t) p
      (λ i. let z = ap is_woken (ap s.wait e ∙ queued) in let y = h.self_aborted_is_woken t i in cc)

  abbrev woken : ℕ → Wait
  woken = put s.wait u (Woken m.queue m.cause)

  abbrev uncounted : ℕ → Option ℕ
  uncounted = put s.counting t None

  self_here : t ≡ u → suc (times_counted_in c s.counted_in u) ≡ s.counted_out u + own_term (put s.phase t SelfAborted u)
      + (one (is_woken (woken u)) + sum_below c.threads (λ w. at_option u (uncounted w)))
  unfolding TermsFitParking wakes_under_way
  self_here e =
      let a = sum_below-put c.threads (at_option u) s.counting t None g.thread in
      let d = ap (at_option u) (mine e) in
      let w = ap one (ap is_woken queued) in
      let o = own_weight e in
      let o2 : own_term (s.phase u) ≡ 1 = ap (λ k. own_term (s.phase k)) (sym e) ∙ o in
      let x : own_term (put s.phase t SelfAborted u) ≡ 0 = ap (λ k. own_term (put s.phase t SelfAborted k)) (sym e)
      ∙ ap own_term (put_same s.phase t SelfAborted) in
      let y : one (is_woken (woken u)) ≡ 1 = ap one (ap is_woken (put_same s.wait u (Woken m.queue m.cause))) in
      omega (arith, h.terms_fit_parking u)

  by_self : (v : ℕ) → t ≡ u
      → suc (times_counted_in c s.counted_in v) ≡ s.counted_out v + own_term (put s.phase t SelfAborted v) +
      (one (is_woken (woken v)) + sum_below c.threads (λ w. at_option v (uncounted w)))
  unfolding TermsFitParking wakes_under_way
  by_self v e =
      let a = sum_below-put c.threads (at_option v) s.counting t None g.thread in
      let d = ap (at_option v) (mine e) in
      elim (cases_eq u v) [
        | inl i ↦ subst (λ k. suc (times_counted_in c s.counted_in k) ≡ s.counted_out k + own_term
            (put s.phase t SelfAborted k) +
            (one (is_woken (woken k)) + sum_below c.threads (λ w. at_option k (uncounted w)))) i (self_here e)
        | inr i ↦ rw (
          put_other s.wait u (Woken m.queue m.cause) v i,
          put_other s.phase t SelfAborted v
              (λ x. i (sym e ∙ x)),
        ) (omega (arith, h.terms_fit_parking v))
      ]

  by_other : (v : ℕ) → s.counting t ≡ Some u
      → suc (times_counted_in c s.counted_in v) ≡ s.counted_out v + own_term (s.phase v) +
      (one (is_woken (woken v)) + sum_below c.threads (λ w. at_option v (uncounted w)))
  unfolding TermsFitParking wakes_under_way
  by_other v e =
      let a = sum_below-put c.threads (at_option v) s.counting t None g.thread in
      let d = ap (at_option v) e in
      let w = ap one (ap is_woken queued) in
      grind (arith, columns, h.terms_fit_parking v)

  -- the phase changes only where the thread wakes itself
  phase_at : s.counting t ≡ Some u → (v : ℕ) → put s.phase t (phase_marked t u (s.phase t)) v ≡ s.phase v
  unfolding CountedInIsNextMarked
  phase_at e v =
      elim (cases_eq t v) [
        | inl x ↦ rw (
          ← x,
          put_same s.phase t (phase_marked t u (s.phase t)),
          ne_eqb t u
              (h.counted_in_is_next_marked t u e).1,
        ) refl
        | inr x ↦ put_other s.phase t (phase_marked t u (s.phase t)) v x
      ]

  phase_other : s.counting t ≡ Some u → put s.phase t (phase_marked t u (s.phase t)) ≡ s.phase
  phase_other e i v = phase_at e v i

  phase_self : t ≡ u → put s.phase t (phase_marked t u (s.phase t)) ≡ put s.phase t SelfAborted
  phase_self e = ap (put s.phase t) (ap (λ x. cond x SelfAborted (s.phase t)) (eq-eqb t u e))

  mark_terms : TermsFitParking c n.counted_out n.counted_in n.phase n.wait n.counting
  unfolding after_mark TermsFitParking wakes_under_way
  mark_terms v =
      elim b [
        | inl e ↦ rw (phase_other e) (by_other v e)
        | inr e ↦ rw (phase_self e) (by_self v e)
      ]

  mark_next : CountedInIsNextMarked n.counting n.marked n.record_with
  unfolding after_mark CountedInIsNextMarked
  mark_next v w e = elim (cases_eq t v) [
    | inl x ↦ absurd (let z : None ≡ Some w = sym (put_same s.counting t None) ∙ ap uncounted x ∙ e in cc)
    | inr x ↦ rw (put_other s.marked t ms v x)
        (h.counted_in_is_next_marked v w (sym (put_other s.counting t None v x) ∙ e))
  ]

  marked_phase : (v : ℕ) → n.phase v ≡ s.phase v ⊎ ((u ≡ v) × (n.phase v ≡ SelfAborted))
  unfolding after_mark
  marked_phase v =
      elim b [
        | inl e ↦ inl (λ i. phase_other e i v)
        | inr e ↦ elim (cases_eq t v) [
          | inl x ↦ inr (
            sym e ∙ x,
            (λ i. phase_self e i v) ∙ ap (put s.phase t SelfAborted) (sym x)
                ∙ put_same s.phase t SelfAborted,
          )
          | inr x ↦ inl (put_other s.phase t (phase_marked t u (s.phase t)) v x)
        ]
      ]

  mark_no_walk : ParkedHasNoWalk n.phase n.walk
  unfolding after_mark ParkedHasNoWalk
  mark_no_walk v q = grind (arith, columns)

  mark_no_marks : RestingHasNoMarks n.phase n.marked
  unfolding after_mark RestingHasNoMarks
  mark_no_marks v q = grind (arith, columns)

  mark_nothing : ParkedHasNothingOut n.phase n.turnstile_chain_with n.sleep_chain_with n.record_with n.cell_with
      n.graph_with
  unfolding after_mark ParkedHasNothingOut
  mark_nothing v i q = elim (marked_phase v) [
    | inl x ↦ h.parked_has_nothing_out v i (ap is_parked (sym x) ∙ q)
    | inr x ↦
        absurd (let z = ap is_parked (sym x.1) ∙ q in cc)
  ]

  mark_waits : RestingStands n.phase n.has_ended n.blocked_on n.wait
  unfolding after_mark RestingStands
  mark_waits v q f e = grind (arith, columns)

  mark_self_aborted : SelfAbortedIsWoken n.phase n.wait
  unfolding after_mark SelfAbortedIsWoken
  mark_self_aborted v q = grind (arith, columns)

  mark_ended : EndedRuns n.has_ended n.wait
  unfolding after_mark EndedRuns
  mark_ended v f = elim (cases_eq u v) [
    | inl y ↦ absurd (let z : Queued ≡ Running = sym queued ∙ ap s.wait y ∙ h.ended_runs v f in cc)
    | inr y ↦ rw (put_other s.wait u (Woken m.queue m.cause) v y) (h.ended_runs v f)
  ]

  mark_alone : FinderIsAlone c n.phase n.wait n.counting
  unfolding FinderIsAlone RestingHasNoMarks
  mark_alone f v e k =
      elim (marked_phase f) [
        | inl x ↦ absurd (
            let e2 = ap is_finder (sym x) ∙ e in
            let i = only_finder c s h f t e2 g.thread p in
            let z = h.resting_has_no_marks f (finder_rests (s.phase f) e2) in
            let w : [] ≡ m ∷ ms = sym z ∙ ap s.marked i ∙ g.marked in cc)
        | inr x ↦ absurd (let z = ap is_finder (sym x.1) ∙ e in cc)
      ]

  pub mark : Counted c n
  unfolding after_mark
  mark = assumption (
    mark_terms,
    mark_next,
    mark_no_walk,
    mark_no_marks,
    mark_nothing,
    mark_waits,
    mark_self_aborted,
    mark_ended,
    mark_alone,
    h,
  )

-- 6. A resume

at_resume : (p : Phase) → IsAtResume p → own_term p ≡ 0
at_resume p e = grind arith

module _ (c : Config) (s : State) (t : ℕ) (q : QueueName) (cause : Cause) (g : MayResume c s t q cause)
    (r : IsAtResume (s.phase t)) (h : Counted c s) where
  abbrev o : State
  o = after_resume c s t q cause

  was_woken : is_woken (s.wait t) ≡ true
  was_woken = ap is_woken g.woken

  resume_terms : TermsFitParking c o.counted_out o.counted_in o.phase o.wait o.counting
  unfolding after_resume TermsFitParking wakes_under_way
  resume_terms u = grind (arith, columns, h.terms_fit_parking u, at_resume (s.phase t) r, ap one was_woken)

  resume_no_walk : ParkedHasNoWalk o.phase o.walk
  unfolding after_resume ParkedHasNoWalk
  resume_no_walk u = grind (arith, columns, h.parked_has_no_walk u)

  resume_no_marks : RestingHasNoMarks o.phase o.marked
  unfolding after_resume RestingHasNoMarks
  resume_no_marks u = grind (arith, columns, h.resting_has_no_marks u)

  resume_nothing : ParkedHasNothingOut o.phase o.turnstile_chain_with o.sleep_chain_with o.record_with o.cell_with
      o.graph_with
  unfolding after_resume ParkedHasNothingOut
  resume_nothing u j p = elim (cases_eq t u) [
    | inl e ↦ absurd (let z = ap is_parked (sym (put_same s.phase t Awake) ∙ ap (put s.phase t Awake) e) in cc)
    | inr e ↦ h.parked_has_nothing_out u j (ap is_parked (sym (put_other s.phase t Awake u e)) ∙ p)
  ]

  resume_waits : RestingStands o.phase o.has_ended o.blocked_on o.wait
  unfolding after_resume RestingStands
  resume_waits u = grind (arith, columns, h.resting_stands u)

  resume_self_aborted : SelfAbortedIsWoken o.phase o.wait
  unfolding after_resume SelfAbortedIsWoken
  resume_self_aborted u = grind (arith, columns, h.self_aborted_is_woken u)

  resume_ended : EndedRuns o.has_ended o.wait
  unfolding after_resume EndedRuns
  resume_ended u = grind (arith, columns, h.ended_runs u)

  resume_alone : FinderIsAlone c o.phase o.wait o.counting
  unfolding after_resume FinderIsAlone wakes_under_way
  resume_alone f u e lt =
      elim (cases_eq t f) [
        | inl x ↦ absurd (let z = ap is_finder (sym (put_same s.phase t Awake) ∙ ap (put s.phase t Awake) x) ∙ e in cc)
        | inr x ↦ absurd (let
            z = (h.finder_is_alone f t (ap is_finder (sym (put_other s.phase t Awake f x)) ∙ e) g.thread).0 in let y =
            ap one was_woken in omega arith)
      ]

  resume_bare : EndedIsBare o.has_ended o.held o.wanted
  unfolding after_resume EndedIsBare EndedRuns
  resume_bare u f = grind (arith, columns)

  pub resume : Counted c o
  unfolding after_resume
  resume = assumption (
    resume_bare,
    resume_terms,
    resume_no_walk,
    resume_no_marks,
    resume_nothing,
    resume_waits,
    resume_self_aborted,
    resume_ended,
    resume_alone,
    h,
  )

-- 7. Takes and gives by a thread that isn't parked

-- what a thread has out once an item went to a thread, or home, is that item, or was out before
module _ (c : Config) (s : State) (t : ℕ) (p : is_parked (s.phase t) ≡ false) (h : Counted c s) where
  abbrev NothingOutIn : State → Type 0
  NothingOutIn n = ParkedHasNothingOut s.phase n.turnstile_chain_with n.sleep_chain_with n.record_with n.cell_with
      n.graph_with

  taken_nothing : (i : Item) → MayTake c s t i → NothingOutIn (after_take s t i)
  unfolding ParkedHasNothingOut after_take
  taken_nothing i g u j q e = elim (beside s i (Some t) j) [
    | inl x ↦ absurd (let z : is_parked (s.phase t) ≡ true = ap (λ k. is_parked (s.phase k)) (same_Some t u (its x))
        ∙ q in let y : true ≡ false = sym z ∙ p in cc)
    | inr x ↦ h.parked_has_nothing_out u j q (sym x ∙ e)
  ]
    where
      its : i ≡ j → Some t ≡ Some u
      its x = sym (at_itself s i (Some t)) ∙ ap (with_then s i (Some t)) x ∙ e

  given_nothing : (i : Item) → NothingOutIn (after_give s t i)
  unfolding ParkedHasNothingOut after_give
  given_nothing i u j q e = elim (beside s i None j) [
    | inl x ↦ absurd (let z : None ≡ Some u = sym (at_itself s i None) ∙ ap (with_then s i None) x ∙ e in cc)
    | inr x ↦ h.parked_has_nothing_out u j q (sym x ∙ e)
  ]

  take_next : (v : ℕ) → s.record_with v ≡ None
      → CountedInIsNextMarked s.counting s.marked (put s.record_with v (Some t))
  unfolding CountedInIsNextMarked
  take_next v e u w f =
      let z = h.counted_in_is_next_marked u w f in
      elim (cases_eq v w) [
        | inl x ↦ absurd (let y : None ≡ Some u = sym e ∙ ap s.record_with x ∙ z.2 in cc)
        | inr x ↦ (z.0, z.1, put_other s.record_with v (Some t) w x ∙ z.2)
      ]

  -- the record of a thread that is counted in stays out until its mark
  give_next : (v : ℕ) → s.record_with v ≡ Some t → (s.counting t ≡ Some v → ⊥)
      → CountedInIsNextMarked s.counting s.marked (put s.record_with v None)
  unfolding CountedInIsNextMarked
  give_next v e n u w f =
      let z = h.counted_in_is_next_marked u w f in
      elim (cases_eq v w) [
        | inl x ↦ absurd (let y : Some t ≡ Some u = sym e ∙ ap s.record_with x
            ∙ z.2 in n (ap s.counting (same_Some t u y) ∙ f ∙ ap Some (sym x)))
        | inr x ↦ (z.0, z.1, put_other s.record_with v None w x ∙ z.2)
      ]

  pub take : (i : Item) → MayTake c s t i → Counted c (after_take s t i)
  unfolding after_take
  take (TurnstileChain k) g = let a = taken_nothing (TurnstileChain k) g in assumption (a, h)
  take (SleepChain k) g = let a = taken_nothing (SleepChain k) g in assumption (a, h)
  take (RecordOf v) g = let a = taken_nothing (RecordOf v) g in assumption (a, take_next v g.home, h)
  take (CellOf l k) g = let a = taken_nothing (CellOf l k) g in assumption (a, h)
  take ClassGraph g = let a = taken_nothing ClassGraph g in assumption (a, h)

  pub give : (i : Item) → MayGive c s t i → KeepsCountedOut s t i → Counted c (after_give s t i)
  unfolding after_give
  give (TurnstileChain k) g n = let a = given_nothing (TurnstileChain k) in assumption (a, h)
  give (SleepChain k) g n = let a = given_nothing (SleepChain k) in assumption (a, h)
  give (RecordOf v) g n = let a = given_nothing (RecordOf v) in assumption (a, give_next v g.out (n v refl), h)
  give (CellOf l k) g n = let a = given_nothing (CellOf l k) in assumption (a, h)
  give ClassGraph g n = let a = given_nothing ClassGraph in assumption (a, h)

-- 8. An abort

aborting_weight : (p : Phase) → own_term (phase_aborting p) ≡ own_term p
aborting_weight p = grind arith

-- after an abort its thread neither rests nor is parked nor a finder
aborts : (p : Phase) → found_nobody_awake p ≡ true → is_parked p ≡ false → (is_parked (phase_aborting p) ≡ false)
    × (is_at_rest (phase_aborting p) ≡ false) × (is_finder (phase_aborting p) ≡ false)
aborts p e f = grind arith

still_self : (p : Phase) → phase_aborting p ≡ SelfAborted → p ≡ SelfAborted
still_self p e = grind arith

module _ (c : Config) (s : State) (t : ℕ) (q : QueueName) (side : Side) (w : ℕ) (g : MayAbort c s t q side w)
    (h : Counted c s) where
  abbrev a : State
  a = after_abort s t q side w

  abort_terms : TermsFitParking c a.counted_out a.counted_in a.phase a.wait a.counting
  unfolding after_abort TermsFitParking
  abort_terms u = grind (arith, columns, h.terms_fit_parking u, aborting_weight (s.phase t))

  abort_next : CountedInIsNextMarked a.counting a.marked a.record_with
  unfolding after_abort
  abort_next = marks_next c s t h g.unmarked _

  abort_no_walk : ParkedHasNoWalk a.phase a.walk
  unfolding after_abort ParkedHasNoWalk
  abort_no_walk u = grind (arith, columns, h.parked_has_no_walk u, (aborts (s.phase t) g.found g.unparked).0)

  abort_no_marks : RestingHasNoMarks a.phase a.marked
  unfolding after_abort RestingHasNoMarks
  abort_no_marks u = grind (arith, columns, h.resting_has_no_marks u, (aborts (s.phase t) g.found g.unparked).1)

  abort_nothing : ParkedHasNothingOut a.phase a.turnstile_chain_with a.sleep_chain_with a.record_with a.cell_with
      a.graph_with
  unfolding after_abort ParkedHasNothingOut
  abort_nothing u j p = elim (cases_eq t u) [
    | inl e ↦ absurd (let z = ap is_parked
        (sym (put_same s.phase t (phase_aborting (s.phase t))) ∙ ap (put s.phase t (phase_aborting (s.phase t))) e) in
        let y = (aborts (s.phase t) g.found g.unparked).0 in cc)
    | inr e ↦ h.parked_has_nothing_out u j
        (ap is_parked (sym (put_other s.phase t (phase_aborting (s.phase t)) u e)) ∙ p)
  ]

  abort_waits : RestingStands a.phase a.has_ended a.blocked_on a.wait
  unfolding after_abort RestingStands
  abort_waits u = grind (arith, columns, h.resting_stands u, (aborts (s.phase t) g.found g.unparked).1)

  abort_self_aborted : SelfAbortedIsWoken a.phase a.wait
  unfolding after_abort SelfAbortedIsWoken
  abort_self_aborted u = grind (arith, columns, h.self_aborted_is_woken u, still_self (s.phase t))

  abort_alone : FinderIsAlone c a.phase a.wait a.counting
  unfolding after_abort FinderIsAlone
  abort_alone f u e lt = elim (cases_eq t f) [
    | inl x ↦ absurd (let z = ap is_finder
        (sym (put_same s.phase t (phase_aborting (s.phase t))) ∙ ap (put s.phase t (phase_aborting (s.phase t))) x)
        ∙ e in let y = (aborts (s.phase t) g.found g.unparked).2 in cc)
    | inr x ↦ absurd (x (sym
        (only_finder c s h f t (ap is_finder (sym (put_other s.phase t (phase_aborting (s.phase t)) f x)) ∙ e) g.thread
        g.unparked)))
  ]

  pub abort : Counted c a
  unfolding after_abort
  abort = assumption (
    abort_terms,
    abort_next,
    abort_no_walk,
    abort_no_marks,
    abort_nothing,
    abort_waits,
    abort_self_aborted,
    abort_alone,
    h,
  )
