-- Countings out and in, ends and halts keep the facts of counting.
use Rattle.std.proofs.Common.{◌≡◌, ◌≢◌, ℕ, zero, suc, ◌+◌, ◌<◌, ◌≤◌, true, false, cond, eqb, List, [], ◌∷◌, Option, Some, None, refl, sym, ap, inl, inr, arith, eq-eqb, subst, ◌∙◌}
use Rattle.std.proofs.lemmas.Bool.{cases_eq, ne_eqb}
use Rattle.lock_model.specs.Config.{Config}
use Rattle.lock_model.specs.Counts.{one, at_option, sum_below}
use Rattle.lock_model.specs.Queues.{Mark}
use Rattle.lock_state.specs.State.{State, Wait, Running, Queued, Woken, Phase, Awake, Asleep, Last, Halting, Aborting, SelfAborted, is_parked, is_finder, put, put_at}
use Rattle.lock_state.specs.Steps.LockWords.{is_woken}
use Rattle.lock_state.specs.Steps.Items.{Item, RecordOf, item_with}
use Rattle.lock_state.specs.Steps.Counting.{IsFirst, MayCountOut, MayCountIn, MayCountSelfIn, MayCountEnd, MayHalt, after_count_out, after_count_in, after_count_self_in, after_count_end, after_halt, phase_out}
use Rattle.lock_state.specs.Facts.{Lawful, LawfulFloor, QueuedHasRecord, Counted, AwakeIsCounted, TermsFitParking, CountedInIsNextMarked, ParkedHasNoWalk, RestingHasNoMarks, ParkedHasNothingOut, RestingStands, SelfAbortedIsWoken, EndedRuns, EndedIsBare, EndedIsCounted, FinderIsAlone}
use Rattle.lock_state.specs.Facts.Counts.{own_term, is_at_rest, wakes_under_way, times_counted_in}
use Rattle.lock_laws.proofs.Kit.{columns, put_same, put_other, sum_below-put, sum_below-put_at, sum_below-put_beside, sum_below-at, sum_below-two, sum_below-change, sum_below-same}
use Rattle.lock_laws.proofs.Standing.{marked_thread}
use Rattle.lock_laws.proofs.Sums.{sum_below-add}

pub sum_below-suc : (n : ℕ) (f : ℕ → ℕ) → sum_below n (λ j. suc (f j)) ≡ n + sum_below n f
unfolding sum_below
sum_below-suc zero f = refl
sum_below-suc (suc n) f = omega (arith, sum_below-suc n f)

-- 1. What follows from the facts

-- a thread that is neither parked nor aborted itself counts of itself
pub own_one : (p : Phase) → is_parked p ≡ false → (p ≡ SelfAborted → ⊥) → own_term p ≡ 1
own_one p e f = grind arith

own_term_of : (c : Config) (s : State) (t : ℕ) → MayCountOut c s t → own_term (s.phase t) ≡ 1
own_term_of c s t g = own_one (s.phase t) g.unparked g.unaborted

pub finder_rests : (p : Phase) → is_finder p ≡ true → is_at_rest p ≡ true
finder_rests p e = grind arith

module _ (c : Config) (s : State) (h : Counted c s) where
  abbrev pub term : ℕ → ℕ
  term t = own_term (s.phase t) + wakes_under_way c s.wait s.counting t

  -- the awake count is the sum of the terms
  pub awake_sum : s.awake ≡ sum_below c.threads term
  unfolding AwakeIsCounted TermsFitParking
  awake_sum =
      let a = sum_below-suc c.threads (times_counted_in c s.counted_in) in
      let b = sum_below-same c.threads (λ t. suc (times_counted_in c s.counted_in t)) (λ t. s.counted_out t + term t)
      (λ t l. omega (arith, h.terms_fit_parking t)) in
      let d = sum_below-add c.threads s.counted_out term in
      omega (arith, h.awake_is_counted)

  -- a thread that is not parked while there is a finder is the finder
  pub only_finder : (f t : ℕ) → is_finder (s.phase f) ≡ true → t < c.threads → is_parked (s.phase t) ≡ false → f ≡ t
  unfolding FinderIsAlone
  only_finder f t e lt p =
      elim (cases_eq f t) [ inl i ↦ i | inr i ↦ absurd (let z = ap is_parked ((h.finder_is_alone f t e lt).1 i) in cc) ]

  -- so there is none while another thread acts
  pub no_finder : (t : ℕ) → t < c.threads → s.phase t ≡ Awake → (f : ℕ) → is_finder (s.phase f) ≡ true → ⊥
  no_finder t lt p f e = let i = only_finder f t e lt (ap is_parked p) in let z : is_finder (s.phase t) ≡ true =
      rw (← i) e in let y = ap is_finder p in cc

-- 2. Counting out

out_weight : (n : ℕ) → own_term (phase_out n) ≡ 0
out_weight n = elim (eqb n 1) as (λ b. own_term (cond b Last Asleep) ≡ 0) [ true ↦ refl | false ↦ refl ]

out_parked : (n : ℕ) → is_parked (phase_out n) ≡ true
out_parked n = elim (eqb n 1) as (λ b. is_parked (cond b Last Asleep) ≡ true) [ true ↦ refl | false ↦ refl ]

out_finder : (n : ℕ) → is_finder (phase_out n) ≡ true → n ≡ 1
out_finder n e = grind arith

out_unaborted : (n : ℕ) → phase_out n ≡ SelfAborted → ⊥
out_unaborted n e = let z = ap is_parked e in let y = out_parked n in cc

module _ (c : Config) (s : State) (t : ℕ) (g : MayCountOut c s t)
    (nothing_out : (i : Item) → item_with s i ≡ Some t → ⊥) (l : LawfulFloor c s) (h : Counted c s) where
  abbrev n : State
  n = after_count_out s t

  pub some_awake : 1 ≤ s.awake
  some_awake =
      let a = sum_below-at c.threads (term c s h) t g.thread in
      omega (arith, awake_sum c s h, own_term_of c s t g)

  out_awake : AwakeIsCounted c n.awake n.counted_out n.counted_in
  unfolding after_count_out AwakeIsCounted
  out_awake =
      let d = sum_below-put c.threads (λ x. x) s.counted_out t (suc (s.counted_out t)) g.thread in
      omega (arith, h.awake_is_counted, some_awake)

  out_terms : TermsFitParking c n.counted_out n.counted_in n.phase n.wait n.counting
  unfolding after_count_out TermsFitParking
  out_terms u = grind (arith, columns, h.terms_fit_parking u, own_term_of c s t g, out_weight s.awake)

  out_no_walk : ParkedHasNoWalk n.phase n.walk
  unfolding after_count_out ParkedHasNoWalk
  out_no_walk u = grind (arith, columns, h.parked_has_no_walk u, g.no_walk)

  out_no_marks : RestingHasNoMarks n.phase n.marked
  unfolding after_count_out RestingHasNoMarks
  out_no_marks u = grind (arith, columns, h.resting_has_no_marks u, g.unmarked)

  out_nothing : ParkedHasNothingOut n.phase n.turnstile_chain_with n.sleep_chain_with n.record_with n.cell_with
      n.graph_with
  unfolding after_count_out ParkedHasNothingOut
  out_nothing u i p = elim (cases_eq t u) [
    | inl e ↦ λ x. nothing_out i (x ∙ ap Some (sym e))
    | inr e ↦ h.parked_has_nothing_out u i (ap is_parked (sym (put_other s.phase t (phase_out s.awake) u e)) ∙ p)
  ]

  own_stands : s.has_ended t ≡ false → s.blocked_on t ≡ None → is_woken (s.wait t) ≡ true
  unfolding QueuedHasRecord
  own_stands alive e = go (s.wait t) refl
    where
      go : (w : Wait) → s.wait t ≡ w → is_woken w ≡ true
      go Running i = absurd (g.waits alive i)
      go Queued i = absurd (nothing_out (RecordOf t) (l.queued_has_record t i e))
      go (Woken q cause) i = refl

  out_waits : RestingStands n.phase n.has_ended n.blocked_on n.wait
  unfolding after_count_out RestingStands
  out_waits u p f e = elim (cases_eq t u) [
    | inl x ↦ subst (λ k. is_woken (s.wait k) ≡ true) x (own_stands (ap s.has_ended x ∙ f) (ap s.blocked_on x ∙ e))
    | inr x ↦ h.resting_stands u (ap is_at_rest (sym (put_other s.phase t (phase_out s.awake) u x)) ∙ p) f e
  ]

  out_self_aborted : SelfAbortedIsWoken n.phase n.wait
  unfolding after_count_out SelfAbortedIsWoken
  out_self_aborted u = grind (arith, columns, h.self_aborted_is_woken u, out_unaborted s.awake)

  -- where the last one counts itself out, no other is awake or about to be
  others_rest : s.awake ≡ 1 → (u : ℕ) → u < c.threads → (wakes_under_way c s.wait s.counting u ≡ 0)
      × (t ≢ u → s.phase u ≡ Asleep)
  unfolding FinderIsAlone SelfAbortedIsWoken wakes_under_way
  others_rest e u lt =
      elim (cases_eq t u) [
        | inl i ↦
            let a = sum_below-at c.threads (term c s h) t g.thread in
            let z : wakes_under_way c s.wait s.counting t ≡ 0 = omega (arith, awake_sum c s h, own_term_of c s t g) in
            (rw (← i) z, λ n. absurd (n i))
        | inr i ↦
            let a = sum_below-two c.threads (term c s h) t u g.thread lt i in
            let z : wakes_under_way c s.wait s.counting u ≡ 0 = omega (arith, awake_sum c s h, own_term_of c s t g) in
            let w : own_term (s.phase u) ≡ 0 = omega (arith, awake_sum c s h, own_term_of c s t g) in
            (z, λ n. asleep (s.phase u) refl w z)
      ]
    where
      asleep : (p : Phase) → s.phase u ≡ p → own_term p ≡ 0 → wakes_under_way c s.wait s.counting u ≡ 0 → p ≡ Asleep
      asleep Asleep i w z = refl
      asleep Last i w z = absurd
          (let x = only_finder c s h u t (ap is_finder i) g.thread g.unparked in
          let y : own_term (s.phase t) ≡ 0 = rw (← x) (ap own_term i) in omega (arith, own_term_of c s t g))
      asleep SelfAborted i w z = absurd (let x = ap one (h.self_aborted_is_woken u i) in omega arith)
      asleep Awake i w z = absurd (omega arith)
      asleep Halting i w z = absurd (omega arith)
      asleep Aborting i w z = absurd (omega arith)

  out_alone : FinderIsAlone c n.phase n.wait n.counting
  unfolding after_count_out FinderIsAlone
  out_alone f u e lt =
      elim (cases_eq t f) [
        | inl i ↦
            let one_left : s.awake ≡ 1 =
            out_finder s.awake (ap is_finder
            (sym (put_same s.phase t (phase_out s.awake)) ∙ ap (put s.phase t (phase_out s.awake)) i) ∙ e) in
            let r = others_rest one_left u lt in
            (r.0, λ ne. put_other s.phase t (phase_out s.awake) u (λ x. ne (sym i ∙ x)) ∙ r.1 (λ x. ne (sym i ∙ x)))
        | inr i ↦ absurd (
            let x = only_finder c s h f t (ap is_finder (sym (put_other s.phase t (phase_out s.awake) f i)) ∙ e)
            g.thread g.unparked in i (sym x))
      ]

  pub out_counted : Counted c n
  unfolding after_count_out
  out_counted = assumption
      (out_awake, out_terms, out_no_walk, out_no_marks, out_nothing, out_waits, out_self_aborted, out_alone, h)

-- 3. Counting in

-- one more by t of u
module _ (c : Config) (f : ℕ → ℕ → ℕ) (t u : ℕ) (lt : t < c.threads) where
  more_of_it : times_counted_in c (put_at f t u (suc (f t u))) u ≡ suc (times_counted_in c f u)
  unfolding times_counted_in
  more_of_it = omega (arith, sum_below-put_at c.threads (λ x. x) f t u (suc (f t u)) lt)

  same_of : (v : ℕ) → (u ≡ v → ⊥) → times_counted_in c (put_at f t u (suc (f t u))) v ≡ times_counted_in c f v
  unfolding times_counted_in
  same_of v ne = sum_below-put_beside c.threads (λ x. x) f t u (suc (f t u)) v ne

  more_in_all : u < c.threads
      → sum_below c.threads (times_counted_in c (put_at f t u (suc (f t u)))) ≡ suc
      (sum_below c.threads (times_counted_in c f))
  more_in_all l = omega (
    arith,
    more_of_it,
    sum_below-change c.threads (times_counted_in c (put_at f t u (suc (f t u))))
        (times_counted_in c f) u l same_of,
  )

module _ (c : Config) (s : State) (t u : ℕ) (g : MayCountIn c s t u) (record_out : s.record_with u ≡ Some t)
    (l : Lawful c s) (h : Counted c s) where
  abbrev i : State
  i = after_count_in s t u

  first_is : (ms : List Mark) → s.marked t ≡ ms → IsFirst u ms → u < c.threads
  first_is [] e f = absurd f
  first_is (m ∷ ms) e f = rw (← f) (marked_thread c s t m ms l g.thread e)

  its_thread : u < c.threads
  its_thread = first_is (s.marked t) refl g.first

  in_awake : AwakeIsCounted c i.awake i.counted_out i.counted_in
  unfolding after_count_in AwakeIsCounted
  in_awake = omega (arith, h.awake_is_counted, more_in_all c s.counted_in t u g.thread its_thread)

  in_terms : TermsFitParking c i.counted_out i.counted_in i.phase i.wait i.counting
  unfolding after_count_in TermsFitParking wakes_under_way
  in_terms v =
      let a = sum_below-put c.threads (at_option v) s.counting t (Some u) g.thread in
      let b = ap (at_option v) g.once in
      elim (cases_eq u v) [
        | inl e ↦ let z : one (eqb v u) ≡ 1 = ap one (eq-eqb v u (sym e)) in let y =
            subst (λ k. times_counted_in c (put_at s.counted_in t u (suc (s.counted_in t u))) k ≡ suc
            (times_counted_in c s.counted_in k)) e (more_of_it c s.counted_in t u g.thread) in
            omega (arith, h.terms_fit_parking v)
        | inr e ↦ let z : one (eqb v u) ≡ 0 = ap one (ne_eqb v u (λ x. e (sym x))) in let y =
            same_of c s.counted_in t u g.thread v e in omega (arith, h.terms_fit_parking v)
      ]

  in_next : CountedInIsNextMarked i.counting i.marked i.record_with
  unfolding after_count_in CountedInIsNextMarked
  in_next v w e = elim (cases_eq t v) [
    | inl x ↦ let z : Some u ≡ Some w = sym (put_same s.counting t (Some u)) ∙ ap (put s.counting t (Some u)) x
        ∙ e in go w z v x
    | inr x ↦ h.counted_in_is_next_marked v w (sym (put_other s.counting t (Some u) v x) ∙ e)
  ]
    where
      go : (w : ℕ) → ◌≡◌ {A = Option ℕ} (Some u) (Some w) → (v : ℕ) → t ≡ v → IsFirst w (s.marked v) × (v ≢ w)
          × (s.record_with w ≡ Some v)
      go w z v x = grind arith

  in_alone : FinderIsAlone c i.phase i.wait i.counting
  unfolding after_count_in FinderIsAlone RestingHasNoMarks
  in_alone f v e lt =
      let x = only_finder c s h f t e g.thread g.unparked in
      let z = h.resting_has_no_marks f (finder_rests (s.phase f) e) in
      absurd (let y : IsFirst u (s.marked f) = rw x g.first in rw z at y)

  pub in_counted : Counted c i
  unfolding after_count_in
  in_counted = assumption (in_awake, in_terms, in_next, in_alone, h)

-- 4. A finder counts itself in

module _ (c : Config) (s : State) (t : ℕ) (g : MayCountSelfIn c s t) (h : Counted c s) where
  abbrev b : State
  b = after_count_self_in s t

  back_awake : AwakeIsCounted c b.awake b.counted_out b.counted_in
  unfolding after_count_self_in AwakeIsCounted
  back_awake = omega (arith, h.awake_is_counted, more_in_all c s.counted_in t t g.thread g.thread)

  back_terms : TermsFitParking c b.counted_out b.counted_in b.phase b.wait b.counting
  unfolding after_count_self_in TermsFitParking
  back_terms v =
      elim (cases_eq t v) [
        | inl e ↦ rw (← e, put_same s.phase t Halting)
            (let x = ap own_term g.last in omega (arith, h.terms_fit_parking t, more_of_it c s.counted_in t t g.thread))
        | inr e ↦ rw (put_other s.phase t Halting v e)
            (omega (arith, h.terms_fit_parking v, same_of c s.counted_in t t g.thread v e))
      ]

  back_no_walk : ParkedHasNoWalk b.phase b.walk
  unfolding after_count_self_in ParkedHasNoWalk
  back_no_walk u = grind (arith, columns, h.parked_has_no_walk u)

  back_no_marks : RestingHasNoMarks b.phase b.marked
  unfolding after_count_self_in RestingHasNoMarks
  back_no_marks u = grind (arith, columns, h.resting_has_no_marks u, ap is_at_rest g.last)

  back_nothing : ParkedHasNothingOut b.phase b.turnstile_chain_with b.sleep_chain_with b.record_with b.cell_with
      b.graph_with
  unfolding after_count_self_in ParkedHasNothingOut
  back_nothing u j p = elim (cases_eq t u) [
    | inl e ↦ absurd (let z = ap is_parked (sym (put_same s.phase t Halting) ∙ ap (put s.phase t Halting) e) in cc)
    | inr e ↦ h.parked_has_nothing_out u j (ap is_parked (sym (put_other s.phase t Halting u e)) ∙ p)
  ]

  back_waits : RestingStands b.phase b.has_ended b.blocked_on b.wait
  unfolding after_count_self_in RestingStands
  back_waits u = grind (arith, columns, h.resting_stands u, ap is_at_rest g.last)

  back_self_aborted : SelfAbortedIsWoken b.phase b.wait
  unfolding after_count_self_in SelfAbortedIsWoken
  back_self_aborted u = grind (arith, columns, h.self_aborted_is_woken u)

  back_alone : FinderIsAlone c b.phase b.wait b.counting
  unfolding after_count_self_in FinderIsAlone
  back_alone f u e lt =
      let mine = h.finder_is_alone t u (ap is_finder g.last) lt in
      elim (cases_eq t f) [
        | inl x ↦ (mine.0, λ ne. put_other s.phase t Halting u (λ y. ne (sym x ∙ y)) ∙ mine.1 (λ y. ne (sym x ∙ y)))
        | inr x ↦ absurd (let
            z = (h.finder_is_alone f t (ap is_finder (sym (put_other s.phase t Halting f x)) ∙ e) g.thread).1
            (λ y. x (sym y)) in let w = ap is_finder (sym g.last ∙ z) in cc)
      ]

  pub back_counted : Counted c b
  unfolding after_count_self_in
  back_counted = assumption
      (back_awake, back_terms, back_no_walk, back_no_marks, back_nothing, back_waits, back_self_aborted, back_alone, h)

-- 5. An end, and a halt

module _ (c : Config) (s : State) (t : ℕ) (g : MayCountEnd c s t) (h : Counted c s) where
  abbrev e : State
  e = after_count_end s t

  end_waits : RestingStands e.phase e.has_ended e.blocked_on e.wait
  unfolding after_count_end RestingStands
  end_waits u = grind (arith, columns, h.resting_stands u)

  end_runs : EndedRuns e.has_ended e.wait
  unfolding after_count_end EndedRuns
  end_runs u = grind (arith, columns, h.ended_runs u, g.running)

  end_ended : EndedIsCounted c e.ended e.has_ended
  unfolding after_count_end EndedIsCounted
  end_ended =
      let a = sum_below-put c.threads one s.has_ended t true g.thread in
      let b = ap one g.alive in
      omega (arith, h.ended_is_counted)

  end_bare : EndedIsBare e.has_ended e.held e.wanted
  unfolding after_count_end EndedIsBare
  end_bare u f = grind (arith, columns)

  pub end_counted : Counted c e
  unfolding after_count_end
  end_counted = assumption (end_bare, end_waits, end_runs, end_ended, h)

pub halt_counted : (c : Config) (s : State) (t : ℕ) → MayHalt c s t → Counted c s → Counted c (after_halt s)
unfolding after_halt
halt_counted c s t g h = assumption h
