-- What the facts of counting say of a moment at which nobody is awake, and of a finder.
use Rattle.std.proofs.Common.{◌≡◌, ℕ, zero, suc, ◌+◌, ◌<◌, ◌≤◌, true, false, List, [], ◌∷◌, Option, Some, None, refl, sym, ap, inl, inr, arith, ◌∙◌}
use Rattle.std.proofs.lemmas.Bool.{cases_eq}
use Rattle.std.proofs.lemmas.Option.{same_Some}
use Rattle.lock_model.specs.Config.{Config}
use Rattle.lock_model.specs.Counts.{one, at_option, sum_below}
use Rattle.lock_model.specs.Queues.{Mark}
use Rattle.lock_model.specs.declared.plan.QueueName.{QueueName}
use Rattle.lock_state.specs.State.{State, Wait, Running, Queued, Woken, Phase, is_finder}
use Rattle.lock_state.specs.Steps.LockWords.{is_woken}
use Rattle.lock_state.specs.Steps.Counting.{IsFirst}
use Rattle.lock_state.specs.Facts.{Lawful, StandsOnce, StandingIsQueued, Counted, TermsFitParking, CountedInIsNextMarked, RestingHasNoMarks, RestingStands, FinderIsAlone}
use Rattle.lock_state.specs.Facts.Counts.{own_term, is_at_rest, wakes_under_way, times_counted_in}
use Rattle.lock_state.specs.Facts.Waits.{times_marked, at_queue}
use Rattle.sleep_laws.proofs.SleepFacts.Found.{sum_below-some}
use Rattle.lock_laws.proofs.Kit.{sum_below-zero, is_queue_same, at_option_one}
use Rattle.lock_laws.proofs.Standing.{marked_named}
use Rattle.lock_laws.proofs.Sums.{sum_below-single, zero_unless}
use Rattle.count_laws.specs.Standing.{StandsOnQueue}
use Rattle.count_laws.proofs.Countings.{finder_rests, term, awake_sum}

module _ (c : Config) (s : State) (l : Lawful c s) (h : Counted c s) (f : ℕ) (e : is_finder (s.phase f) ≡ true) where
  -- while there is a finder, nobody is in a marked list
  pub no_marks : (t : ℕ) → t < c.threads → s.marked t ≡ []
  unfolding RestingHasNoMarks FinderIsAlone
  no_marks t lt = elim (cases_eq f t) [
    | inl x ↦ h.resting_has_no_marks t (finder_rests (s.phase t) (ap (λ k. is_finder (s.phase k)) (sym x) ∙ e))
    | inr x ↦ h.resting_has_no_marks t (ap is_at_rest ((h.finder_is_alone f t e lt).1 x))
  ]

  pub resting : (u : ℕ) → u < c.threads → is_at_rest (s.phase u) ≡ true
  unfolding FinderIsAlone
  resting u lt = elim (cases_eq f u) [
    | inl x ↦ finder_rests (s.phase u) (ap (λ k. is_finder (s.phase k)) (sym x) ∙ e)
    | inr x ↦ ap is_at_rest ((h.finder_is_alone f u e lt).1 x)
  ]

  -- and each thread has ended or stands on a queue
  pub all_stand : (u : ℕ) → u < c.threads → s.has_ended u ≡ false → StandsOnQueue s u
  unfolding FinderIsAlone RestingStands wakes_under_way StandsOnce
  all_stand u lt alive = by_named (s.blocked_on u) refl
    where
      rests : is_at_rest (s.phase u) ≡ true
      rests = grind arith

      by_named : (o : Option QueueName) → s.blocked_on u ≡ o → StandsOnQueue s u
      by_named None i = absurd
          (let z = ap one (h.resting_stands u rests alive i) in let y = (h.finder_is_alone f u e lt).0 in omega arith)
      by_named (Some q) i =
          let z = sum_below-zero c.threads (λ v. times_marked u q (s.marked v))
          (λ v k. ap (times_marked u q) (no_marks v k)) in
          let y = ap (at_queue q) i in
          let o = ap one (is_queue_same q) in
          record { queue = q; named = i; stands = omega (arith, l.waits.stands_once u q) }

-- a thread's term is 0 or 1 where it is parked, and 1 or 2 where it is not: no two wakes of it are under way
module _ (c : Config) (s : State) (l : Lawful c s) (h : Counted c s) (t : ℕ) where
  first_queued : (v : ℕ) → v < c.threads → (ms : List Mark) → s.marked v ≡ ms → IsFirst t ms → s.wait t ≡ Queued
  unfolding StandingIsQueued
  first_queued v lt [] e f = absurd f
  first_queued v lt (m ∷ ms) e f =
      rw (← f) (l.waits.standing_is_queued m.thread m.queue (marked_named c s v m ms l lt e))

  its_record : (v : ℕ) → 1 ≤ at_option t (s.counting v) → s.record_with t ≡ Some v
  unfolding CountedInIsNextMarked
  its_record v i = (h.counted_in_is_next_marked v t (at_option_one t (s.counting v) i)).2

  counter_queued : (v : ℕ) → v < c.threads → 1 ≤ at_option t (s.counting v) → s.wait t ≡ Queued
  unfolding CountedInIsNextMarked
  counter_queued v lt i =
      first_queued v lt (s.marked v) refl (h.counted_in_is_next_marked v t (at_option_one t (s.counting v) i)).0

  at_most : (o : Option ℕ) → at_option t o ≤ 1
  at_most o = grind arith

  counters : sum_below c.threads (λ v. at_option t (s.counting v)) ≤ 1
  counters = go (sum_below c.threads (λ v. at_option t (s.counting v))) refl
    where
      single : (v : ℕ) → 1 ≤ at_option t (s.counting v) → sum_below c.threads (λ w. at_option t (s.counting w)) ≤ 1
      single v i =
          let a = sum_below-single c.threads (λ w. at_option t (s.counting w)) v
          (λ w ne. zero_unless (at_option t (s.counting w))
          (λ j. ne (same_Some v w (sym (its_record v i) ∙ its_record w j)))) in
          omega (arith, at_most (s.counting v))

      go : (k : ℕ) → sum_below c.threads (λ v. at_option t (s.counting v)) ≡ k
          → sum_below c.threads (λ v. at_option t (s.counting v)) ≤ 1
      go zero e = omega arith
      go (suc k) e = let r = sum_below-some c.threads (λ v. at_option t (s.counting v)) (omega arith) in single r.0 r.2

  pub one_wake : wakes_under_way c s.wait s.counting t ≤ 1
  unfolding wakes_under_way
  one_wake = go (s.wait t) refl
    where
      woken_none : is_woken (s.wait t) ≡ true → sum_below c.threads (λ v. at_option t (s.counting v)) ≡ 0
      woken_none e = sum_below-zero c.threads (λ v. at_option t (s.counting v))
          (λ v lt. zero_unless (at_option t (s.counting v))
          (λ i. let z = sym e ∙ ap is_woken (counter_queued v lt i) in cc))

      go : (w : Wait) → s.wait t ≡ w
          → one (is_woken (s.wait t)) + sum_below c.threads (λ v. at_option t (s.counting v)) ≤ 1
      go Running e = let z = ap one (ap is_woken e) in omega (arith, counters)
      go Queued e = let z = ap one (ap is_woken e) in omega (arith, counters)
      go (Woken q cause) e = let z = ap one (ap is_woken e) in omega (arith, woken_none (ap is_woken e))

-- so no more than two for each thread are awake
own_few : (p : Phase) → own_term p ≤ 1
own_few p = grind arith

sum_below-few : (n : ℕ) (f : ℕ → ℕ) → ((t : ℕ) → f t ≤ 2) → sum_below n f ≤ n + n
unfolding sum_below
sum_below-few zero f few = omega arith
sum_below-few (suc n) f few = omega (arith, sum_below-few n f few, few n)

pub few_awake : (c : Config) (s : State) → Lawful c s → Counted c s → s.awake ≤ c.threads + c.threads
few_awake c s l h =
    omega (
      arith,
      awake_sum c s h,
      sum_below-few c.threads (term c s h)
          (λ t. omega (arith, own_few (s.phase t), one_wake c s l h t)),
    )
