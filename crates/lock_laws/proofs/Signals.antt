-- Each step keeps it that who is taken off a turnstile is taken off by a signal.
use Rattle.lock_laws.proofs.Names
use Names.{ℕ, true, false, List, [], Option, Some, None, sym, ap, subst, Config, Cause, Waiter, Mark}
use Names.{is_turnstile_queue, dealt, QueueName, State, Wait, Running, Queued, Woken, put, start_state, AreSignals}
use Names.{after_seek, after_look, after_gain, after_drop, after_stamp, after_ready, after_unready, after_enter}
use Names.{after_open, after_mark, after_resume, by_abort, sleeper, after_enter_sleep, after_open_sleep, after_add}
use Names.{after_wake, after_abort, after_claim, after_lend, after_shift, after_end_walk, after_take, after_give}
use Names.{after_admit, after_refuse, after_count_out, after_count_in, after_count_self_in, after_count_end, after_halt}
use Names.{Step, Readies, Unreadies, Opens, OpensSleepQueue, Wakes, Marks, Resumes, Aborts, May, after, IsFloorStep}
use Names.{FitsQueue, FitQueues, MarksFitQueues, WakesFitQueues, TurnstilesSignal}
use Rattle.std.proofs.Common.{◌≡◌, ◌∷◌, ◌∙◌}
use Rattle.lock_laws.proofs.Dealt.{all_signals-dealt}
use Rattle.lock_laws.proofs.Kit.{at_put}

-- 1. Marked lists

signals_fit : (c : Config) (ms : List Mark) → AreSignals ms → FitQueues c ms
signals_fit c [] are = tt
signals_fit c (m ∷ ms) are = (λ turnstile. are.0, signals_fit c ms are.1)

-- those that are aborted stand on a sleep queue
aborted_fit : (c : Config) (q : QueueName) → is_turnstile_queue c q ≡ false → (ws : List Waiter) (xs : List ℕ)
    (h : Option ℕ) → FitQueues c (by_abort (dealt q ws xs h))
aborted_fit c q sleeps [] xs h = tt
aborted_fit c q sleeps (w ∷ ws) [] None = tt
aborted_fit c q sleeps (w ∷ ws) [] (Some h) = (
  λ turnstile. absurd (let z : true ≡ false = sym turnstile ∙ sleeps in cc),
  aborted_fit c q sleeps ws [] None,
)
aborted_fit c q sleeps (w ∷ ws) (x ∷ xs) h = (
  λ turnstile. absurd (let z : true ≡ false = sym turnstile ∙ sleeps in cc),
  aborted_fit c q sleeps ws xs h,
)

module _ (c : Config) (s : State) where
  marks_put : MarksFitQueues c s.marked → (t : ℕ) (ms : List Mark) → FitQueues c ms
      → MarksFitQueues c (put s.marked t ms)
  unfolding MarksFitQueues
  marks_put h t ms fit = at_put (λ u x. FitQueues c x) s.marked t ms fit (λ u ne. h u)

  wakes_put : WakesFitQueues c s.wait → (t : ℕ) (w : Wait)
      → ((q : QueueName) (cause : Cause) → w ≡ Woken q cause → FitsQueue c q cause) → WakesFitQueues c (put s.wait t w)
  unfolding WakesFitQueues
  wakes_put h t w fit =
      at_put (λ u x. (q : QueueName) (cause : Cause) → x ≡ Woken q cause → FitsQueue c q cause) s.wait t w fit
      (λ u ne. h u)

  -- a list whose first is woken
  first_fits : MarksFitQueues c s.marked → (t : ℕ) (m : Mark) (ms : List Mark) → s.marked t ≡ m ∷ ms
      → FitQueues c (m ∷ ms)
  unfolding MarksFitQueues
  first_fits h t m ms is = subst (FitQueues c) is (h t)

woken_is : (q r : QueueName) (cause by : Cause) → Woken q cause ≡ Woken r by → (q ≡ r) × (cause ≡ by)
woken_is q r cause by e = (cc, cc)

marks_kept : (c : Config) (s : State) (step : Step) → May c s step → MarksFitQueues c s.marked
    → MarksFitQueues c (after c s step).marked
unfolding after_seek after_look after_gain after_drop after_stamp after_ready after_unready after_enter after_open
    after_mark after_resume after_enter_sleep after_open_sleep after_add after_wake after_claim after_lend after_shift
    after_end_walk after_admit after_refuse after_count_out after_count_in after_count_self_in after_count_end
    after_halt after_abort after_take after_give
marks_kept c s (Opens t l mode) g h = marks_put c s h t _ (signals_fit c _ (all_signals-dealt _ _ _ _))
marks_kept c s (OpensSleepQueue t l mode) g h = marks_put c s h t _ (signals_fit c _ (all_signals-dealt _ _ _ _))
marks_kept c s (Wakes t d all) g h = marks_put c s h t _ (signals_fit c _ (all_signals-dealt _ _ _ _))
marks_kept c s (Marks t m ms) g h = marks_put c s h t ms (first_fits c s h t m ms g.marked).1
marks_kept c s (Aborts t q side u) g h =
    marks_put c s h t _ (aborted_fit c q g.sleeps (sleeper s u ∷ []) (s.free_list q) (s.head q))
marks_kept c s other g h = h

-- 2. Threads that were woken

wakes_kept : (c : Config) (s : State) (step : Step) → May c s step → MarksFitQueues c s.marked
    → WakesFitQueues c s.wait → WakesFitQueues c (after c s step).wait
unfolding after_seek after_look after_gain after_drop after_stamp after_ready after_unready after_enter after_open
    after_mark after_resume after_enter_sleep after_open_sleep after_add after_wake after_claim after_lend after_shift
    after_end_walk after_admit after_refuse after_count_out after_count_in after_count_self_in after_count_end
    after_halt after_abort after_take after_give
wakes_kept c s (Readies t q) g m h = wakes_put c s h t Queued (λ r cause e. absurd cc)
wakes_kept c s (Unreadies t q) g m h = wakes_put c s h t Running (λ r cause e. absurd cc)
wakes_kept c s (Marks t k ms) g m h =
    wakes_put c s h k.thread (Woken k.queue k.cause) (λ r cause e.
    let same = woken_is k.queue r k.cause cause e in
    λ turnstile. sym same.1
    ∙ (first_fits c s m t k ms g.marked).0 (ap (is_turnstile_queue c) same.0 ∙ turnstile))
wakes_kept c s (Resumes t q cause) g m h = wakes_put c s h t Running (λ r by e. absurd cc)
wakes_kept c s other g m h = h

-- 3. Both

pub begins : (c : Config) → TurnstilesSignal c (start_state c)
unfolding start_state MarksFitQueues WakesFitQueues
begins c = record { marks_fit_queues = λ t. tt; wakes_fit_queues = λ t q cause e. absurd cc }

pub keeps : (chains : ℕ) (c : Config) (s n : State) → IsFloorStep chains c s n → TurnstilesSignal c s
    → TurnstilesSignal c n
keeps chains c s n p h =
    let there : TurnstilesSignal c (after c s p.0) =
    record {
      marks_fit_queues = marks_kept c s p.0 p.1.may h.marks_fit_queues;
      wakes_fit_queues = wakes_kept c s p.0 p.1.may h.marks_fit_queues h.wakes_fit_queues;
    } in
    subst (TurnstilesSignal c) (sym p.2) there
