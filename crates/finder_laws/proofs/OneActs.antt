-- While there is a finder each step is its own: every other thread is parked, and of those that are parked one steps
-- only where it was woken, or is the last. And a thread's phase changes by its own steps alone.
use Rattle.std.proofs.Common.{◌≡◌, ◌≢◌, ◌⊎◌, ℕ, ◌<◌, Bool, true, false, refl, sym, ap, inl, inr, arith, ◌∙◌}
use Rattle.std.proofs.lemmas.Bool.{cases_eq}
use Rattle.lock_laws.proofs.Kit.{put_other}
use Rattle.lock_model.specs.Config.{Config}
use Rattle.lock_model.specs.Counts.{one}
use Rattle.lock_model.specs.Queues.{Cause}
use Rattle.lock_model.specs.declared.plan.QueueName.{QueueName}
use Rattle.lock_state.specs.Facts.{Counted, FinderIsAlone}
use Rattle.lock_state.specs.Facts.Counts.{wakes_under_way}
use Rattle.lock_state.specs.State.{State, Phase, Awake, Asleep, Last, Halting, is_finder, is_parked, Woken}
use Rattle.lock_state.specs.Steps.Counting.{phase_out, after_count_out, after_count_in, after_count_self_in, after_count_end, after_halt}
use Rattle.lock_state.specs.Steps.Items.{after_take, after_give}
use Rattle.lock_state.specs.Steps.Lending.{after_claim, after_lend, after_shift, after_end_walk}
use Rattle.lock_state.specs.Steps.LockWords.{is_woken, after_seek, after_look, after_gain, after_drop, after_stamp, after_ready, after_unready}
use Rattle.lock_state.specs.Steps.Orders.{after_admit, after_refuse}
use Rattle.lock_state.specs.Steps.SleepQueues.{phase_aborting, after_enter_sleep, after_open_sleep, after_add, after_wake, after_abort}
use Rattle.lock_state.specs.Steps.Turnstiles.{phase_marked, after_enter, after_open, after_mark, after_resume}
use Rattle.lock_state.specs.Steps.{Step, Seeks, Looks, TakesItem, GivesItem, Gains, Drops, Stamps, Readies, Unreadies, Enters, Opens, EntersSleepQueue, OpensSleepQueue, Adds, Wakes, Marks, Resumes, Claims, Lends, Shifts, EndsWalk, Admits, Refuses, CountsOut, CountsIn, CountsSelfIn, CountsEnd, Halts, Aborts, IsRunnable, IsHalting, is_halting, FitsFloor, after, maker}

-- 1. A thread that is asleep makes no step but its resume

awake_not : (s : State) (t : ℕ) → IsRunnable s t → s.phase t ≡ Asleep → ⊥
awake_not s t a e = let z : Awake ≡ Asleep = sym a.phase ∙ e in cc

halting_not : (s : State) (t : ℕ) → IsHalting s t → s.phase t ≡ Asleep → ⊥
halting_not s t h e = let z : true ≡ false = sym h ∙ ap is_halting e in cc

either_not : (s : State) (t : ℕ) → IsRunnable s t ⊎ IsHalting s t → s.phase t ≡ Asleep → ⊥
either_not s t (inl a) = awake_not s t a
either_not s t (inr h) = halting_not s t h

taking_not : (s : State) (t : ℕ) (b : Bool) → IsRunnable s t ⊎ (IsHalting s t × (b ≡ true)) → s.phase t ≡ Asleep → ⊥
taking_not s t b (inl a) = awake_not s t a
taking_not s t b (inr h) = halting_not s t h.0

unparked_not : (s : State) (t : ℕ) → is_parked (s.phase t) ≡ false → s.phase t ≡ Asleep → ⊥
unparked_not s t u e = let z : false ≡ true = sym u ∙ ap is_parked e in cc

-- 2. So each step is the finder's

module _ (chains : ℕ) (c : Config) (s : State) (f : ℕ) (h : Counted c s) (e : is_finder (s.phase f) ≡ true) where
  -- another is asleep
  by_asleep : (t : ℕ) → t < c.threads → (s.phase t ≡ Asleep → ⊥) → t ≡ f
  unfolding FinderIsAlone
  by_asleep t lt away = elim (cases_eq t f) [
    | inl x ↦ x
    | inr ne ↦ absurd (away ((h.finder_is_alone f t e lt).1 (λ x. ne (sym x))))
  ]

  -- and unwoken, as the finder is itself
  none_woken : (t : ℕ) (q : QueueName) (cause : Cause) → t < c.threads → s.wait t ≡ Woken q cause → ⊥
  unfolding FinderIsAlone wakes_under_way
  none_woken t q cause lt woken =
      let z = (h.finder_is_alone f t e lt).0 in
      let y : one (is_woken (s.wait t)) ≡ 1 = ap (λ w. one (is_woken w)) woken in
      omega (arith, z, y)

  pub steps_alone : (step : Step) → FitsFloor chains c s step → maker step ≡ f
  steps_alone (Seeks t l by_try) g = by_asleep t g.may.thread (awake_not s t g.asks_of_thread.runs)
  steps_alone (Looks t l counts) g = by_asleep t g.may.thread (either_not s t g.asks_of_thread.runs)
  steps_alone (TakesItem t i) g = by_asleep t g.may.thread (taking_not s t _ g.asks_of_thread.runs)
  steps_alone (GivesItem t i) g = by_asleep t g.may.thread (unparked_not s t g.asks_of_thread.unparked)
  steps_alone (Gains t l mode by_try) g = by_asleep t g.may.thread (awake_not s t g.asks_of_thread.runs)
  steps_alone (Drops t l mode) g = by_asleep t g.may.thread (awake_not s t g.asks_of_thread.runs)
  steps_alone (Stamps t event) g = by_asleep t g.may.thread (awake_not s t g.asks_of_thread.runs)
  steps_alone (Readies t q) g = by_asleep t g.may.thread (awake_not s t g.asks_of_thread.runs)
  steps_alone (Unreadies t q) g = by_asleep t g.may.thread (awake_not s t g.asks_of_thread.runs)
  steps_alone (Enters t l mode x) g = by_asleep t g.may.waits.thread (awake_not s t g.asks_of_thread.runs)
  steps_alone (Opens t l mode) g = by_asleep t g.may.releases.thread (awake_not s t g.asks_of_thread.runs)
  steps_alone (EntersSleepQueue t l mode x) g = by_asleep t g.may.waits.thread (awake_not s t g.asks_of_thread.runs)
  steps_alone (OpensSleepQueue t l mode) g = by_asleep t g.may.releases.thread (awake_not s t g.asks_of_thread.runs)
  steps_alone (Adds t d x) g = by_asleep t g.may.thread (awake_not s t g.asks_of_thread)
  steps_alone (Wakes t d all) g = by_asleep t g.may.thread (awake_not s t g.asks_of_thread.runs)
  steps_alone (Marks t m ms) g = by_asleep t g.may.thread (either_not s t g.asks_of_thread.runs)
  steps_alone (Resumes t q cause) g = absurd (none_woken t q cause g.may.thread g.may.woken)
  steps_alone (Claims t l x by_try) g = by_asleep t g.may.thread (awake_not s t g.asks_of_thread.runs)
  steps_alone (Lends t l o x) g = by_asleep t g.may.thread (awake_not s t g.asks_of_thread.runs)
  steps_alone (Shifts t o l) g = by_asleep t g.may.thread (awake_not s t g.asks_of_thread.runs)
  steps_alone (EndsWalk t) g = by_asleep t g.may.thread (awake_not s t g.asks_of_thread.runs)
  steps_alone (Admits t l) g = by_asleep t g.may.free.thread (awake_not s t g.asks_of_thread.runs)
  steps_alone (Refuses t l class) g = by_asleep t g.may.free.thread (awake_not s t g.asks_of_thread.runs)
  steps_alone (CountsOut t) g = by_asleep t g.may.thread (unparked_not s t g.asks_of_thread.unparked)
  steps_alone (CountsIn t u) g = by_asleep t g.may.thread (either_not s t g.asks_of_thread.runs)
  steps_alone (CountsSelfIn t) g = by_asleep t g.may.thread (λ x. let z : Last ≡ Asleep = sym g.may.last ∙ x in cc)
  steps_alone (CountsEnd t) g = by_asleep t g.may.thread (awake_not s t g.asks_of_thread.runs)
  steps_alone (Halts t) g = by_asleep t g.may.thread (halting_not s t g.asks_of_thread.halting)
  steps_alone (Aborts t q side u) g = by_asleep t g.may.thread (halting_not s t g.asks_of_thread.halting)

-- 3. Steps of another leave a thread's phase

pub phase_stays : (c : Config) (s : State) (t : ℕ) (step : Step) → maker step ≢ t
    → (after c s step).phase t ≡ s.phase t
unfolding after_seek after_look after_gain after_drop after_stamp after_ready after_unready after_enter after_open
    after_mark after_resume after_enter_sleep after_open_sleep after_add after_wake after_claim after_lend after_shift
    after_end_walk after_admit after_refuse after_count_out after_count_in after_count_self_in after_count_end
    after_halt after_abort after_take after_give
phase_stays c s t (Marks u m ms) ne = put_other s.phase u (phase_marked u m.thread (s.phase u)) t ne
phase_stays c s t (Resumes u q cause) ne = put_other s.phase u Awake t ne
phase_stays c s t (CountsOut u) ne = put_other s.phase u (phase_out s.awake) t ne
phase_stays c s t (CountsSelfIn u) ne = put_other s.phase u Halting t ne
phase_stays c s t (Aborts u q side w) ne = put_other s.phase u (phase_aborting (s.phase u)) t ne
phase_stays c s t other ne = refl
