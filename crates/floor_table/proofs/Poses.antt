-- Where a seat knows that its thread stands on no queue, the thread's record names none, and its turnstile and its
-- sleep queue are at home. What the seat knows and the wait word tell how the thread waits.
use Rattle.std.proofs.Common.{◌≡◌, ◌⊎◌, ◌+◌, ℕ, true, Option, Some, None, refl, sym, ap, inl, inr, ◌∙◌, arith}
use Rattle.std.specs.Option.{IsSome}
use Rattle.lock_model.specs.Config.{Config}
use Rattle.lock_model.specs.Counts.{one, some as count}
use Rattle.lock_model.specs.Queues.{Cause, BySignal, ByAbort, names_turnstile, names_sleep_queue}
use Rattle.lock_model.specs.declared.plan.QueueName.{QueueName}
use Rattle.lock_state.specs.State.{State, Wait, Running, Queued, Woken}
use Rattle.lock_state.specs.Facts.{Lawful, StandingIsQueued, TurnstileIsLent, SleepQueueIsLent}
use Rattle.floor_table.specs.Views.{Pose, Runs, IsReady, StandsOn, is_off_queues}
use Rattle.floor_table.specs.Represents.{wait_number, IsPosed}

off : (p : Pose) (wait : Wait) (o : Option QueueName) → is_off_queues p ≡ true → IsPosed p wait o
    → ((q : QueueName) → o ≡ Some q → wait ≡ Queued) → o ≡ None
off Runs wait None is h standing = refl
off Runs wait (Some q) is h standing = absurd (let z : Running ≡ Queued = sym h ∙ standing q refl in cc)
off IsReady wait o is h standing = h.1
off (StandsOn q) wait o is h standing = absurd cc

one_there : (o : Option ℕ) → count o + 0 ≡ 1 → IsSome o
one_there None e = absurd (omega (arith, e))
one_there (Some n) e = refl

module _ (c : Config) (s : State) (h : Lawful c s) (t : ℕ) where
  pub stands_nowhere : (p : Pose) → is_off_queues p ≡ true → IsPosed p (s.wait t) (s.blocked_on t)
      → s.blocked_on t ≡ None
  unfolding StandingIsQueued
  stands_nowhere p is posed = off p (s.wait t) (s.blocked_on t) is posed (h.waits.standing_is_queued t)

  pub has_turnstile : s.blocked_on t ≡ None → IsSome (s.turnstile t)
  unfolding TurnstileIsLent
  has_turnstile nowhere =
      one_there (s.turnstile t)
      (ap (λ o. count (s.turnstile t) + one (names_turnstile c o)) (sym nowhere) ∙ h.queues.turnstile_is_lent t)

  pub has_sleep_queue : s.blocked_on t ≡ None → IsSome (s.sleep_queue t)
  unfolding SleepQueueIsLent
  has_sleep_queue nowhere =
      one_there (s.sleep_queue t)
      (ap (λ o. count (s.sleep_queue t) + one (names_sleep_queue c o)) (sym nowhere) ∙ h.queues.sleep_queue_is_lent t)

-- the words of wakings by signal and by abort differ, and that of neither is a Queued thread's
one_cause : (q : QueueName) (x y : Cause) → wait_number (Woken q x) ≡ wait_number (Woken q y) → x ≡ y
one_cause q BySignal BySignal e = refl
one_cause q BySignal ByAbort e = absurd (omega (arith, e))
one_cause q ByAbort BySignal e = absurd (omega (arith, e))
one_cause q ByAbort ByAbort e = refl

not_queued : (q : QueueName) (x : Cause) → wait_number (Woken q x) ≡ wait_number Queued → ⊥
not_queued q BySignal e = absurd (omega (arith, e))
not_queued q ByAbort e = absurd (omega (arith, e))

pub one_wait : (p : Pose) (a b : Wait) (on other : Option QueueName) → IsPosed p a on → IsPosed p b other
    → wait_number a ≡ wait_number b → a ≡ b
one_wait Runs a b on other here there e = here ∙ sym there
one_wait IsReady a b on other here there e = here.0 ∙ sym there.0
one_wait (StandsOn q) a b on other here there e = go here there
  where
    Woke : Wait → Type 0
    Woke w = (cause : Cause) × (w ≡ Woken q cause)

    go : ((a ≡ Queued) × (on ≡ Some q)) ⊎ Woke a → ((b ≡ Queued) × (other ≡ Some q)) ⊎ Woke b → a ≡ b
    go (inl x) (inl y) = x.0 ∙ sym y.0
    go (inl x) (inr y) = absurd (not_queued q y.0 (sym (ap wait_number y.1) ∙ sym e ∙ ap wait_number x.0))
    go (inr x) (inl y) = absurd (not_queued q x.0 (sym (ap wait_number x.1) ∙ e ∙ ap wait_number y.0))
    go (inr x) (inr y) =
        let same : x.0 ≡ y.0 = one_cause q x.0 y.0 (sym (ap wait_number x.1) ∙ e ∙ ap wait_number y.1) in
        x.1 ∙ ap (Woken q) same ∙ sym y.1
