-- While there is a finder each thread has ended, or sleeps in the history, or takes a lock of which another has an open
-- section. So a halt that it sets has its causes.
use Rattle.std.proofs.Common.{◌≡◌, ◌≢◌, ◌⊎◌, ℕ, zero, suc, ◌<◌, ◌≤◌, Bool, true, false, not, ◌&&◌, eqb, List, Option, Some, None, refl, sym, ap, inl, inr, arith, eq-eqb, subst, ◌∙◌}
use Rattle.std.proofs.lemmas.Bool.{ne_eqb}
use Rattle.lock_model.specs.Config.{Config}
use Rattle.lock_model.specs.Counts.{one, at_option}
use Rattle.lock_model.specs.Words.{Holder, Free, HeldBy, SharedBy, shows_waiters, sharers}
use Rattle.lock_model.specs.Holds.{Hold, NotHeld, Holds, is_exclusive, is_unheld}
use Rattle.lock_model.specs.Halts.{ends_asleep, is_sleeping, waits_for_another}
use Rattle.lock_model.specs.History.{open_in, entries_of}
use Rattle.lock_model.specs.Law.{is_asleep}
use Rattle.lock_model.specs.Queues.{lock_queue, stands}
use Rattle.lock_model.specs.declared.plan.Mode.{Mode}
use Rattle.lock_model.specs.declared.plan.Mode.TheVariants.{Excl, Shared}
use Rattle.lock_model.specs.declared.plan.QueueName.{QueueName}
use Rattle.lock_model.specs.declared.plan.QueueName.TheVariants.{Lock, Chan}
use Rattle.lock_model.specs.declared.event.Entry.{Entry}
use Rattle.lock_state.specs.State.{State, Wait, is_finder}
use Rattle.lock_state.specs.Steps.LockWords.{is_woken}
use Rattle.lock_state.specs.Steps.SleepQueues.{has_slept}
use Rattle.lock_state.specs.Facts.{Lawful, BitsShowWaiters, StandingWants, StandingIsUncalled, CalledWants, FreeWordHasCalled, WordsMatchHolders, OnlyThreadsHold, Counted, FinderIsAlone, EndedIsBare, Ordered, Explained, StandersAreOpen, RestingHasReleased, WantedIsTaken}
use Rattle.lock_state.specs.Facts.Counts.{wakes_under_way}
use Rattle.lock_state.specs.Facts.Waits.{callers, calls_marked, calls_woken, busy}
use Rattle.lock_state.specs.Facts.Words.{owns, shares}
use Rattle.sleep_laws.specs.Sleepers.{SleepersFit}
use Rattle.sleep_laws.proofs.SleepFacts.Entries.{asleep_slept, asleep_unnamed}
use Rattle.sleep_laws.proofs.SleepFacts.Found.{sum_below-some, stander_asleep}
use Rattle.lock_laws.proofs.Kit.{sum_below-zero}
use Rattle.order_laws.proofs.OrderFacts.Cycle.{unheld}
use Rattle.lock_laws.proofs.Shown.{true-any_below}
use Rattle.count_laws.proofs.Alone.{all_stand, no_marks, resting}

-- a thread that sleeps on a channel sleeps
slept_ends : (d : ℕ) (es : List Entry) → has_slept d es ≡ true → ends_asleep es ≡ true
slept_ends d es x = grind arith

pub asleep_sleeps : (es : List Entry) (d t : ℕ) → is_asleep es d t ≡ true → is_sleeping es t ≡ true
asleep_sleeps es d t a = rw (slept_ends d (entries_of es t) (asleep_slept es d t a), asleep_unnamed es d t a) refl

pub exclusive_hold : (x : Hold) → is_exclusive x ≡ true → x ≡ Holds Excl
exclusive_hold x e = grind arith

pub shared_hold : (x : Hold) → 1 ≤ shares x → x ≡ Holds Shared
shared_hold x e = grind arith

module _ (c : Config) (s : State) (l : Lawful c s) (h : Counted c s) (o : Ordered c s) (w : Explained c s) (f : ℕ)
    (e : is_finder (s.phase f) ≡ true) where
  -- a word that shows waiters is held
  shown_busy : (k : ℕ) → shows_waiters (s.word k) ≡ true → 1 ≤ busy (s.word k).holder
  unfolding FreeWordHasCalled callers StandingIsUncalled CalledWants EndedIsBare FinderIsAlone wakes_under_way
  shown_busy k shown =
      let a = sum_below-zero c.threads (λ t. calls_marked k (s.marked t))
      (λ t lt. ap (calls_marked k) (no_marks c s l h f e t lt)) in
      let b = sum_below-zero c.threads (λ t. calls_woken k (s.wait t))
      (λ t lt. unwoken (s.wait t) (let z = (h.finder_is_alone f t e lt).0 in omega arith)) in
      let d = sum_below-zero c.threads (λ t. at_option k (s.called t)) (λ t lt. ap (at_option k) (uncalled t lt)) in
      let x = ap one shown in
      omega (arith, l.waits.free_word_has_called k)
    where
      unwoken : (x : Wait) → one (is_woken x) ≡ 0 → calls_woken k x ≡ 0
      unwoken x i = grind arith

      uncalled : (t : ℕ) → t < c.threads → s.called t ≡ None
      uncalled t lt = by_end (s.has_ended t) refl
        where
          by_end : (b : Bool) → s.has_ended t ≡ b → s.called t ≡ None
          by_end false i = let z = all_stand c s l h f e t lt i in l.waits.standing_is_uncalled t z.queue z.named
          by_end true i = by_called (s.called t) refl
            where
              by_called : (x : Option ℕ) → s.called t ≡ x → x ≡ None
              by_called None j = refl
              by_called (Some m) j =
                  absurd (let z : None ≡ Some m = sym (h.ended_is_bare t i).1 ∙ l.waits.called_wants t m j in cc)

  -- so some thread holds its lock
  some_holder : (k : ℕ) → shows_waiters (s.word k) ≡ true → (u : ℕ) × (mode : Mode) × (s.held u k ≡ Holds mode)
  unfolding WordsMatchHolders
  some_holder k shown = by_holder (s.word k).holder refl (shown_busy k shown)
    where
      by_holder : (x : Holder) → (s.word k).holder ≡ x → 1 ≤ busy x → (u : ℕ) × (mode : Mode)
          × (s.held u k ≡ Holds mode)
      by_holder Free i b = absurd (omega arith)
      by_holder (HeldBy u) i b = (
        u,
        Excl,
        exclusive_hold (s.held u k)
            ((l.words.words_match_holders k).owner u ∙ ap (owns u) i ∙ eq-eqb u u refl),
      )
      by_holder (SharedBy zero) i b = absurd ((l.words.words_match_holders k).some_sharer i)
      by_holder (SharedBy (suc n)) i b =
          let m = (l.words.words_match_holders k).sharers_are_counted ∙ ap sharers i in
          let r = sum_below-some c.threads (λ t. shares (s.held t k)) (omega arith) in
          (r.0, Shared, shared_hold (s.held r.0 k) r.2)

  -- and has a section of it open
  holder_open : (u k : ℕ) (mode : Mode) → s.held u k ≡ Holds mode → open_in c s.history u k ≡ Holds mode
  unfolding OnlyThreadsHold EndedIsBare StandersAreOpen RestingHasReleased
  holder_open u k mode i = by_end (s.has_ended u) refl
    where
      lt : u < c.threads
      lt = l.words.only_threads_hold u k mode i

      by_end : (b : Bool) → s.has_ended u ≡ b → open_in c s.history u k ≡ Holds mode
      by_end true j = absurd (let z : NotHeld ≡ Holds mode = sym ((h.ended_is_bare u j).0 k) ∙ i in cc)
      by_end false j = let z = all_stand c s l h f e u lt j in by_queue z.queue z.named
        where
          by_queue : (q : QueueName) → s.blocked_on u ≡ Some q → open_in c s.history u k ≡ Holds mode
          by_queue (Lock a) x = w.standers_are_open u (Lock a) x k mode i (λ y. y)
          by_queue (Chan d) x = w.standers_are_open u (Chan d) x k mode i
              (λ y. let z : NotHeld ≡ Holds mode = sym (w.resting_has_released u d.0 (resting c s l h f e u lt) x)
              ∙ ap (s.held u) (sym y) ∙ i in cc)

  shown_of : (t k : ℕ) → stands t (s.lists (lock_queue k)) ≡ 1 → shows_waiters (s.word k) ≡ true
  unfolding BitsShowWaiters
  shown_of t k a = grind arith

  thread_of : (u k : ℕ) (mode : Mode) → s.held u k ≡ Holds mode → u < c.threads
  unfolding OnlyThreadsHold
  thread_of u k mode i = l.words.only_threads_hold u k mode i

  -- what each thread is at
  pub all_halted : {at_work : ℕ → Option ℕ} → SleepersFit at_work c s → (t : ℕ) → t < c.threads
      → (s.has_ended t ≡ true) ⊎
      ((is_sleeping s.history t ≡ true) ⊎ (waits_for_another c s.history t (s.taking t) ≡ true))
  unfolding StandingWants WantedIsTaken
  all_halted p t lt = by_end (s.has_ended t) refl
    where
      by_queue : (q : QueueName) → s.blocked_on t ≡ Some q → stands t (s.lists q) ≡ 1
          → (is_sleeping s.history t ≡ true) ⊎ (waits_for_another c s.history t (s.taking t) ≡ true)
      by_queue (Chan d) x y = inl (asleep_sleeps s.history d.0 t (stander_asleep l p t d.0 (omega (arith, y))))
      by_queue (Lock k) x y =
          let wants = l.waits.standing_wants t k.0 x in
          let takes = w.wants.wanted_is_taken t k.0 wants in
          let r = some_holder k.0 (shown_of t k.0 y) in
          let v = r.0 in
          let opened = holder_open v k.0 r.1 r.2 in
          let holds : s.held v k.0 ≢ NotHeld = λ n. (let z : NotHeld ≡ Holds r.1 = sym n ∙ r.2 in cc) in
          let differs : v ≡ t → ⊥ = λ i. unheld c s o t k.0 (subst (λ u. s.held u k.0 ≢ NotHeld) i holds) wants in
          let its : (not (eqb v t) && not (is_unheld (open_in c s.history v k.0))) ≡ true =
          rw (ne_eqb v t differs, opened) refl in
          inr (rw takes (true-any_below c.threads (λ u. not (eqb u t) && not (is_unheld (open_in c s.history u k.0))) v
          (thread_of v k.0 r.1 r.2) its))

      by_end : (b : Bool) → s.has_ended t ≡ b
          → (s.has_ended t ≡ true) ⊎
          ((is_sleeping s.history t ≡ true) ⊎ (waits_for_another c s.history t (s.taking t) ≡ true))
      by_end true i = inl i
      by_end false i = let z = all_stand c s l h f e t lt i in inr (by_queue z.queue z.named z.stands)
