-- Each kind of step keeps the facts by which halts are explained.
use Rattle.std.proofs.Common.{◌≡◌, ◌⊎◌, ℕ, Bool, true, false, cond, eqb, ◌∷◌, Option, Some, None, sym, ap, inl, inr, arith, subst, ◌∙◌}
use Rattle.std.proofs.lemmas.Bool.{cases_eq}
use Rattle.lock_model.specs.Config.{Config}
use Rattle.lock_model.specs.Holds.{Hold, NotHeld, Holds}
use Rattle.lock_model.specs.History.{open_in}
use Rattle.lock_model.specs.Queues.{Cause, Mark, lock_queue, chan_queue}
use Rattle.lock_model.specs.declared.plan.Mode.{Mode}
use Rattle.lock_model.specs.declared.plan.QueueName.{QueueName}
use Rattle.lock_model.specs.declared.event.Event.{Event}
use Rattle.lock_state.specs.State.{State, Wait, Running, Woken, Phase, Awake, SelfAborted, put, put_at}
use Rattle.lock_state.specs.Steps.LockWords.{AllOpen, OthersOpen, is_woken, taking_after, entry_of, after_stamp}
use Rattle.lock_state.specs.Steps.Turnstiles.{MayResume, HasReleased, phase_marked, taking_by}
use Rattle.lock_state.specs.Steps.SleepQueues.{phase_aborting}
use Rattle.lock_state.specs.Steps.Counting.{phase_out}
use Rattle.lock_state.specs.Facts.{Explained, StandersAreOpen, RestingHasReleased, SleepersTakeNothing}
use Rattle.lock_state.specs.Facts.Counts.{is_at_rest}
use Rattle.lock_state.specs.Facts.Halts.{IsLockOf}
use Rattle.lock_laws.proofs.Kit.{columns, put_same, put_other, put_at_other}
use Rattle.lock_laws.proofs.OwnEntries.{other_sections}

module _ (c : Config) (s : State) (x : Explained c s) (t : ℕ) where
  -- who stands on a queue is another thread, where this one stands on none
  apart : s.blocked_on t ≡ None → (u : ℕ) (q : QueueName) → s.blocked_on u ≡ Some q → t ≡ u → ⊥
  apart n u q e i = let z : None ≡ Some q = sym n ∙ ap s.blocked_on i ∙ e in cc

  -- 1. A gain by a thread that stands on no queue, and a release

  pub gain_open : (l : ℕ) (h : Hold) → s.blocked_on t ≡ None
      → StandersAreOpen c s.blocked_on (put_at s.held t l h) s.history
  unfolding StandersAreOpen
  gain_open l h n u q e k m f = x.standers_are_open u q e k m (sym (put_at_other s.held t l h u k (apart n u q e)) ∙ f)

  pub gain_released : (l : ℕ) (h : Hold) → s.blocked_on t ≡ None
      → RestingHasReleased c s.phase s.blocked_on (put_at s.held t l h)
  unfolding RestingHasReleased
  gain_released l h n u d p e = grind (arith, columns)

  was_held : (l u k : ℕ) (m : Mode) → put_at s.held t l NotHeld u k ≡ Holds m → s.held u k ≡ Holds m
  was_held l u k m e = grind (arith, columns)

  pub left_open : (l : ℕ) → StandersAreOpen c s.blocked_on (put_at s.held t l NotHeld) s.history
  unfolding StandersAreOpen
  left_open l u q e k m f = x.standers_are_open u q e k m (was_held l u k m f)

  pub left_released : (l : ℕ) → RestingHasReleased c s.phase s.blocked_on (put_at s.held t l NotHeld)
  unfolding RestingHasReleased
  left_released l u d p e = grind (arith, columns)

  -- 2. An entry: the thread stands on no queue

  pub stamp_open : (e : Event) → s.blocked_on t ≡ None
      → StandersAreOpen c s.blocked_on s.held (entry_of s t e ∷ s.history)
  unfolding StandersAreOpen after_stamp
  stamp_open e n u q f k m g =
      let ne = apart n u q f in
      let same = ap (λ y. y.now) (other_sections c s t e u k ne) in
      λ away. same ∙ x.standers_are_open u q f k m g away

  ended_or_none : (e : Event) (o : Option ℕ) → o ≡ None → taking_after e o ≡ None
  ended_or_none e o i = grind arith

  pub stamp_sleepers : (e : Event)
      → SleepersTakeNothing s.blocked_on s.wait (put s.taking t (taking_after e (s.taking t)))
  unfolding SleepersTakeNothing
  stamp_sleepers e u d y = grind (arith, columns, x.sleepers_take_nothing u d y, ended_or_none e (s.taking t))

  -- 3. Standing on a queue

  module _ (q : QueueName)
      (o : (k : ℕ) (m : Mode) → s.held t k ≡ Holds m → (IsLockOf c q k → ⊥) → open_in c s.history t k ≡ Holds m) where
    pub stand_open : StandersAreOpen c (put s.blocked_on t (Some q)) s.held s.history
    unfolding StandersAreOpen
    stand_open u r e k m f = elim (cases_eq t u) [
      | inl i ↦
          let z : Some q ≡ Some r = sym (put_same s.blocked_on t (Some q)) ∙ ap (put s.blocked_on t (Some q)) i ∙ e in
          let y : q ≡ r = cc in
          subst (λ v. (IsLockOf c r k → ⊥) → open_in c s.history v k ≡ Holds m) i
          (subst (λ p. (IsLockOf c p k → ⊥) → open_in c s.history t k ≡ Holds m) y (o k m (ap (λ v. s.held v k) i ∙ f)))
      | inr i ↦ x.standers_are_open u r (sym (put_other s.blocked_on t (Some q) u i) ∙ e) k m f
    ]

  pub all_open : (l : ℕ) → AllOpen c s t → StandersAreOpen c (put s.blocked_on t (Some (lock_queue l))) s.held s.history
  all_open l o = stand_open (lock_queue l) (λ k m f away. o k m f)

  pub others_open : (d : ℕ) → OthersOpen c s t (c.chan_lock d)
      → StandersAreOpen c (put s.blocked_on t (Some (chan_queue d))) s.held s.history
  others_open d o = stand_open (chan_queue d) o

  pub stand_released : (q : QueueName) → s.phase t ≡ Awake
      → RestingHasReleased c s.phase (put s.blocked_on t (Some q)) s.held
  unfolding RestingHasReleased
  stand_released q a u d p e = grind (arith, columns)

  pub enter_sleepers : (l : ℕ) → SleepersTakeNothing (put s.blocked_on t (Some (lock_queue l))) s.wait s.taking
  unfolding SleepersTakeNothing
  enter_sleepers l u d (inl e) = x.sleepers_take_nothing u d (inl (grind (arith, columns, e)))
  enter_sleepers l u d (inr y) = x.sleepers_take_nothing u d (inr y)

  pub add_sleepers : (d : ℕ) → s.taking t ≡ None
      → SleepersTakeNothing (put s.blocked_on t (Some (chan_queue d))) s.wait s.taking
  unfolding SleepersTakeNothing
  add_sleepers d n u k (inl e) = elim (cases_eq t u) [
    | inl i ↦ ap s.taking (sym i) ∙ n
    | inr i ↦ x.sleepers_take_nothing u k (inl (sym (put_other s.blocked_on t (Some (chan_queue d)) u i) ∙ e))
  ]
  add_sleepers d n u k (inr y) = x.sleepers_take_nothing u k (inr y)

  -- 4. The begin of a round, an admission, and the own wait word

  -- the taking of a thread that neither stands on a queue nor is woken
  pub acting_sleepers : (o : Option ℕ) → s.blocked_on t ≡ None → is_woken (s.wait t) ≡ false
      → SleepersTakeNothing s.blocked_on s.wait (put s.taking t o)
  unfolding SleepersTakeNothing
  acting_sleepers o n w u d y = put_other s.taking t o u (ne y) ∙ x.sleepers_take_nothing u d y
    where
      ne : (s.blocked_on u ≡ Some (chan_queue d)) ⊎ ((cause : Cause) × (s.wait u ≡ Woken (chan_queue d) cause)) → t ≡ u
          → ⊥
      ne e i = grind arith

  pub wait_sleepers : (w : Wait) → is_woken w ≡ false → SleepersTakeNothing s.blocked_on (put s.wait t w) s.taking
  unfolding SleepersTakeNothing
  wait_sleepers w n u d (inl e) = x.sleepers_take_nothing u d (inl e)
  wait_sleepers w n u d (inr y) = elim (cases_eq t u) [
    | inl i ↦ absurd (let z : false ≡ true = sym n
        ∙ ap is_woken (sym (put_same s.wait t w) ∙ ap (put s.wait t w) i ∙ y.1) in cc)
    | inr i ↦ x.sleepers_take_nothing u d (inr (y.0, sym (put_other s.wait t w u i) ∙ y.1))
  ]

-- 5. A mark

module _ (c : Config) (s : State) (x : Explained c s) (t : ℕ) (m : Mark) (stood : s.blocked_on m.thread ≡ Some m.queue)
  where
    abbrev blocked_on : ℕ → Option QueueName
    blocked_on = put s.blocked_on m.thread None

    abbrev wait : ℕ → Wait
    wait = put s.wait m.thread (Woken m.queue m.cause)

    still : (u : ℕ) (q : QueueName) → blocked_on u ≡ Some q → s.blocked_on u ≡ Some q
    still u q = grind (arith, columns)

    pub mark_open : StandersAreOpen c blocked_on s.held s.history
    unfolding StandersAreOpen
    mark_open u q e = x.standers_are_open u q (still u q e)

    rested : (u : ℕ) → is_at_rest (put s.phase t (phase_marked t m.thread (s.phase t)) u) ≡ true
        → is_at_rest (s.phase u) ≡ true
    rested u p = elim (cases_eq t u) [
      | inl i ↦ ap (λ v. is_at_rest (s.phase v)) (sym i)
          ∙ by_self (eqb t m.thread)
          (ap is_at_rest (sym (put_same s.phase t (phase_marked t m.thread (s.phase t)))
          ∙ ap (put s.phase t (phase_marked t m.thread (s.phase t))) i) ∙ p)
      | inr i ↦ ap is_at_rest (sym (put_other s.phase t (phase_marked t m.thread (s.phase t)) u i)) ∙ p
    ]
      where
        by_self : (b : Bool) → is_at_rest (cond b SelfAborted (s.phase t)) ≡ true → is_at_rest (s.phase t) ≡ true
        by_self true i = absurd cc
        by_self false i = i

    pub mark_released : RestingHasReleased c (put s.phase t (phase_marked t m.thread (s.phase t))) blocked_on s.held
    unfolding RestingHasReleased
    mark_released u d p e = x.resting_has_released u d (rested u p) (still u (chan_queue d) e)

    pub mark_sleepers : SleepersTakeNothing blocked_on wait s.taking
    unfolding SleepersTakeNothing
    mark_sleepers u d (inl e) = x.sleepers_take_nothing u d (inl (still u (chan_queue d) e))
    mark_sleepers u d (inr y) = elim (cases_eq m.thread u) [
      | inl i ↦
          let z : Woken m.queue m.cause ≡ Woken (chan_queue d) y.0 =
          sym (put_same s.wait m.thread (Woken m.queue m.cause)) ∙ ap wait i ∙ y.1 in
          let q : m.queue ≡ chan_queue d = cc in
          x.sleepers_take_nothing u d (inl (ap s.blocked_on (sym i) ∙ stood ∙ ap Some q))
      | inr i ↦ x.sleepers_take_nothing u d (inr (
        y.0,
        sym (put_other s.wait m.thread (Woken m.queue m.cause) u i) ∙ y.1,
      ))
    ]

-- 6. A resume

module _ (c : Config) (s : State) (x : Explained c s) (t : ℕ) (q : QueueName) (cause : Cause)
    (g : MayResume c s t q cause)
    (unnamed : (r : QueueName) → s.blocked_on t ≡ Some r → ⊥) where
  abbrev taking : ℕ → Option ℕ
  taking = put s.taking t (taking_by c q (s.taking t))

  pub resume_sleepers : SleepersTakeNothing s.blocked_on (put s.wait t Running) taking
  unfolding SleepersTakeNothing
  resume_sleepers u d y = elim (cases_eq t u) [
    | inl i ↦ absurd (mine y i)
    | inr i ↦ put_other s.taking t _ u i ∙ x.sleepers_take_nothing u d (theirs y i)
  ]
    where
      mine : (s.blocked_on u ≡ Some (chan_queue d)) ⊎
          ((cause : Cause) × (put s.wait t Running u ≡ Woken (chan_queue d) cause)) → t ≡ u → ⊥
      mine (inl e) i = unnamed (chan_queue d) (ap s.blocked_on i ∙ e)
      mine (inr e) i = let z : Running ≡ Woken (chan_queue d) e.0 = sym (put_same s.wait t Running)
          ∙ ap (put s.wait t Running) i ∙ e.1 in cc

      theirs : (s.blocked_on u ≡ Some (chan_queue d)) ⊎
          ((cause : Cause) × (put s.wait t Running u ≡ Woken (chan_queue d) cause)) → (t ≡ u → ⊥)
          → (s.blocked_on u ≡ Some (chan_queue d)) ⊎ ((cause : Cause) × (s.wait u ≡ Woken (chan_queue d) cause))
      theirs (inl e) i = inl e
      theirs (inr e) i = inr (e.0, sym (put_other s.wait t Running u i) ∙ e.1)

  -- from a channel the thread took nothing
  pub took_nothing : (d : ℕ) → q ≡ chan_queue d → s.taking t ≡ None
  unfolding SleepersTakeNothing
  took_nothing d i = x.sleepers_take_nothing t d (inr (cause, g.woken ∙ ap (λ y. Woken y cause) i))

-- 7. Phases

module _ (c : Config) (s : State) (x : Explained c s) (t : ℕ) where
  -- one that rests no more than before
  pub rests_less : (p : Phase) → (is_at_rest p ≡ true → is_at_rest (s.phase t) ≡ true)
      → RestingHasReleased c (put s.phase t p) s.blocked_on s.held
  unfolding RestingHasReleased
  rests_less p f u d i e = elim (cases_eq t u) [
    | inl j ↦ x.resting_has_released u d
        (ap (λ v. is_at_rest (s.phase v)) (sym j)
        ∙ f (ap is_at_rest (sym (put_same s.phase t p) ∙ ap (put s.phase t p) j) ∙ i)) e
    | inr j ↦ x.resting_has_released u d (ap is_at_rest (sym (put_other s.phase t p u j)) ∙ i) e
  ]

  -- a counting out asks that the lock of the wait is released
  pub out_released : ((q : QueueName) → s.blocked_on t ≡ Some q → HasReleased c s t q)
      → RestingHasReleased c (put s.phase t (phase_out s.awake)) s.blocked_on s.held
  unfolding RestingHasReleased
  out_released r u d i e = elim (cases_eq t u) [
    | inl j ↦ subst (λ v. s.held v (c.chan_lock d) ≡ NotHeld) j (r (chan_queue d) (ap s.blocked_on j ∙ e))
    | inr j ↦ x.resting_has_released u d (ap is_at_rest (sym (put_other s.phase t (phase_out s.awake) u j)) ∙ i) e
  ]

pub aborting_rests : (p : Phase) → is_at_rest (phase_aborting p) ≡ true → is_at_rest p ≡ true
aborting_rests p i = grind arith
