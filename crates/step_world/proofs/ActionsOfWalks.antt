-- The actions of a thread with a walk, and what the walk reads where it stands.
use Rattle.step_world.proofs.Names
use Names.{ℕ, Bool, true, ltb, List, [], length, get_or, slice_get, Option, Some, None, refl, sym, ap, subst, inl, inr}
use Names.{arith, and_right, and_from, cases_Bool, lt-ltb, slice_get_read, config_of, IsProper, Config, State, AtLock}
use Names.{AtThread, owner_of, is_turnstile, lock_queue, stands, Lends, Shifts, EndsWalk, Lawful, Run, does}
use Names.{walks_at_lock, walks_at_thread, LockNo, ThreadNo, Plan, QueueName, Lock, Chan, Turnstile, head_of}
use Names.{walks_from_lock, walks_from_thread, Machine, Thread, RepresentsQueue, RepresentsHead, queue_in, IsRunOf}
use Names.{IsNowhere, StandsAt}
use Rattle.std.proofs.Common.{◌≡◌, ◌<◌, ◌≤◌, ◌∷◌, ◌∙◌}
use Rattle.lock_model.specs.declared.turn.StepKind.TheVariants as kinds
use Rattle.lock_laws.proofs.AtTurn as at_turn
use Rattle.step_machine.specs.Represents.{Represents}
use Rattle.step_world.proofs.Turning.{Begins, begins}

-- 1. What is read at a lock and at a thread

module _ (m : Machine) (c : Config) (s : State) (shown : Represents c m s) (h : Lawful c s) where
  module _ (l : ℕ) (k : is_turnstile (c.kind l) ≡ true) where
    at : (o : Option Turnstile) → o ≡ head_of (lock_queue l) m.chain
        → RepresentsQueue o (queue_in s (lock_queue l)) s.loan_home
    at o e = subst (λ x. RepresentsQueue x (queue_in s (lock_queue l)) s.loan_home) (sym e) (shown.queues.lock l k)

    pub owner_at : (x : Turnstile) → Some x ≡ head_of (lock_queue l) m.chain
        → x.contents.own.owner ≡ s.owner (lock_queue l)
    owner_at x e =
        let head : RepresentsHead x.contents (queue_in s (lock_queue l)) s.loan_home = at (Some x) e in
        sym (ap (λ v. v.owner) head.queue)

    pub no_owner_at : None ≡ head_of (lock_queue l) m.chain → None ≡ s.owner (lock_queue l)
    no_owner_at e = sym (at_turn.no_owner c s (lock_queue l) h (at None e))

    pub none_stands_at : (t : ℕ) → None ≡ head_of (lock_queue l) m.chain → stands t (s.lists (lock_queue l)) ≡ 0
    none_stands_at t e = at_turn.none_stands c s (lock_queue l) t h (at None e)

  pub named_at : (ths : List Thread) (i t : ℕ) (th : Thread) → ths ≡ m.threads.items → i ≡ t → i < length ths
      → th ≡ get_or ths i th → th.record.value.on ≡ s.blocked_on t
  named_at ths i t th e j l is =
      let there : slice_get m.threads.items t ≡ Some th = ap (λ x. slice_get x t) (sym e) ∙ ap (slice_get ths) (sym j)
      ∙ slice_get_read ths (length ths) i th refl l is in
      ap (λ x. x.its_record.blocked_on) (shown.threads.thread t th there).columns

  pub none_named_at : (t : ℕ) → length m.threads.items ≤ t → None ≡ s.blocked_on t
  none_named_at t l = sym (at_turn.beyond_unnamed c s t h (omega (arith, shown.threads.threads, l)))

-- 2. The actions

module _ {plan : Plan} {m : Machine} {t : ℕ} (p : IsProper plan) (lt : t < length plan.threads) {r : Run}
    (h : IsRunOf plan m r) where
  abbrev c : Config
  c = config_of plan

  abbrev s : State
  s = r.state

  -- at a lock
  module _ {l : LockNo} (there : s.walk t ≡ AtLock l.0) where
    on_turnstile : is_turnstile (c.kind l.0) ≡ true
    on_turnstile = h.on_track.walks t l.0 there

    pub lends : {o : ThreadNo} → (is_turnstile (c.kind l.0) ≡ true → Some o.0 ≡ s.owner (lock_queue l.0))
        → (x : ℕ) × Begins plan r t m (does kinds.Lend (Lends t l.0 o.0 x ∷ []))
    lends {o} owned =
        let found = at_turn.owner_found c s l.0 o.0 h.on_track.lawful.lawful on_turnstile (sym (owned on_turnstile)) in
        (found.0, begins p lt h (walks_from_lock plan r t l.0 there ∙ rw (found.1, found.2) refl))

    pub ends_at_lock : (is_turnstile (c.kind l.0) ≡ true → None ≡ s.owner (lock_queue l.0))
        → Begins plan r t m (does kinds.WalkEnd (EndsWalk t ∷ []))
    ends_at_lock unowned = begins p lt h (walks_from_lock plan r t l.0 there
        ∙ elim (at_turn.no_owner_found c s l.0 h.on_track.lawful.lawful on_turnstile (sym (unowned on_turnstile))) [
          | inl e ↦ rw e (headless (owner_of (s.word l.0).holder))
          | inr e ↦ rw e refl
        ])
      where
        headless : (x : Option ℕ) → walks_at_lock t l.0 x None ≡ does kinds.WalkEnd (EndsWalk t ∷ [])
        headless None = refl
        headless (Some o) = refl

  -- at a thread
  module _ {o : ThreadNo} (there : s.walk t ≡ AtThread o.0) where
    pub shifts : {l : LockNo} {owned : Bool} → StandsAt c s o.0 l.0 owned
        → Begins plan r t m (does kinds.Shift (Shifts t o.0 l.0 ∷ []))
    shifts {l} at =
        let stands_there = and_from (is_turnstile (c.kind l.0)) (ltb 0 (stands o.0 (s.lists (lock_queue l.0))))
        at.turnstile (lt-ltb 0 (stands o.0 (s.lists (lock_queue l.0))) at.stands) in
        begins p lt h (walks_from_thread plan r t o.0 there ∙ rw (at.blocked_on, stands_there) refl)

    pub ends_at_thread : IsNowhere c s o.0 → Begins plan r t m (does kinds.WalkEnd (EndsWalk t ∷ []))
    ends_at_thread nowhere = begins p lt h (walks_from_thread plan r t o.0 there ∙ go (s.blocked_on o.0) refl)
      where
        go : (q : Option QueueName) → s.blocked_on o.0 ≡ q
            → walks_at_thread c r t o.0 q ≡ does kinds.WalkEnd (EndsWalk t ∷ [])
        go None e = refl
        go (Some (Chan d)) e = refl
        go (Some (Lock l)) e = elim (cases_Bool (is_turnstile (c.kind l.0))) [
          | inl k ↦ rw (and_right (is_turnstile (c.kind l.0)) (ltb 0 (stands o.0 (s.lists (lock_queue l.0))))
              (ap (ltb 0) (nowhere l.0 k e))) refl
          | inr k ↦ rw k refl
        ]
