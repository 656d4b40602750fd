-- What a thread's state says of its turn.
use Rattle.std.proofs.Common.{◌≡◌, ◌↔◌, ℕ, Bool, true, false, not, ◌||◌, ◌&&◌, is_some, List, [], ◌∷◌, Option, Some, None, refl, sym, ap, ◌∙◌}
use Rattle.std.specs.Prelude.{if◌then◌else◌}
use Rattle.lock_model.specs.Counts.{is_empty}
use Rattle.lock_model.specs.Operations.{IsProper}
use Rattle.lock_model.specs.Plans.{config_of}
use Rattle.lock_model.specs.Queues.{Mark}
use Rattle.lock_model.specs.declared.plan.Plan.{Plan}
use Rattle.lock_model.specs.declared.turn.Turn.{Turn}
use Rattle.lock_state.specs.Run.{Run, has_ended, is_idle, is_walking, owed_release, owes, turn_of}
use Rattle.lock_state.specs.State.{Wait, Walk, NoWalk, AtLock, AtThread}
use Rattle.lock_state.specs.State as wait
use Rattle.run_laws.specs.OnTrack.{IsOnTrack, IsSleeping, OwesNothing}
use Rattle.run_laws.proofs.Idle.{idle_exactly, idle_is}
use Rattle.turn_calls.specs.Tellings.{state_by, state_of}
use Rattle.turn_calls.specs.Texts.{goes_on}
use Rattle.turn_calls.specs.declared.threads.ThreadState.{ThreadState}
use Rattle.turn_calls.specs.declared.threads.ThreadState.TheVariants.{Running, Queued, Idle, Woken, Ended}

-- whether a thread of that state goes on
abbrev pub acts : ThreadState → Bool
acts Running = true
acts Queued = true
acts Idle = false
acts Woken = true
acts Ended = false

module _ (plan : Plan) (r : Run) (t : ℕ) where
  -- 1. The state, by whether it has ended, by what it owes and by its wait word

  pub of_ended : has_ended plan r t ≡ true → Ended ≡ state_of plan r t
  of_ended e =
      sym (ap (λ (b : Bool). if b then Ended else state_by (owes (config_of plan) r.state t) (r.state.wait t)) e)

  pub of_going : (b : Bool) (w : Wait) → has_ended plan r t ≡ false → b ≡ owes (config_of plan) r.state t
      → w ≡ r.state.wait t → state_by b w ≡ state_of plan r t
  of_going b w e i j =
      ap (λ (x : Bool). state_by x w) i
      ∙ ap (λ (x : Wait). state_by (owes (config_of plan) r.state t) x) j
      ∙ sym (ap (λ (x : Bool). if x then Ended else state_by (owes (config_of plan) r.state t) (r.state.wait t)) e)

  -- 2. Where it owes nothing

  nothing_owed : (w : Walk) (ms : List Mark) (o : Option ℕ) → (is_walking w || not (is_empty ms) || is_some o) ≡ false
      → (w ≡ NoWalk) × (ms ≡ []) × (o ≡ None)
  nothing_owed NoWalk [] None e = (refl, refl, refl)
  nothing_owed NoWalk [] (Some l) e = absurd cc
  nothing_owed NoWalk (m ∷ ms) o e = absurd cc
  nothing_owed (AtLock l) ms o e = absurd cc
  nothing_owed (AtThread u) ms o e = absurd cc

  owes_nothing : owes (config_of plan) r.state t ≡ false → OwesNothing plan r t
  owes_nothing e =
      let x = nothing_owed (r.state.walk t) (r.state.marked t) (owed_release (config_of plan) r.state t) e in
      record { no_walk = x.0; unmarked = x.1; released = x.2 }

  owed : OwesNothing plan r t → owes (config_of plan) r.state t ≡ false
  owed h = rw (h.no_walk, h.unmarked, h.released) refl

  -- 3. A thread is idle exactly where it sleeps

  idle_by : (ended o : Bool) (w : Wait) → (if ended then Ended else state_by o w) ≡ Idle
      → (ended ≡ false) × (o ≡ false) × (w ≡ wait.Queued)
  idle_by true o w e = absurd cc
  idle_by false o wait.Running e = absurd cc
  idle_by false true wait.Queued e = absurd cc
  idle_by false false wait.Queued e = (refl, refl, refl)
  idle_by false o (wait.Woken q cause) e = absurd cc

  pub idle_sleeps : state_of plan r t ≡ Idle ↔ IsSleeping plan r t
  idle_sleeps = (
    λ e. let x = idle_by (has_ended plan r t) (owes (config_of plan) r.state t) (r.state.wait t) e in
        record { going = x.0; queued = x.2; free = owes_nothing x.1 },
    λ h. sym (of_going false wait.Queued h.going (sym (owed h.free)) (sym h.queued)),
  )

  -- and at its end exactly where it has ended
  over_by : (o : Bool) (w : Wait) → state_by o w ≡ Ended → ⊥
  over_by o wait.Running e = absurd cc
  over_by true wait.Queued e = absurd cc
  over_by false wait.Queued e = absurd cc
  over_by o (wait.Woken q cause) e = absurd cc

  pub at_end : state_of plan r t ≡ Ended ↔ has_ended plan r t ≡ true
  at_end = (go (has_ended plan r t), λ e. sym (of_ended e))
    where
      go : (b : Bool) → (if b then Ended else state_by (owes (config_of plan) r.state t) (r.state.wait t)) ≡ Ended
          → b ≡ true
      go true e = refl
      go false e = absurd (over_by (owes (config_of plan) r.state t) (r.state.wait t) e)

  -- 4. Whether it goes on

  pub stays_at_end : state_of plan r t ≡ Ended → goes_on plan r t ≡ false
  stays_at_end e = ap (λ (b : Bool). not b && not (is_idle (turn_of plan r t).answer)) (at_end.0 e)

  module _ (p : IsProper plan) (k : IsOnTrack plan r) where
    pub stays_idle : state_of plan r t ≡ Idle → goes_on plan r t ≡ false
    stays_idle e =
        ap (λ (a : Turn). not (has_ended plan r t) && not (is_idle a)) ((idle_exactly plan r t p k).1 (idle_sleeps.0 e))
        ∙ neither (has_ended plan r t)
      where
        neither : (b : Bool) → (not b && false) ≡ false
        neither true = refl
        neither false = refl

    goes : (state_of plan r t ≡ Ended → ⊥) → (state_of plan r t ≡ Idle → ⊥) → goes_on plan r t ≡ true
    goes not_over not_idle = by (has_ended plan r t) refl (is_idle (turn_of plan r t).answer) refl
      where
        by : (a : Bool) → has_ended plan r t ≡ a → (b : Bool) → is_idle (turn_of plan r t).answer ≡ b
            → (not a && not b) ≡ true
        by true e b i = absurd (not_over (at_end.1 e))
        by false e true i =
            absurd (not_idle (idle_sleeps.1 ((idle_exactly plan r t p k).0 (idle_is (turn_of plan r t).answer i))))
        by false e false i = refl

    pub goes_by : (s : ThreadState) → s ≡ state_of plan r t → acts s ≡ goes_on plan r t
    goes_by Running i =
        sym (goes (λ e. let z : Running ≡ Ended = i ∙ e in cc) (λ e. let z : Running ≡ Idle = i ∙ e in cc))
    goes_by Queued i = sym (goes (λ e. let z : Queued ≡ Ended = i ∙ e in cc) (λ e. let z : Queued ≡ Idle = i ∙ e in cc))
    goes_by Idle i = sym (stays_idle (sym i))
    goes_by Woken i = sym (goes (λ e. let z : Woken ≡ Ended = i ∙ e in cc) (λ e. let z : Woken ≡ Idle = i ∙ e in cc))
    goes_by Ended i = sym (stays_at_end (sym i))
