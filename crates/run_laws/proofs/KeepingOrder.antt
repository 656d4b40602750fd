-- The steps of a turn keep to the order of locks: a thread takes just the lock that it wants, which was admitted or
-- is that of its wait; it gives no lock back while it takes one, and the entry that it makes then ends the take.
use Rattle.run_laws.proofs.Names
use Names.{ℕ, Bool, true, false, [], length, Option, Some, None, refl, sym, ap, subst, inl, is_some, none-some}
use Names.{same_Some, config_of, IsProper, Config, NotHeld, State, Woken, Step, Stamps, EndsTake, TakesNothing}
use Names.{GainsInOrder, IsBackFrom, KeepToOrder, is_taking_back, after_look, after_gain, after_stamp, after_ready}
use Names.{after_admit, after_refuse, after_wake, after_claim, WokenSlept, Run, Action, waits_on, owed_release, Mode}
use Names.{Op, Take, Try, Release, Sleep, Plan, QueueName, Chan, LockNo, ChanNo, StepKind, Event, IsOnTrack}
use Names.{IsAtOperation, admitted, put_same, slept_back, arith}
use Rattle.std.proofs.Common.{◌≡◌, ◌<◌, ◌∷◌, ◌∙◌}
use Rattle.lock_model.specs.declared.event.Event.TheVariants as event
use Rattle.run_laws.proofs.OnTrack.{waits_back, awake, wants_none, wants_it, is_take, is_wait}
use Rattle.run_laws.proofs.TurnsOfOrders.{admitted_on_track, found_admitted}
use Rattle.run_laws.proofs.TurnsOfSleeps.{gained_last}
use Rattle.run_laws.proofs.Actions as actions

-- a thread that takes nothing takes no lock;
none_taken : {P : Type 0} (r : Run) (t l : ℕ) → TakesNothing r.state t → r.state.taking t ≡ Some l → P
none_taken r t l none f = absurd (none-some l (sym none ∙ f))

-- it gives one back, or first notes that
gives_quietly : (plan : Plan) (r : Run) (t l : ℕ) (mode : Mode) {kind : StepKind} {step : Step} (s : State)
    → actions.GivingBack plan r t l mode kind step → TakesNothing s t → KeepToOrder (config_of plan) s (step ∷ [])
gives_quietly plan r t l mode s e none = grind arith

gives_back : (plan : Plan) (r : Run) (t l : ℕ) (mode : Mode) (k : LockNo) (noted : Mode) {kind : StepKind} {step : Step}
    → actions.GivingBack plan r t l mode kind step → TakesNothing r.state t
    → KeepToOrder (config_of plan) r.state (Stamps t (event.Unlocked k noted) ∷ step ∷ [])
unfolding after_stamp
gives_back plan r t l mode k noted back none = (
  λ j. none_taken r t j none,
  gives_quietly plan r t l mode _ back (put_same r.state.taking t (r.state.taking t) ∙ none),
)

-- an operation that only makes an entry is no take and no wait, nor is a wake
is_quiet : (r : Run) (t : ℕ) (op : Op) (e : Event) → actions.Notes r t op e
    → (is_take op ≡ false) × (is_wait op ≡ false)
is_quiet r t op e g = grind arith

wake_is_quiet : (d : ChanNo) {op : Op} {all : Bool} {noted : ℕ → Event} → actions.Waking d op all noted
    → (is_take op ≡ false) × (is_wait op ≡ false)
wake_is_quiet d e = grind arith

module _ (plan : Plan) (r : Run) (t : ℕ) (p : IsProper plan) (k : IsOnTrack plan r) where
  abbrev c : Config
  c = config_of plan

  abbrev s : State
  s = r.state

  -- 1. What a thread takes

  -- who wants nothing takes nothing,
  quiet : s.wanted t ≡ None → TakesNothing s t
  quiet e = k.taking t ∙ e

  -- as at an operation that is no take and no wait,
  at_operation : (op : Op) → IsAtOperation plan r t (Some op) → is_take op ≡ false → is_wait op ≡ false
      → TakesNothing s t
  at_operation op i a b = quiet (wants_none plan r t k (awake plan r t k op i.next b) op i.next a)

  -- or one that owes the release of its wait's lock
  releasing : (l : ℕ) → owed_release c s t ≡ Some l → TakesNothing s t
  releasing l e = quiet (go (s.wanted t) refl (waits_on (s.log t)) refl)
    where
      go : (o : Option ℕ) → s.wanted t ≡ o → (w : Option ℕ) → waits_on (s.log t) ≡ w → s.wanted t ≡ None
      go None f w g = f
      go (Some j) f None g = absurd (none-some l (rw g at e))
      go (Some j) f (Some d) g =
          let its : c.chan_lock d ≡ j = rw g at (k.wants t j f) in
          let unheld : s.held t (c.chan_lock d) ≡ NotHeld = ap (s.held t) its ∙ k.wants_unheld t j f in
          absurd (none-some l (rw (g, unheld) at e))

  -- 2. Gains, and their entries: they are of what the thread takes, if anything

  in_order : {l : LockNo} {mode : Mode} {op : Op} {by_try : Bool} {e : Event}
      → actions.Gaining plan r t l mode op by_try e → IsAtOperation plan r t (Some op) → GainsInOrder s t l.0 by_try
  in_order {l} (actions.by_taking by) i = record {
    wants = λ x. inl (wants_it plan r t k by i);
    takes = λ j f. same_Some j l.0 (sym f ∙ k.taking t ∙ wants_it plan r t k by i);
    unhalted = λ j f. none-some _ (sym (k.unnoted t) ∙ f);
  }
  in_order (actions.by_trying l mode past) i = record {
    wants = λ x. absurd cc;
    takes = λ j f. none_taken r t j (at_operation (Try l mode past) i refl refl) f;
    unhalted = λ j f. none-some _ (sym (k.unnoted t) ∙ f);
  }

  ends_take : {l : LockNo} {mode : Mode} {op : Op} {e : Event} → actions.Taking plan r t l mode op e
      → IsAtOperation plan r t (Some op) → EndsTake c (is_taking_back (s.log t)) e l.0
  ends_take (actions.anew l mode j e) i =
      (refl, waits_back (s.log t) ∙ ap is_some (awake plan r t k (Take l mode) i.next refl))
  ends_take (actions.back d e w) i = (refl, waits_back (s.log t) ∙ ap is_some w)

  notes_gain : {l : LockNo} {mode : Mode} {op : Op} {by_try : Bool} {e : Event}
      → actions.Gaining plan r t l mode op by_try e → IsAtOperation plan r t (Some op)
      → (j : ℕ) → s.taking t ≡ Some j → EndsTake c (is_taking_back (s.log t)) e j
  notes_gain {l} {e = e} (actions.by_taking by) i j f =
      subst (EndsTake c (is_taking_back (s.log t)) e)
      (same_Some l.0 j (sym (wants_it plan r t k by i) ∙ sym (k.taking t) ∙ f)) (ends_take by i)
  notes_gain (actions.by_trying l mode past) i j f = none_taken r t j (at_operation (Try l mode past) i refl refl) f

  -- 3. A thread that runs again

  back_from : (q : QueueName) → ((d : ChanNo) → q ≡ Chan d → is_taking_back (s.log t) ≡ true) → IsBackFrom s t q
  back_from q h = grind arith

-- 4. Action by action

acquired : (plan : Plan) (r : Run) (t : ℕ) (action : Action) → IsProper plan → IsOnTrack plan r
    → actions.Acquires plan r t action → KeepToOrder (config_of plan) r.state action.steps
unfolding after_gain after_claim after_ready
acquired plan r t _ p k (actions.gains by i a f) = (in_order plan r t p k by i, (notes_gain plan r t p k by i, tt))
acquired plan r t _ p k (actions.claims by i a f) = (in_order plan r t p k by i, (notes_gain plan r t p k by i, tt))
acquired plan r t _ p k (actions.enters by i a (actions.on_turnstile x)) = (tt, (wants_it plan r t k by i, tt))
acquired plan r t _ p k (actions.enters by i a (actions.on_sleep_queue x)) = (tt, (wants_it plan r t k by i, tt))

pub action_keeps_order : (plan : Plan) (r : Run) (t : ℕ) (action : Action) → IsProper plan → IsOnTrack plan r
    → t < length plan.threads → actions.Fits plan r t action → KeepToOrder (config_of plan) r.state action.steps
unfolding after_look after_stamp after_ready after_wake after_admit after_refuse WokenSlept
action_keeps_order plan r t _ p k lt (actions.is_over e) = tt
action_keeps_order plan r t _ p k lt (actions.lends l o h w e f) = (tt, tt)
action_keeps_order plan r t _ p k lt (actions.ends_at_lock l w e) = (tt, tt)
action_keeps_order plan r t _ p k lt (actions.shifts o l w e f) = (tt, tt)
action_keeps_order plan r t _ p k lt (actions.ends_at_thread o w f) = (tt, tt)
action_keeps_order plan r t _ p k lt (actions.marks m ms w e) = (tt, tt)
action_keeps_order plan r t _ p k lt (actions.gives_up {l} w u e back) =
    gives_quietly plan r t l _ r.state back (releasing plan r t p k l e)
action_keeps_order plan r t _ p k lt (actions.is_queued e f i) = tt
action_keeps_order plan r t _ p k lt (actions.resumes q cause f e) = (
  back_from plan r t p k q (λ d i. slept_back d.0 (r.state.log t)
      (k.sleepers.woken_slept t d.0 cause (e ∙ ap (λ (x : QueueName). Woken x cause) i))),
  tt,
)
action_keeps_order plan r t action p k lt (actions.acquires a) = acquired plan r t action p k a
action_keeps_order plan r t _ p k lt (actions.is_admitted {l} {mode} {action} b e a) = (
  tt,
  acquired plan (admitted plan r t l) t action p
      (admitted_on_track plan r t l mode p k lt b (found_admitted plan r t l mode p k lt b e)) a,
)
action_keeps_order plan r t _ p k lt (actions.is_refused j b e) =
    (tt, (λ j. none_taken r t j (quiet plan r t p k b.wants), tt))
action_keeps_order plan r t _ p k lt (actions.finds_busy l mode past i e) =
    let none = at_operation plan r t p k (Try l mode past) i refl refl in
    (record { taken = none_taken r t l.0 none; wants = λ x. absurd cc }, (λ j. none_taken r t j none, tt))
action_keeps_order plan r t _ p k lt (actions.releases l i back) =
    gives_back plan r t l.0 _ l _ back (at_operation plan r t p k (Release l) i refl refl)
action_keeps_order plan r t _ p k lt (actions.sleeps d i e) =
    let none = quiet plan r t p k (wants_none plan r t k e (Sleep d) i.next refl) in
    let still = put_same r.state.taking t (r.state.taking t) ∙ none in (
      tt,
      (
        λ j. none_taken r t j none,
        (record { takes = still; last = record { others = _; last = gained_last plan r t p k lt d i e } }, tt),
      ),
    )
action_keeps_order plan r t _ p k lt (actions.wakes {op} d by i) = let q = wake_is_quiet d by in
    (tt, (λ j. none_taken r t j (at_operation plan r t p k op i q.0 q.1), tt))
action_keeps_order plan r t _ p k lt (actions.makes_entry op e i n) = let q = is_quiet r t op e n in
    (λ j. none_taken r t j (at_operation plan r t p k op i q.0 q.1), tt)
action_keeps_order plan r t _ p k lt (actions.gives_last_back h hs i e back) =
    gives_back plan r t h.lock _ (record { 0 = h.lock }) _ back (quiet plan r t p k (k.cut_wants_nothing t i.cut))
action_keeps_order plan r t _ p k lt (actions.has_nothing_left e i f) = tt
action_keeps_order plan r t _ p k lt (actions.has_no_operation e i) = tt
action_keeps_order plan r t _ p k lt (actions.is_at_endtry i) = tt
