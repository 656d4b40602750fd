-- In a scheduled run nobody is halted, and no waking passes over a sleeper: that would be passed over to the end, since
-- its next entry would tell of a halt, and nobody was aborted. So the end of the history is a moment from which its
-- halts come.
use Rattle.run_laws.proofs.Names
use Names.{ℕ, Bool, true, false, List, [], length, refl, sym, ap, inl, inr, eq-eqb, arith, subst, cases_eq, cases_Bool}
use Names.{ne_eqb, Config, of_sleep, is_waking_of, sleeps_on, HaltsAreHonest, entries_of, LeadsTo, Gives, Point, Before}
use Names.{Asleep, Cut, WakingsNameSleepers, HaltsOnlyWhenRunning, is_asleep, is_passed_over, passes_over, held_of}
use Names.{config_of, operations_of, BySignal, ByAbort, Mark, Kind, Op, Plan, Lock, Chan, Entry, Event, Woke}
use Names.{HaltedChan, Unlocked, Held, NobodyIsHalted, AreSignals, aborts, is_aborted, is_chan_halt, aborted, Run, Wait}
use Names.{Running, Queued, Woken, has_slept, IsOnTrack, point_in, MarksAreSignals, PassedOverAreAborted, off}
use Names.{asleep_slept, sum_below-zero, none_since, halts_to_come}
use Rattle.std.proofs.Common.{◌≡◌, ◌∷◌}
use Rattle.lock_model.specs.Law as law
use Rattle.sleep_laws.specs.Sleepers.{WokenBySignal}

-- 1. A thread that sleeps makes no waking

-- where the newest of its entries is a Sleeps entry, they have led it into a wait,
abbrev is_in_wait : Point → Bool
is_in_wait (Before n) = false
is_in_wait (Asleep n) = true
is_in_wait (Cut hs) = false

slept_by : (kind : ℕ → Kind) (held : List Held) (n : ℕ) (op : Op) (e : Event) (p : Point) → Gives kind held n op e p
    → (d : ℕ) → sleeps_on e d ≡ true → is_in_wait p ≡ true
slept_by kind held n op e p g d f = grind arith

slept_waits : (kind : ℕ → Kind) (ops : List Op) (es : List Entry) (p : Point) → LeadsTo kind ops es p → (d : ℕ)
    → has_slept d es ≡ true → is_in_wait p ≡ true
slept_waits kind ops _ _ law.begins d f = absurd cc
slept_waits kind ops _ p (law.goes_on {n = n} {o = o} e h next g) d f =
    slept_by kind (held_of ops n) n o e.event p g d f
slept_waits kind ops es _ (law.skips_endtry {n = n} h next) d f =
    absurd (let z = slept_waits kind ops es (Before n) h d f in cc)
slept_waits kind ops _ _ (law.wakes_up {d = k} e h next x) d f =
    absurd (let z : sleeps_on (Woke k) d ≡ true = subst (λ v. sleeps_on v d ≡ true) x f in cc)
slept_waits kind ops _ _ (law.is_woken_by_a_halt {d = k} e h next x) d f =
    absurd (let z : sleeps_on (HaltedChan k) d ≡ true = subst (λ v. sleeps_on v d ≡ true) x f in cc)
slept_waits kind ops _ _ (law.gives_back {h = h} e w x) d f =
    absurd (let z : sleeps_on (Unlocked h.l h.mode) d ≡ true = subst (λ v. sleeps_on v d ≡ true) x f in cc)

-- and the next one ends that, so it is no waking
wakes_nobody : (kind : ℕ → Kind) (ops : List Op) (e : Entry) (es : List Entry) (p : Point)
    → LeadsTo kind ops (e ∷ es) p → (d : ℕ) → has_slept d es ≡ true → is_waking_of (of_sleep e.event) ≡ false
wakes_nobody kind ops _ es p (law.goes_on {n = n} e h next g) d f =
    absurd (let z = slept_waits kind ops es (Before n) h d f in cc)
wakes_nobody kind ops e es _ (law.skips_endtry {n = n} h next) d f = wakes_nobody kind ops e es (Before n) h d f
wakes_nobody kind ops _ es _ (law.wakes_up e h next x) d f = ap (λ v. is_waking_of (of_sleep v)) x
wakes_nobody kind ops _ es _ (law.is_woken_by_a_halt e h next x) d f = ap (λ v. is_waking_of (of_sleep v)) x
wakes_nobody kind ops _ es _ (law.gives_back e h x) d f = ap (λ v. is_waking_of (of_sleep v)) x

-- so no waking passes over its own thread
own_passes : (c : Config) (es : List Entry) (t : ℕ) (e : Event)
    → ((d : ℕ) → is_asleep es d t ≡ true → is_waking_of (of_sleep e) ≡ false) → passes_over c es e t ≡ false
own_passes c es t e f = grind arith

-- 2. Where nobody is passed over at the end, nobody was before

-- entries that lead somewhere did so before the newest
led_before : (kind : ℕ → Kind) (ops : List Op) (e : Entry) (es : List Entry) (p : Point)
    → LeadsTo kind ops (e ∷ es) p → (q : Point) × LeadsTo kind ops es q
led_before kind ops _ es p (law.goes_on {n = n} e h next g) = (Before n, h)
led_before kind ops e es _ (law.skips_endtry {n = n} h next) = led_before kind ops e es (Before n) h
led_before kind ops _ es _ (law.wakes_up {n = n} e h next x) = (Asleep n, h)
led_before kind ops _ es _ (law.is_woken_by_a_halt {n = n} e h next x) = (Asleep n, h)
led_before kind ops _ es _ (law.gives_back {h = h} {hs = hs} e w x) = (Cut (h ∷ hs), w)

module _ (c : Config) (kind : ℕ → Kind) (ops : ℕ → List Op) where
  abbrev Leads : List Entry → ℕ → Type 0
  Leads es t = (p : Point) × LeadsTo kind (ops t) (entries_of es t) p

  module _ (e : Entry) (es : List Entry) where
    own_leads : Leads (e ∷ es) e.thread.0 → (p : Point) × LeadsTo kind (ops e.thread.0) (e ∷ entries_of es e.thread.0) p
    own_leads f = rw (eq-eqb e.thread.0 e.thread.0 refl) at f

    earlier : (t : ℕ) → Leads (e ∷ es) t → Leads es t
    earlier t f = elim (cases_eq e.thread.0 t) [
      | inl i ↦ subst (Leads es) i (
          let own = own_leads (subst (Leads (e ∷ es)) (sym i) f) in
          led_before kind (ops e.thread.0) e (entries_of es e.thread.0) own.0 own.1)
      | inr i ↦ rw (ne_eqb e.thread.0 t i) at f
    ]

    itself : Leads (e ∷ es) e.thread.0 → passes_over c es e.event e.thread.0 ≡ false
    itself f =
        let own = own_leads f in
        own_passes c es e.thread.0 e.event (λ d a.
        wakes_nobody kind (ops e.thread.0) e (entries_of es e.thread.0) own.0 own.1 d (asleep_slept es d e.thread.0 a))

  nobody_halted : (es : List Entry) → WakingsNameSleepers c es → HaltsOnlyWhenRunning false es
      → ((t : ℕ) → Leads es t) → ((t : ℕ) → is_passed_over c es t ≡ false) → NobodyIsHalted c es
  unfolding WakingsNameSleepers HaltsOnlyWhenRunning NobodyIsHalted is_passed_over
  nobody_halted [] w r f n = tt
  nobody_halted (e ∷ es) w r f n =
      (r.0 refl, over, nobody_halted es w.2 r.1 (λ t. earlier e es t (f t)) unpassed)
    where
      over : (t : ℕ) → passes_over c es e.event t ≡ false
      over t = elim (cases_eq e.thread.0 t) [
        | inl i ↦ subst (λ u. passes_over c es e.event u ≡ false) i (itself e es (f e.thread.0))
        | inr i ↦ grind (arith, n t)
      ]

      own : is_passed_over c es e.thread.0 ≡ false
      own = grind arith

      unpassed : (t : ℕ) → is_passed_over c es t ≡ false
      unpassed t = grind arith

-- 3. A run on track

no_aborts : (t : ℕ) (ms : List Mark) → AreSignals ms → aborts t ms ≡ 0
no_aborts t [] a = refl
no_aborts t (m ∷ ms) a = let rest = no_aborts t ms a.1 in let i = a.0 in grind (arith)

module _ (plan : Plan) (r : Run) (k : IsOnTrack plan r) where
  -- nobody is aborted, so nobody is passed over,
  unaborted : (t : ℕ) → off (config_of plan) r.state t ≡ 0
  unfolding aborted MarksAreSignals WokenBySignal
  unaborted t =
      let a = sum_below-zero (config_of plan).threads (λ u. aborts t (r.state.marked u))
      (λ u lt. no_aborts t (r.state.marked u) (k.sleepers.marks_are_signals k.halted u)) in
      let b = by_wait (r.state.wait t) refl in
      let d = ap is_chan_halt (k.unnoted t) in
      omega arith
    where
      by_wait : (w : Wait) → r.state.wait t ≡ w → is_aborted w ≡ 0
      by_wait Running e = refl
      by_wait Queued e = refl
      by_wait (Woken (Lock l) cause) e = refl
      by_wait (Woken (Chan d) BySignal) e = refl
      by_wait (Woken (Chan d) ByAbort) e =
          absurd (let z = k.sleepers.woken_by_signal k.halted t (Chan d) ByAbort e in cc)

  unpassed : (t : ℕ) → is_passed_over (config_of plan) r.state.history t ≡ false
  unfolding PassedOverAreAborted
  unpassed t = elim (cases_Bool (is_passed_over (config_of plan) r.state.history t)) [
    | inl a ↦ absurd (omega (arith, k.sleepers.passed_over_are_aborted t a, unaborted t))
    | inr a ↦ a
  ]

  unhalted : NobodyIsHalted (config_of plan) r.state.history
  unhalted =
      nobody_halted (config_of plan) (config_of plan).kind (operations_of plan) r.state.history
      k.sleepers.wakings_name_sleepers k.no_halts (λ t. (point_in plan r t, k.follows t)) unpassed

  -- and the end of the history is before all halts
  pub halts_honest : HaltsAreHonest (config_of plan) r.state.history
  halts_honest =
      let history = r.state.history in
      record {
        moment = length history;
        comes_first = halts_to_come (config_of plan) (length history) history unhalted;
        honest = λ t lt. rw (none_since (length history) history k.lawful.lawful.books.tickets_run (omega arith)) refl;
      }
