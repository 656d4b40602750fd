-- Each entry of a waking, and of a woken thread, fits the sleepers behind the history, and nobody is passed over.
use Rattle.sleep_laws.proofs.Names
use Names.{ℕ, zero, suc, Bool, true, false, eqb, List, [], Option, Some, refl, sym, ap, inl, inr, arith, subst, ne_eqb}
use Names.{nat_tests, Config, any_below, one, times, has_bit, is_asleep, is_named, passes_over, goes_before}
use Names.{comes_before_named, leaves_asleep, Fits, FitsSleepers, WakesOne, WakesAll, Waiter, chan_queue, times_waiting}
use Names.{Event, Woke, HaltedChan, WokeOne, WokeAll, State, Wake, MayStamp, IsTheWake, bits_of_threads, is_taking_back}
use Names.{Lawful, LeavesNobodyBefore, is_chan_halt, aborted, SleepersFit, IsWithChannel, NamedAreWoken, AbortedSleep}
use Names.{SleepersAreExclusive, UnnotedAreMarked, UnnotedIsAtWork, UnnotedIsFair, off, no_bits}
use Rattle.std.proofs.Common.{◌≡◌, ◌≢◌, ◌+◌, ◌<◌, ◌≤◌, ◌&&◌, ◌∷◌, ◌∙◌}
use Rattle.sleep_laws.proofs.SleepFacts.Best.{each_at}
use Rattle.sleep_laws.proofs.SleepFacts.Found.{sleeper_found}
use Rattle.sleep_laws.proofs.SleepFacts.Known.{taken_asleep, taken_bits}

any_below-none : (n : ℕ) (f : ℕ → Bool) → ((j : ℕ) → f j ≡ false) → any_below n f ≡ false
unfolding any_below
any_below-none zero f h = refl
any_below-none (suc n) f h = rw (h n) (any_below-none n f h)

-- the one thread of a list of one
only : (u x : ℕ) → 1 ≤ times u (x ∷ []) → u ≡ x
only u x k = grind (arith, nat_tests)

-- the wake that a waking notes
pub the_wake : (o : Option Wake) (d woken : ℕ) (all : Bool) → IsTheWake o d all woken
    → (w : Wake) × (o ≡ Some w) × (w.chan ≡ d) × (w.all ≡ all) × (woken ≡ bits_of_threads w.taken)
the_wake o d woken all a = grind arith

module _ {at_work : ℕ → Option ℕ} {c : Config} {s : State} (l : Lawful c s)
    (h : SleepersFit at_work c s) (t : ℕ) (lt : t < c.threads) where
  module _ (w : Wake) (e : s.unstamped t ≡ Some w) where
    abbrev bits : ℕ
    bits = bits_of_threads w.taken

    -- who is left on the queue
    abbrev left : List Waiter
    left = (s.lists (chan_queue w.chan)).exclusive

    -- 1. A waking names sleepers

    in_bits : (u : ℕ) → has_bit u bits ≡ true → 1 ≤ times u w.taken
    in_bits u b = grind (arith, taken_bits l h t lt w e u)

    names_asleep : (u : ℕ) → has_bit u bits ≡ true → is_asleep s.history w.chan u ≡ true
    names_asleep u b = taken_asleep l h t lt w e u (in_bits u b)

    leaves : (all : Bool) → w.all ≡ all → LeavesNobodyBefore c s.history all w.taken left
    unfolding UnnotedIsFair
    leaves all a =
        subst (λ b. LeavesNobodyBefore c s.history b w.taken left) a (h.unnoted_is_fair t w lt e)

    names_one : w.all ≡ false → (u v : ℕ) → has_bit u bits ≡ true → has_bit v bits ≡ true → u ≡ v
    names_one a u v i j = go w.taken (leaves false a) (in_bits u i) (in_bits v j)
      where
        go : (us : List ℕ) → LeavesNobodyBefore c s.history false us left → 1 ≤ times u us
            → 1 ≤ times v us → u ≡ v
        go us p i j = grind arith

    -- 2. It passes over nobody

    module _ (u : ℕ) (ne : t ≢ u) (unaborted : off c s u ≡ 0) where
      -- a sleeper that it doesn't name, and that wasn't aborted, is left on the queue
      stays : times u w.taken ≡ 0 → IsWithChannel at_work s u w.chan → 1 ≤ times_waiting u left
      unfolding SleepersAreExclusive UnnotedAreMarked UnnotedIsAtWork
      stays z (inl x) = grind (arith, ap (times_waiting u) (h.sleepers_are_exclusive w.chan))
      stays z (inr (inl x)) =
          absurd (let y : Some t ≡ Some u = sym (h.unnoted_is_at_work t w e) ∙ x in ne cc)
      stays z (inr (inr x)) = absurd (
          let y : Some t ≡ Some x.0 = sym (h.unnoted_is_at_work t w e) ∙ x.1.works in
          let i : t ≡ x.0 = cc in
          let m = rw (← i) at x.1.marked in
          omega (arith, (h.unnoted_are_marked t w u e).1))

      unnamed_stays : is_asleep s.history w.chan u ≡ true → has_bit u bits ≡ false
          → 1 ≤ times_waiting u left
      unnamed_stays a b =
          stays (grind (arith, taken_bits l h t lt w e u)) (sleeper_found l h u w.chan a unaborted)

      passes_none : w.all ≡ true → leaves_asleep c s.history (WakesAll w.chan bits) u ≡ false
      passes_none a = grind (arith, unnamed_stays, ap (times_waiting u) (leaves true a))

      nobody_before : (us : List ℕ) → us ≡ w.taken → LeavesNobodyBefore c s.history false us left
          → 1 ≤ times_waiting u left → comes_before_named c s.history bits u ≡ false
      nobody_before [] i p k = absurd (let z = ap (times_waiting u) p in omega arith)
      nobody_before (x ∷ us) i p k =
          let empty : bits ≡ 0 → x ∷ us ≡ [] = (λ z. i ∙ no_bits w.taken z) in
          let some_bits : eqb bits 0 ≡ false = ne_eqb bits 0 (λ z. let y = empty z in cc) in
          rw some_bits
          (any_below-none c.threads (λ v. has_bit v bits && goes_before c s.history u v)
          (λ v. go v (has_bit v bits) refl))
        where
          go : (v : ℕ) (b : Bool) → has_bit v bits ≡ b → (b && goes_before c s.history u v) ≡ false
          go v false y = refl
          go v true y =
              let j = subst (λ z. 1 ≤ times v z) (sym i) (in_bits v y) in
              ap (goes_before c s.history u) (only v x (rw p.0 at j))
              ∙ each_at (λ z. goes_before c s.history z x ≡ false) u left p.1 k

      passes_no_better : w.all ≡ false → leaves_asleep c s.history (WakesOne w.chan bits) u ≡ false
      passes_no_better a =
          let none = nobody_before w.taken refl (leaves false a) in
          grind (arith, unnamed_stays)

    -- 3. Its entry

    module _ (d woken : ℕ) (chan : w.chan ≡ d) (set : woken ≡ bits) where
      one_fits : w.all ≡ false → Fits (WakesOne d woken) s.history t
      one_fits a = rw (set, ← chan) (names_asleep, names_one a)

      all_fit : Fits (WakesAll d woken) s.history t
      all_fit = rw (set, ← chan) names_asleep

      one_leaves : w.all ≡ false → (u : ℕ) → t ≢ u → off c s u ≡ 0
          → leaves_asleep c s.history (WakesOne d woken) u ≡ false
      one_leaves a u ne z = rw (set, ← chan) (passes_no_better u ne z a)

      all_leave : w.all ≡ true → (u : ℕ) → t ≢ u → off c s u ≡ 0
          → leaves_asleep c s.history (WakesAll d woken) u ≡ false
      all_leave a u ne z = rw (set, ← chan) (passes_none u ne z a)

  pub fits : (e : Event) → MayStamp c s t e → FitsSleepers e s.history t
  unfolding NamedAreWoken AbortedSleep aborted
  fits (WokeOne d woken) g =
      let p = the_wake (s.unstamped t) d.0 woken false g.asks in
      one_fits p.0 p.1 d.0 woken p.2 p.4 p.3
  fits (WokeAll d woken) g =
      let p = the_wake (s.unstamped t) d.0 woken true g.asks in
      all_fit p.0 p.1 d.0 woken p.2 p.4
  fits (Woke d) g = grind (arith, h.named_are_woken t, g.asks.1)
  fits (HaltedChan d) g =
      let n = ap is_chan_halt g.asks.1 in
      unnamed (is_named s.history t) refl (is_taking_back (s.log t)) (omega (arith, h.aborted_sleep t))
    where
      unnamed : (b : Bool) → is_named s.history t ≡ b → (k : Bool) → 1 + one (is_named s.history t) ≤ one k
          → is_named s.history t ≡ false
      unnamed false e k i = e
      unnamed true e true i = absurd (let z = ap one e in omega arith)
      unnamed true e false i = absurd (omega arith)
  fits other g = tt

  pub over_nobody : (e : Event) → MayStamp c s t e → (u : ℕ) → t ≢ u → off c s u ≡ 0
      → passes_over c s.history e u ≡ false
  over_nobody (WokeOne d woken) g =
      let p = the_wake (s.unstamped t) d.0 woken false g.asks in
      one_leaves p.0 p.1 d.0 woken p.2 p.4 p.3
  over_nobody (WokeAll d woken) g =
      let p = the_wake (s.unstamped t) d.0 woken true g.asks in
      all_leave p.0 p.1 d.0 woken p.2 p.4 p.3
  over_nobody other g = λ u ne z. refl
