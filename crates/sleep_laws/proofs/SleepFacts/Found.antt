-- Who stands on a channel's queue sleeps in the history, and who sleeps in the history is found there, or is at work on
-- the channel, or was taken off by the thread that is.
use Rattle.sleep_laws.proofs.Names
use Names.{ℕ, zero, suc, true, Option, Some, None, refl, sym, ap, inl, inr, arith, cases_eq, Config, sum_below}
use Names.{is_asleep, chan_queue, stands, QueueName, State, Wake, Lawful, StandsOnce, times_marked, signals_noted}
use Names.{aborts, aborted, SleepersFit, WasTakenBy, IsWithChannel, WasAborted, NamedAreWoken, SleepersWantNothing}
use Names.{AsleepStandThere, UnnotedAreMarked, UnnotedIsAtWork, off, sum_below-at, is_queue_same, standing_named}
use Names.{times_named, signals_named}
use Rattle.std.proofs.Common.{◌≡◌, ◌⊎◌, ◌<◌, ◌≤◌, ◌∙◌}
use Rattle.sleep_laws.proofs.SleepFacts.Entries.{asleep_unnamed}
use Rattle.sleep_laws.proofs.SleepFacts.Known.{named_asleep, is_at_work}
use Rattle.sleep_laws.proofs.SleepFacts.Off.{marks_split}

-- a sum that isn't 0 has an entry that isn't
pub sum_below-some : (n : ℕ) (f : ℕ → ℕ) → 1 ≤ sum_below n f → (j : ℕ) × (j < n) × (1 ≤ f j)
unfolding sum_below
sum_below-some zero f h = absurd (omega arith)
sum_below-some (suc n) f h = elim (cases_eq (f n) 0) [
  | inl e ↦ let r = sum_below-some n f (omega arith) in (r.0, omega (arith, r.1), r.2)
  | inr e ↦ (n, omega arith, omega arith)
]

module _ {at_work : ℕ → Option ℕ} {c : Config} {s : State} (l : Lawful c s)
    (h : SleepersFit at_work c s) (t d : ℕ) where
  -- 1. Who stands there

  module _ (i : 1 ≤ stands t (s.lists (chan_queue d))) where
    named : s.blocked_on t ≡ Some (chan_queue d)
    named = standing_named c s t (chan_queue d) l i

    pub stander_asleep : is_asleep s.history d t ≡ true
    unfolding StandsOnce
    stander_asleep = named_asleep l h t d named (λ v k.
        let a = sum_below-at c.threads (λ w. times_marked t (chan_queue d) (s.marked w)) v k in
        let b = signals_named c s t l (chan_queue d) v k named in
        grind (arith, l.waits.stands_once t (chan_queue d), is_queue_same (chan_queue d)))

    pub stander_wants : s.wanted t ≡ None
    unfolding SleepersWantNothing
    stander_wants = h.sleepers_want_nothing t d named

  -- 2. Who sleeps

  module _ (a : is_asleep s.history d t ≡ true) (unaborted : off c s t ≡ 0) where
    no_aborts : (v : ℕ) → v < c.threads → aborts t (s.marked v) ≡ 0
    unfolding aborted
    no_aborts v k = let b = sum_below-at c.threads (λ w. aborts t (s.marked w)) v k in omega (arith, unaborted)

    -- a mark of a thread that sleeps is of a wake that isn't noted yet
    taken_by : (v : ℕ) → v < c.threads → 1 ≤ times_marked t (chan_queue d) (s.marked v)
        → (o : Option Wake) → s.unstamped v ≡ o → WasTakenBy at_work s t d v
    unfolding NamedAreWoken UnnotedAreMarked UnnotedIsAtWork
    taken_by v k i None e = absurd (
        let b = sum_below-at c.threads (λ w. signals_noted t (s.unstamped w) (s.marked w)) v k in
        let m = marks_split t d (s.marked v) in
        grind (arith, h.named_are_woken t, asleep_unnamed s.history d t a, no_aborts v k))
    taken_by v k i (Some w) e =
        let p = h.unnoted_are_marked v w t e in
        let m = marks_split t d (s.marked v) in
        let there = times_named c s t v (chan_queue w.chan) l k (omega (arith, p.0, p.1, no_aborts v k)) in
        let here = times_named c s t v (chan_queue d) l k i in
        let j : w.chan ≡ d = grind (arith, there, here) in
        record {
          works = ap at_work (sym j) ∙ h.unnoted_is_at_work v w e;
          marked = i;
          wake = w;
          unnoted = e;
        }

    found : (o : Option QueueName) → s.blocked_on t ≡ o → IsWithChannel at_work s t d
    unfolding StandsOnce AsleepStandThere
    found None e = inr (inl (is_at_work l h t d a unaborted e))
    found (Some q) e =
        let y = h.asleep_stand_there t d q a unaborted e in
        let once = l.waits.stands_once t (chan_queue d) in
        let same = is_queue_same (chan_queue d) in
        elim (cases_eq (stands t (s.lists (chan_queue d))) 0) [
          | inl z ↦
              let in_list = λ (v : ℕ). times_marked t (chan_queue d) (s.marked v) in
              let r = sum_below-some c.threads in_list (grind arith) in
              inr (inr (r.0, taken_by r.0 r.1 r.2 (s.unstamped r.0) refl))
          | inr z ↦ inl (omega arith)
        ]

    pub sleeper_found : IsWithChannel at_work s t d
    sleeper_found = found (s.blocked_on t) refl

  pub found_or_aborted : is_asleep s.history d t ≡ true → WasAborted c s t ⊎ IsWithChannel at_work s t d
  found_or_aborted a = elim (cases_eq (off c s t) 0) [
    | inl z ↦ inr (sleeper_found a z)
    | inr ne ↦ inl (omega (arith, ne))
  ]
