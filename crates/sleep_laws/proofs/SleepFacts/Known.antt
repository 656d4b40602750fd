-- What the facts say of a thread that sleeps, and of a wake that is not noted yet: whom it took is in its thread's
-- marked list, and sleeps on in the history until the wake is noted.
use Rattle.sleep_laws.proofs.Names
use Names.{ℕ, true, false, Option, Some, None, sym, ap, arith, Config, one, times, has_bit, is_asleep, is_named}
use Names.{chan_queue, State, Wake, bits_of_threads, IsOnItsWay, has_slept, Lawful, StandingIsQueued, LogsAreParts}
use Names.{times_marked, signals, signals_noted, is_signalled, is_chan_halt, aborted, SleepersFit, NamedAreWoken}
use Names.{SleepersSlept, SleepersAreUnwoken, AsleepAreOnTheirWay, UnnotedAreMarked, UnnotedIsAtWork, off}
use Names.{sum_below-zero, times_named, bit_of, signals_named, marked_once, marked_nowhere_else}
use Rattle.std.proofs.Common.{◌≡◌, ◌<◌, ◌≤◌, ◌∙◌}
use Rattle.sleep_laws.proofs.SleepFacts.Entries.{asleep_slept, slept_asleep, asleep_unnamed, slept_back}

module _ {at_work : ℕ → Option ℕ} {c : Config} {s : State} (l : Lawful c s)
    (h : SleepersFit at_work c s) where
  -- 1. Who sleeps in the history

  -- in no marked list of a noted wake is the thread by a signal from a channel
  abbrev pub Unmarked : ℕ → Type 0
  Unmarked t = (v : ℕ) → v < c.threads → signals_noted t (s.unstamped v) (s.marked v) ≡ 0

  -- behind its Sleeps entry a thread sleeps that no such list, no wait word and no resume says to be woken
  pub asleep : (t d : ℕ) → has_slept d (s.log t) ≡ true → Unmarked t → is_signalled (s.wait t) ≡ 0
      → s.woken_from t ≡ None → is_asleep s.history d t ≡ true
  unfolding NamedAreWoken LogsAreParts
  asleep t d e none wait from =
      let b = sum_below-zero c.threads (λ v. signals_noted t (s.unstamped v) (s.marked v)) none in
      let n : is_named s.history t ≡ false = grind (arith, h.named_are_woken t) in
      slept_asleep s.history d t (ap (has_slept d) (sym (l.books.logs_are_parts t)) ∙ e) n

  -- so does one whose record names a channel
  pub named_asleep : (t d : ℕ) → s.blocked_on t ≡ Some (chan_queue d) → Unmarked t
      → is_asleep s.history d t ≡ true
  unfolding SleepersSlept SleepersAreUnwoken StandingIsQueued
  named_asleep t d e none =
      let q = ap is_signalled (l.waits.standing_is_queued t (chan_queue d) e) in
      asleep t d (h.sleepers_slept t d e) none q (h.sleepers_are_unwoken t d e)

  module _ (t d : ℕ) (a : is_asleep s.history d t ≡ true) where
    pub slept : has_slept d (s.log t) ≡ true
    unfolding LogsAreParts
    slept = ap (has_slept d) (l.books.logs_are_parts t) ∙ asleep_slept s.history d t a

    -- it stands on no queue, and wasn't aborted
    module _ (z : off c s t ≡ 0) (n : s.blocked_on t ≡ None) where
      pub is_at_work : at_work d ≡ Some t
      unfolding AsleepAreOnTheirWay
      is_at_work = (h.asleep_are_on_their_way t d a z n).2

      pub on_its_way : IsOnItsWay s t
      unfolding AsleepAreOnTheirWay NamedAreWoken aborted
      on_its_way =
          let p = h.asleep_are_on_their_way t d a z n in
          let unnamed = asleep_unnamed s.history d t a in
          record {
            queued = p.0;
            nowhere = n;
            wants = p.1;
            slept = slept_back d (s.log t) slept;
            unwoken = grind (arith, h.named_are_woken t);
            unhalted = λ k e. let i = ap is_chan_halt e in omega (arith, z, i);
          }

  -- 2. A wake that is not noted yet

  -- is of the one thread that is at work on its channel
  pub its_thread : (t d v : ℕ) (w : Wake) → at_work d ≡ Some t → s.unstamped v ≡ Some w → d ≡ w.chan
      → t ≡ v
  unfolding UnnotedIsAtWork
  its_thread t d v w o f x =
      let z : Some t ≡ Some v = sym o ∙ ap at_work x ∙ h.unnoted_is_at_work v w f in
      cc

  module _ (t : ℕ) (lt : t < c.threads) (w : Wake) (e : s.unstamped t ≡ Some w) where
    -- whom it took
    module _ (u : ℕ) (i : 1 ≤ times u w.taken) where
      its_marks : (times u w.taken ≡ signals u (s.marked t))
          × (times u w.taken ≡ times_marked u (chan_queue w.chan) (s.marked t))
      unfolding UnnotedAreMarked
      its_marks = h.unnoted_are_marked t w u e

      pub taken_named : s.blocked_on u ≡ Some (chan_queue w.chan)
      taken_named = times_named c s u t (chan_queue w.chan) l lt (omega (arith, its_marks.1))

      taken_once : times u w.taken ≤ 1
      taken_once = omega (arith, its_marks.1, marked_once c s u l (chan_queue w.chan) t lt)

      unmarked : Unmarked u
      unmarked v k =
          let q = chan_queue w.chan in
          let a = signals_named c s u l q v k taken_named in
          grind (arith, e, its_marks.1, marked_nowhere_else c s u l q t v lt k)

      pub taken_asleep : is_asleep s.history w.chan u ≡ true
      taken_asleep = named_asleep u w.chan taken_named unmarked

    -- the set of their bits
    pub taken_bits : (u : ℕ) → one (has_bit u (bits_of_threads w.taken)) ≡ times u w.taken
    taken_bits u = bit_of u w.taken (λ j. grind (arith, taken_once j))
