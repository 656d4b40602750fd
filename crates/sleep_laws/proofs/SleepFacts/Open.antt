-- An open of a lock, of either sort, keeps the facts of sleepers: the marked list was empty, and gets no mark of a
-- channel.
use Rattle.sleep_laws.proofs.Names
use Names.{ℕ, List, [], Option, refl, sym, ap, arith, Config, Waiter, Mark, lock_queue, chan_queue, list_of, dealt}
use Names.{side_woken, State, put, put_queue, after_open, after_open_sleep, times_marked, AreSignals, signals, aborts}
use Names.{aborted, SleepersFit, NamedAreWoken, AbortedSleep, MarksAreSignals, AsleepStandThere, AsleepAreOnTheirWay}
use Names.{SleepersInOrder, LatecomersAreLater, SleepersKeepBase, SleepersAreExclusive, UnnotedAreMarked, UnnotedIsFair}
use Names.{PassedOverAreAborted, off, columns, at_put, times_marked-elsewhere, marked_sum, no_signals_of_lock}
use Names.{all_signals-dealt}
use Rattle.std.proofs.Common.{◌≡◌, ◌<◌, ◌∙◌}
use Rattle.sleep_laws.proofs.SleepFacts.Off.{off_marked, no_aborts-dealt}

module _ {at_work : ℕ → Option ℕ} {c : Config} {s : State} (h : SleepersFit at_work c s)
    (t k : ℕ) (lt : t < c.threads) (unmarked : s.marked t ≡ []) where
  abbrev ws : List Waiter
  ws = list_of (side_woken (c.kind k) (s.word k)) (s.lists (lock_queue k))

  abbrev free : List ℕ
  free = s.free_list (lock_queue k)

  abbrev head : Option ℕ
  head = s.head (lock_queue k)

  abbrev ms : List Mark
  ms = dealt (lock_queue k) ws free head

  abbrev marked : ℕ → List Mark
  marked = put s.marked t ms

  no_signals : (u : ℕ) → signals u ms ≡ 0
  no_signals u = no_signals_of_lock u k ws free head

  no_marks : (u d : ℕ) → times_marked u (chan_queue d) ms ≡ 0
  no_marks u d = times_marked-elsewhere u (chan_queue d) (lock_queue k) refl ws free head

  named : NamedAreWoken c s.history marked s.unstamped s.wait s.woken_from
  unfolding NamedAreWoken
  named u =
      let a = marked_sum c.threads t u s.unstamped s.marked ms lt in
      grind (arith, columns, h.named_are_woken u, no_signals u, unmarked)

  listed : MarksAreSignals s.halted marked
  unfolding MarksAreSignals
  listed i = at_put (λ u x. AreSignals x) s.marked t ms
      (all_signals-dealt (lock_queue k) ws free head) (λ u ne. h.marks_are_signals i u)

  abbrev behind : ℕ → ℕ
  behind = aborted c marked s.wait s.noted

  same : behind ≡ off c s
  same = off_marked c s t ms lt (λ u. ap (aborts u) unmarked ∙ sym (no_aborts-dealt u (lock_queue k) ws free head))

  slept_on : AbortedSleep s.history behind s.log
  slept_on = rw same h.aborted_sleep

  there : AsleepStandThere s.history s.blocked_on behind
  there = rw same h.asleep_stand_there

  way : AsleepAreOnTheirWay s.history s.blocked_on behind s.wait s.wanted at_work
  way = rw same h.asleep_are_on_their_way

  later : LatecomersAreLater s.history s.blocked_on behind s.lists
  later = rw same h.latecomers_are_later

  over : PassedOverAreAborted c s.history behind
  over = rw same h.passed_over_are_aborted

  took : UnnotedAreMarked s.unstamped marked
  unfolding UnnotedAreMarked
  took v w u e =
      let p = h.unnoted_are_marked v w u e in
      let a = no_signals u in
      let b = no_marks u w.chan in
      (grind (arith, columns, p.0, unmarked), grind (arith, columns, p.1, unmarked))

  pub opens : SleepersFit at_work c (after_open c s t k)
  unfolding after_open put_queue SleepersInOrder LatecomersAreLater SleepersKeepBase SleepersAreExclusive UnnotedIsFair
  opens = assumption (h, named, listed, took, slept_on, there, way, later, over)

  pub opens_sleep_queue : SleepersFit at_work c (after_open_sleep c s t k)
  unfolding after_open_sleep put_queue SleepersInOrder LatecomersAreLater SleepersKeepBase SleepersAreExclusive
      UnnotedIsFair
  opens_sleep_queue = assumption (h, named, listed, took, slept_on, there, way, later, over)
