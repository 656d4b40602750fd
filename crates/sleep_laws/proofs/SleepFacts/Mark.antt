-- A mark keeps the facts of sleepers: who was taken off a channel and is woken was named by its waking.
use Rattle.sleep_laws.proofs.Names
use Names.{ℕ, true, false, List, Option, Some, None, ap, arith, subst, nat_tests, Config, is_asleep, BySignal, Mark}
use Names.{chan_queue, QueueName, State, Wait, Woken, put, MayMark, after_mark, Lawful, StandingIsQueued, AreSignals}
use Names.{signals, signals_noted, is_signalled, aborts, is_aborted, is_chan_halt, aborted, sum_below, SleepersFit}
use Names.{NamedAreWoken, AbortedSleep, MarksAreSignals, WokenBySignal, SleepersSlept, WokenSlept, SleepersWantNothing}
use Names.{SleepersAreUnwoken, SleepersAreUnhalted, AsleepStandThere, AsleepAreOnTheirWay, LatecomersAreLater}
use Names.{UnnotedAreMarked, PassedOverAreAborted, off, columns, at_put, sum_below-at, sum_below-put, marked_named}
use Names.{marked_sum}
use Rattle.std.proofs.Common.{◌≡◌, ◌+◌, ◌≤◌, ◌∷◌}
use Rattle.sleep_laws.proofs.SleepFacts.Entries.{asleep_unnamed}

module _ {at_work : ℕ → Option ℕ} {c : Config} {s : State} (l : Lawful c s)
    (h : SleepersFit at_work c s) (t : ℕ) (m : Mark) (ms : List Mark) (g : MayMark c s t m ms) where
  abbrev blocked_on : ℕ → Option QueueName
  blocked_on = put s.blocked_on m.thread None

  abbrev wait : ℕ → Wait
  wait = put s.wait m.thread (Woken m.queue m.cause)

  abbrev marked : ℕ → List Mark
  marked = put s.marked t ms

  stood : s.blocked_on m.thread ≡ Some m.queue
  stood = marked_named c s t m ms l g.thread g.marked

  by_signal : s.halted ≡ false → (m.cause ≡ BySignal) × AreSignals ms
  unfolding MarksAreSignals
  by_signal i = subst AreSignals g.marked (h.marks_are_signals i t)

  -- 1. Who was named

  named : NamedAreWoken c s.history marked s.unstamped wait s.woken_from
  unfolding NamedAreWoken StandingIsQueued
  named u =
      let q = ap is_signalled (l.waits.standing_is_queued m.thread m.queue stood) in
      let a = marked_sum c.threads t u s.unstamped s.marked ms g.thread in
      grind (arith, nat_tests, columns, h.named_are_woken u, g.stamped, g.marked)

  listed : MarksAreSignals s.halted marked
  unfolding MarksAreSignals
  listed i = at_put (λ u x. AreSignals x) s.marked t ms (by_signal i).1 (λ u ne. h.marks_are_signals i u)

  causes : WokenBySignal s.halted wait
  unfolding WokenBySignal
  causes i u q cause =
      let z = (by_signal i).0 in
      grind (arith, columns, h.woken_by_signal i u q cause)

  -- the abort of a mark becomes that of a wait word
  abbrev behind : ℕ → ℕ
  behind = aborted c marked wait s.noted

  same : behind ≡ off c s
  unfolding aborted StandingIsQueued
  same i u = here u i
    where
      here : (u : ℕ) → sum_below c.threads (λ v. aborts u (marked v)) + is_aborted (wait u) + is_chan_halt (s.noted u)
          ≡ sum_below c.threads (λ v. aborts u (s.marked v)) + is_aborted (s.wait u) + is_chan_halt (s.noted u)
      here u =
          let q = ap is_aborted (l.waits.standing_is_queued m.thread m.queue stood) in
          let a = sum_below-put c.threads (aborts u) s.marked t ms g.thread in
          let e = ap (aborts u) g.marked in
          grind (arith, nat_tests, columns)

  slept_on : AbortedSleep s.history behind s.log
  slept_on = rw same h.aborted_sleep

  over : PassedOverAreAborted c s.history behind
  over = rw same h.passed_over_are_aborted

  took : UnnotedAreMarked s.unstamped marked
  unfolding UnnotedAreMarked
  took v w u e =
      let p = h.unnoted_are_marked v w u e in
      (grind (arith, columns, p.0, g.stamped), grind (arith, columns, p.1, g.stamped))

  -- 2. Who stands, was woken or sleeps

  slept : SleepersSlept blocked_on s.log
  unfolding SleepersSlept
  slept u d = grind (arith, columns, h.sleepers_slept u d)

  woken : WokenSlept wait s.log
  unfolding WokenSlept SleepersSlept
  woken u d cause =
      grind (arith, columns, h.woken_slept u d cause, h.sleepers_slept u d, stood)

  wants : SleepersWantNothing blocked_on s.wanted
  unfolding SleepersWantNothing
  wants u d = grind (arith, columns, h.sleepers_want_nothing u d)

  unwoken : SleepersAreUnwoken blocked_on s.woken_from
  unfolding SleepersAreUnwoken
  unwoken u d = grind (arith, columns, h.sleepers_are_unwoken u d)

  unhalted : SleepersAreUnhalted blocked_on s.noted
  unfolding SleepersAreUnhalted
  unhalted u d = grind (arith, columns, h.sleepers_are_unhalted u d)

  there : AsleepStandThere s.history blocked_on behind
  unfolding AsleepStandThere
  there = rw same (λ u d q. grind (arith, columns, h.asleep_stand_there u d q))

  in_the_list : (d : ℕ) → m.queue ≡ chan_queue d → 1 ≤ signals m.thread (m ∷ ms) + aborts m.thread (m ∷ ms)
  in_the_list d q = grind arith

  -- the marked thread doesn't sleep in the history any more, where it wasn't aborted
  awake : (d : ℕ) → is_asleep s.history d m.thread ≡ true → off c s m.thread ≡ 0 → ⊥
  unfolding NamedAreWoken AsleepStandThere aborted
  awake d a z =
      let q = h.asleep_stand_there m.thread d m.queue a z stood in
      let f = in_the_list d q in
      let unnamed = asleep_unnamed s.history d m.thread a in
      let in_list = λ (v : ℕ). signals_noted m.thread (s.unstamped v) (s.marked v) in
      let b = sum_below-at c.threads in_list t g.thread in
      let b2 = sum_below-at c.threads (λ v. aborts m.thread (s.marked v)) t g.thread in
      let e2 = ap (aborts m.thread) g.marked in
      let none : aborts m.thread (m ∷ ms) ≡ 0 = omega (arith, z) in
      grind (arith, h.named_are_woken m.thread, g.stamped, g.marked)

  way : AsleepAreOnTheirWay s.history blocked_on behind wait s.wanted at_work
  unfolding AsleepAreOnTheirWay
  way = rw same (λ u d. grind (arith, columns, h.asleep_are_on_their_way u d, awake d))

  later : LatecomersAreLater s.history blocked_on behind s.lists
  unfolding LatecomersAreLater
  later = rw same (λ u d a z b. h.latecomers_are_later u d a z (grind (arith, columns, awake d)))

  pub marks : SleepersFit at_work c (after_mark c s t m ms)
  unfolding after_mark
  marks =
      assumption (
        h,
        named,
        listed,
        causes,
        took,
        slept_on,
        over,
        slept,
        woken,
        wants,
        unwoken,
        unhalted,
        there,
        way,
        later,
      )
