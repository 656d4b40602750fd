-- A resume keeps the facts of sleepers: who was woken from a channel says so until its next entry.
use Rattle.sleep_laws.proofs.Names
use Names.{ℕ, Bool, true, false, cond, Option, Some, refl, ap, arith, subst, Config, some, one, sum_below, Cause}
use Names.{BySignal, ByAbort, chan_queue, QueueName, Lock, Chan, State, Running, Woken, Note, SleepHalted, put}
use Names.{is_taking_back, MayResume, after_resume, wanted_after, noted_after, woken_from_by, has_slept, Lawful, aborts}
use Names.{is_signalled, is_aborted, is_chan_halt, aborted, SleepersFit, NamedAreWoken, AbortedSleep, WokenBySignal}
use Names.{NoSleepIsHalted, WokenSlept, ResumedSlept, SleepersWantNothing, SleepersAreUnwoken, SleepersAreUnhalted}
use Names.{AsleepStandThere, AsleepAreOnTheirWay, LatecomersAreLater, PassedOverAreAborted, off, columns, at_put}
use Names.{unnamed}
use Rattle.std.proofs.Common.{◌≡◌, ◌+◌, ◌≤◌}
use Rattle.sleep_laws.proofs.SleepFacts.Own.{by_signal, woken_slept}

module _ {at_work : ℕ → Option ℕ} {c : Config} {s : State} (l : Lawful c s)
    (h : SleepersFit at_work c s) (t : ℕ) (q : QueueName) (cause : Cause)
    (g : MayResume c s t q cause) where
  abbrev wanted : ℕ → Option ℕ
  wanted = put s.wanted t (wanted_after c q cause (is_taking_back (s.log t)) (s.wanted t))

  abbrev noted : ℕ → Option Note
  noted = put s.noted t (noted_after q cause (is_taking_back (s.log t)) (s.noted t))

  abbrev woken_from : ℕ → Option ℕ
  woken_from = put s.woken_from t (woken_from_by q cause (s.woken_from t))

  named : NamedAreWoken c s.history s.marked s.unstamped (put s.wait t Running) woken_from
  unfolding NamedAreWoken
  named u =
      let e = ap is_signalled g.woken in
      grind (arith, columns, h.named_are_woken u, by_queue q cause g.woken)
    where
      by_queue : (q : QueueName) (cause : Cause) → s.wait t ≡ Woken q cause
          → some (woken_from_by q cause (s.woken_from t))
          ≡ is_signalled (Woken q cause) + some (s.woken_from t)
      by_queue q cause e = grind arith

  unhalted : NoSleepIsHalted s.halted noted
  unfolding NoSleepIsHalted WokenBySignal
  unhalted x u r =
      let e = h.woken_by_signal x t q cause g.woken in
      grind (arith, columns, h.no_sleep_is_halted x u r)

  -- the abort of the wait word is the halt to be noted
  abbrev behind : ℕ → ℕ
  behind = aborted c s.marked (put s.wait t Running) noted

  once : is_aborted (s.wait t) + is_chan_halt (s.noted t) ≤ one (is_taking_back (s.log t))
  unfolding AbortedSleep aborted
  once = let a = h.aborted_sleep t in omega arith

  moved : (q : QueueName) (cause : Cause) → s.wait t ≡ Woken q cause
      → is_chan_halt (noted_after q cause (is_taking_back (s.log t)) (s.noted t)) ≡ is_aborted (s.wait t) + is_chan_halt
      (s.noted t)
  moved (Lock k) BySignal e = let a = ap is_aborted e in omega arith
  moved (Chan k) BySignal e = let a = ap is_aborted e in omega arith
  moved (Chan k) ByAbort e =
      let a = ap is_aborted e in
      let b = one_most (is_taking_back (s.log t)) in
      omega (arith, once)
    where
      one_most : (b : Bool) → one b ≤ 1
      one_most true = omega arith
      one_most false = omega arith
  moved (Lock k) ByAbort e = go (is_taking_back (s.log t)) refl
    where
      go : (b : Bool) → is_taking_back (s.log t) ≡ b
          → is_chan_halt (cond b (s.noted t) (Some (SleepHalted (Lock k)))) ≡ is_aborted (s.wait t) + is_chan_halt
          (s.noted t)
      go true i = let a = ap is_aborted e in omega arith
      go false i = let b = ap one i in omega (arith, once)

  same : behind ≡ off c s
  unfolding aborted
  same i u = here u i
    where
      here : (u : ℕ) → sum_below c.threads (λ v. aborts u (s.marked v)) + is_aborted (put s.wait t Running u) +
          is_chan_halt (noted u)
          ≡ sum_below c.threads (λ v. aborts u (s.marked v)) + is_aborted (s.wait u) + is_chan_halt (s.noted u)
      here u = grind (arith, columns, moved q cause g.woken)

  slept_on : AbortedSleep s.history behind s.log
  slept_on = rw same h.aborted_sleep

  over : PassedOverAreAborted c s.history behind
  over = rw same h.passed_over_are_aborted

  there : AsleepStandThere s.history s.blocked_on behind
  there = rw same h.asleep_stand_there

  later : LatecomersAreLater s.history s.blocked_on behind s.lists
  later = rw same h.latecomers_are_later

  stands_unhalted : SleepersAreUnhalted s.blocked_on noted
  unfolding SleepersAreUnhalted
  stands_unhalted u d = grind (arith, columns, h.sleepers_are_unhalted u d, unnamed c s t q cause g l)

  stands_nowhere : (r : QueueName) → s.blocked_on t ≡ Some r → ⊥
  stands_nowhere = unnamed c s t q cause g l

  wants : SleepersWantNothing s.blocked_on wanted
  unfolding SleepersWantNothing
  wants u d = grind (arith, columns, h.sleepers_want_nothing u d, stands_nowhere (chan_queue d))

  unwoken : SleepersAreUnwoken s.blocked_on woken_from
  unfolding SleepersAreUnwoken
  unwoken u d = grind (arith, columns, h.sleepers_are_unwoken u d, stands_nowhere (chan_queue d))

  way : AsleepAreOnTheirWay s.history s.blocked_on behind (put s.wait t Running) wanted at_work
  unfolding AsleepAreOnTheirWay
  way = rw same (λ u d. grind (arith, columns, h.asleep_are_on_their_way u d, g.woken))

  resumed_slept : ResumedSlept woken_from s.log
  unfolding ResumedSlept WokenSlept
  resumed_slept u d =
      at_put (λ v o. o ≡ Some d → has_slept d (s.log v) ≡ true) s.woken_from t _
      (by_queue q cause g.woken) (λ v ne. h.resumed_slept v d) u
    where
      by_queue : (q : QueueName) (cause : Cause) → s.wait t ≡ Woken q cause
          → woken_from_by q cause (s.woken_from t) ≡ Some d → has_slept d (s.log t) ≡ true
      by_queue (Lock k) BySignal w e = h.resumed_slept t d e
      by_queue (Lock k) ByAbort w e = h.resumed_slept t d e
      by_queue (Chan k) ByAbort w e = h.resumed_slept t d e
      by_queue (Chan k) BySignal w e =
          let x : k.0 ≡ d = cc in
          subst (λ j. has_slept j (s.log t) ≡ true) x (h.woken_slept t k.0 BySignal w)

  pub resumes : SleepersFit at_work c (after_resume c s t q cause)
  unfolding after_resume
  resumes =
      let causes = by_signal h t Running refl in
      let still_slept = woken_slept h t Running refl in
      assumption (
        h,
        causes,
        still_slept,
        named,
        unhalted,
        slept_on,
        over,
        there,
        later,
        stands_unhalted,
        wants,
        unwoken,
        way,
        resumed_slept,
      )
