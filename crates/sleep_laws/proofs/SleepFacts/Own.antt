-- Gains, claims, the steps on a thread's own wait word that put it on no queue, and those that check the order of
-- locks, keep the facts of sleepers.
use Rattle.sleep_laws.proofs.Names
use Names.{ℕ, Bool, true, false, Option, Some, None, refl, sym, ap, arith, Config, is_asleep, Mode, QueueName, State}
use Names.{Wait, Running, Queued, Note, OrderRefused, put, is_woken, MayReady, MayUnready, after_gain, after_ready}
use Names.{after_unready, after_claim, IsOnItsWay, IsFreeToTake, MayRefuse, after_admit, after_refuse, Lawful}
use Names.{StandingIsQueued, SleepersFit, NamedAreWoken, AbortedSleep, WokenBySignal, WokenSlept, SleepersWantNothing}
use Names.{SleepersAreUnhalted, AsleepStandThere, AsleepAreOnTheirWay, LatecomersAreLater, PassedOverAreAborted}
use Names.{NoSleepIsHalted, off, aborted, columns}
use Rattle.std.proofs.Common.{◌≡◌, ◌∙◌}
use Rattle.sleep_laws.proofs.SleepFacts.Known.{on_its_way}
use Rattle.sleep_laws.proofs.SleepFacts.Off.{off_waits, off_noted, unnoted_unhalted}

module _ {at_work : ℕ → Option ℕ} {c : Config} {s : State} (h : SleepersFit at_work c s)
    (t : ℕ) where
  -- 1. A gain and a claim: the thread wants nothing

  wants : SleepersWantNothing s.blocked_on (put s.wanted t None)
  unfolding SleepersWantNothing
  wants u d = grind (arith, columns, h.sleepers_want_nothing u d)

  way : AsleepAreOnTheirWay s.history s.blocked_on (off c s) s.wait (put s.wanted t None) at_work
  unfolding AsleepAreOnTheirWay
  way u d = grind (arith, columns, h.asleep_are_on_their_way u d)

  pub gains : (l : ℕ) (mode : Mode) (by_try : Bool)
      → SleepersFit at_work c (after_gain s t l mode by_try)
  unfolding after_gain
  gains l mode by_try = assumption (h, wants, way)

  pub claims : (l x : ℕ) (by_try : Bool) → SleepersFit at_work c (after_claim c s t l x by_try)
  unfolding after_claim
  claims l x by_try = assumption (h, wants, way)

  -- 2. The thread is made ready, or runs

  module _ (w : Wait) (is : is_woken w ≡ false) where
    pub by_signal : WokenBySignal s.halted (put s.wait t w)
    unfolding WokenBySignal
    by_signal x u q cause = grind (arith, columns, h.woken_by_signal x u q cause)

    pub woken_slept : WokenSlept (put s.wait t w) s.log
    unfolding WokenSlept
    woken_slept u d cause = grind (arith, columns, h.woken_slept u d cause)

    module _ (was : is_woken (s.wait t) ≡ false)
        (stays : (d : ℕ) → is_asleep s.history d t ≡ true → off c s t ≡ 0 → s.blocked_on t ≡ None
        → w ≡ Queued) where
      abbrev behind : ℕ → ℕ
      behind = aborted c s.marked (put s.wait t w) s.noted

      same : behind ≡ off c s
      same = off_waits c s t w was is

      slept_on : AbortedSleep s.history behind s.log
      slept_on = rw same h.aborted_sleep

      there : AsleepStandThere s.history s.blocked_on behind
      there = rw same h.asleep_stand_there

      later : LatecomersAreLater s.history s.blocked_on behind s.lists
      later = rw same h.latecomers_are_later

      over : PassedOverAreAborted c s.history behind
      over = rw same h.passed_over_are_aborted

      named : NamedAreWoken c s.history s.marked s.unstamped (put s.wait t w) s.woken_from
      unfolding NamedAreWoken
      named u = grind (arith, columns, h.named_are_woken u)

      still_way : AsleepAreOnTheirWay s.history s.blocked_on behind (put s.wait t w) s.wanted at_work
      unfolding AsleepAreOnTheirWay
      still_way = rw same (λ u d. grind (arith, columns, h.asleep_are_on_their_way u d, stays d))

      waits : SleepersFit at_work c (record s { wait = put s.wait t w })
      waits = assumption (h, by_signal, woken_slept, named, slept_on, there, still_way, later, over)

  pub readies : MayReady c s t → SleepersFit at_work c (after_ready s t)
  unfolding after_ready
  readies g = waits Queued refl (ap is_woken g.running) (λ d a z n. refl)

  pub unreadies : MayUnready c s t → Lawful c s → (IsOnItsWay s t → ⊥)
      → SleepersFit at_work c (after_unready s t)
  unfolding after_unready
  unreadies g l settled =
      waits Running refl (ap is_woken g.queued) (λ d a z n. absurd (settled (on_its_way l h t d a z n)))

  -- 3. The thread, which runs, is admitted to a lock or refused it

  module _ (l : ℕ) (g : IsFreeToTake c s t l) (f : Lawful c s) where
    nowhere : (q : QueueName) → s.blocked_on t ≡ Some q → ⊥
    unfolding StandingIsQueued
    nowhere q e = let z : Running ≡ Queued = sym g.running ∙ f.waits.standing_is_queued t q e in cc

    admitted_wants : SleepersWantNothing s.blocked_on (put s.wanted t (Some l))
    unfolding SleepersWantNothing
    admitted_wants u d = grind (arith, columns, h.sleepers_want_nothing u d, nowhere)

    admitted_way : AsleepAreOnTheirWay s.history s.blocked_on (off c s) s.wait (put s.wanted t (Some l)) at_work
    unfolding AsleepAreOnTheirWay
    admitted_way u d = grind (arith, columns, h.asleep_are_on_their_way u d, g.running)

    admits_it : SleepersFit at_work c (after_admit c s t l)
    unfolding after_admit
    admits_it = assumption (h, admitted_wants, admitted_way)

  module _ (l k : ℕ) (g : MayRefuse c s t l k) where
    abbrev noted : ℕ → Option Note
    noted = put s.noted t (Some (OrderRefused l k))

    refused : NoSleepIsHalted s.halted noted
    unfolding NoSleepIsHalted
    refused x u q = grind (arith, columns, h.no_sleep_is_halted x u q)

    abbrev behind_it : ℕ → ℕ
    behind_it = aborted c s.marked s.wait noted

    as_before : behind_it ≡ off c s
    as_before = off_noted c s t (Some (OrderRefused l k)) (unnoted_unhalted (s.noted t) g.free.unnoted)

    refused_sleep : AbortedSleep s.history behind_it s.log
    refused_sleep = rw as_before h.aborted_sleep

    refused_there : AsleepStandThere s.history s.blocked_on behind_it
    refused_there = rw as_before h.asleep_stand_there

    refused_way : AsleepAreOnTheirWay s.history s.blocked_on behind_it s.wait s.wanted at_work
    refused_way = rw as_before h.asleep_are_on_their_way

    refused_later : LatecomersAreLater s.history s.blocked_on behind_it s.lists
    refused_later = rw as_before h.latecomers_are_later

    refused_over : PassedOverAreAborted c s.history behind_it
    refused_over = rw as_before h.passed_over_are_aborted

    refused_unhalted : SleepersAreUnhalted s.blocked_on noted
    unfolding SleepersAreUnhalted
    refused_unhalted u d = grind (arith, columns, h.sleepers_are_unhalted u d)

    pub refuses : SleepersFit at_work c (after_refuse s t l k)
    unfolding after_refuse
    refuses = assumption (
      h,
      refused,
      refused_sleep,
      refused_there,
      refused_way,
      refused_later,
      refused_over,
      refused_unhalted,
    )

pub admits : {at_work : ℕ → Option ℕ} {c : Config} {s : State} → Lawful c s → SleepersFit at_work c s
    → (t l : ℕ) → IsFreeToTake c s t l → SleepersFit at_work c (after_admit c s t l)
admits f h t l g = admits_it h t l g f
