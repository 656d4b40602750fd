-- An enter on a lock's queue, of either sort, keeps the facts of sleepers: its thread doesn't sleep on a channel.
use Rattle.sleep_laws.proofs.Names
use Names.{ℕ, true, Option, Some, None, arith, Config, is_asleep, lock_queue, Mode, QueueName, State, put, put_queue}
use Names.{after_enter, after_enter_sleep, IsOnItsWay, Lawful, SleepersFit, SleepersSlept, SleepersWantNothing}
use Names.{SleepersAreUnwoken, SleepersAreUnhalted, AsleepStandThere, AsleepAreOnTheirWay, SleepersInOrder}
use Names.{LatecomersAreLater, SleepersKeepBase, SleepersAreExclusive, UnnotedIsFair, off, columns}
use Rattle.std.proofs.Common.{◌≡◌}
use Rattle.sleep_laws.proofs.SleepFacts.Known.{on_its_way}

module _ {at_work : ℕ → Option ℕ} {c : Config} {s : State} (l : Lawful c s)
    (h : SleepersFit at_work c s) (t k : ℕ) (unnamed : s.blocked_on t ≡ None)
    (settled : IsOnItsWay s t → ⊥) where
  abbrev blocked_on : ℕ → Option QueueName
  blocked_on = put s.blocked_on t (Some (lock_queue k))

  abbrev wanted : ℕ → Option ℕ
  wanted = put s.wanted t (Some k)

  awake : (d : ℕ) → is_asleep s.history d t ≡ true → off c s t ≡ 0 → ⊥
  awake d a z = settled (on_its_way l h t d a z unnamed)

  slept : SleepersSlept blocked_on s.log
  unfolding SleepersSlept
  slept u d = grind (arith, columns, h.sleepers_slept u d)

  wants : SleepersWantNothing blocked_on wanted
  unfolding SleepersWantNothing
  wants u d = grind (arith, columns, h.sleepers_want_nothing u d)

  unwoken : SleepersAreUnwoken blocked_on s.woken_from
  unfolding SleepersAreUnwoken
  unwoken u d = grind (arith, columns, h.sleepers_are_unwoken u d)

  unhalted : SleepersAreUnhalted blocked_on s.noted
  unfolding SleepersAreUnhalted
  unhalted u d = grind (arith, columns, h.sleepers_are_unhalted u d)

  there : AsleepStandThere s.history blocked_on (off c s)
  unfolding AsleepStandThere
  there u d q = grind (arith, columns, h.asleep_stand_there u d q, awake d)

  way : AsleepAreOnTheirWay s.history blocked_on (off c s) s.wait wanted at_work
  unfolding AsleepAreOnTheirWay
  way u d = grind (arith, columns, h.asleep_are_on_their_way u d)

  later : LatecomersAreLater s.history blocked_on (off c s) s.lists
  unfolding LatecomersAreLater
  later u d a z b = h.latecomers_are_later u d a z (grind (arith, columns))

  pub enters : (mode : Mode) (x : ℕ) → SleepersFit at_work c (after_enter s t k mode x)
  unfolding after_enter put_queue SleepersInOrder LatecomersAreLater SleepersKeepBase SleepersAreExclusive UnnotedIsFair
  enters mode x = assumption (h, slept, wants, unwoken, unhalted, there, way, later)

  pub enters_sleep_queue : (mode : Mode) (x : ℕ)
      → SleepersFit at_work c (after_enter_sleep s t k mode x)
  unfolding after_enter_sleep put_queue SleepersInOrder LatecomersAreLater SleepersKeepBase SleepersAreExclusive
      UnnotedIsFair
  enters_sleep_queue mode x = assumption (h, slept, wants, unwoken, unhalted, there, way, later)
