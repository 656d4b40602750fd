-- Steps that ask of sleepers what they must keep the facts of sleepers, and with them the part of the law of a history
-- that speaks of wakings.
pub mod Entries
pub mod Best
pub mod Known
pub mod Found
pub mod Off
pub mod Abort
pub mod Waking
pub mod Own
pub mod Enter
pub mod Open
pub mod Add
pub mod Wake
pub mod Mark
pub mod Resume
pub mod Stamp
pub mod Steps
pub mod Moves
pub mod Floor
pub mod Turns
pub mod Props
use Rattle.sleep_laws.proofs.Names
use Names.{ℕ, Option, refl, arith, Config, is_asleep, is_named, is_passed_over, WakingsNameSleepers, start_state}
use Names.{SleepersFit, NamedAreWoken, MarksAreSignals, WokenBySignal, NoSleepIsHalted, SleepersSlept, WokenSlept}
use Names.{ResumedSlept, SleepersWantNothing, SleepersAreUnwoken, AsleepStandThere, AsleepAreOnTheirWay}
use Names.{SleepersInOrder, LatecomersAreLater, SleepersKeepBase, SleepersAreExclusive, UnnotedAreMarked}
use Names.{UnnotedIsAtWork, UnnotedIsFair, AbortedSleep, SleepersAreUnhalted, PassedOverAreAborted, aborted}
use Names.{sum_below-zero}

pub begins : (at_work : ℕ → Option ℕ) (c : Config) → SleepersFit at_work c (start_state c)
unfolding start_state NamedAreWoken MarksAreSignals WokenBySignal NoSleepIsHalted SleepersSlept WokenSlept ResumedSlept
    SleepersWantNothing SleepersAreUnwoken AsleepStandThere AsleepAreOnTheirWay SleepersInOrder LatecomersAreLater
    SleepersKeepBase SleepersAreExclusive UnnotedAreMarked UnnotedIsAtWork UnnotedIsFair WakingsNameSleepers
    AbortedSleep SleepersAreUnhalted PassedOverAreAborted aborted is_asleep is_named is_passed_over
begins at_work c = record {
  named_are_woken = λ t. let z = sum_below-zero c.threads (λ u. 0) (λ u l. refl) in omega (arith);
  aborted_sleep = λ t. let z = sum_below-zero c.threads (λ u. 0) (λ u l. refl) in omega (arith);
  marks_are_signals = λ x t. tt;
  woken_by_signal = λ x t q cause e. absurd cc;
  no_sleep_is_halted = λ x t q e. cc;
  sleepers_slept = λ t d e. absurd cc;
  woken_slept = λ t d cause e. absurd cc;
  resumed_slept = λ t d e. absurd cc;
  sleepers_want_nothing = λ t d e. absurd cc;
  sleepers_are_unwoken = λ t d e. absurd cc;
  sleepers_are_unhalted = λ t d e. absurd cc;
  asleep_stand_there = λ t d q a z e. absurd cc;
  asleep_are_on_their_way = λ t d a z e. absurd cc;
  sleepers_in_order = λ d. tt;
  latecomers_are_later = λ t d a z e. absurd cc;
  sleepers_keep_base = λ d. tt;
  sleepers_are_exclusive = λ d. refl;
  unnoted_are_marked = λ t w u e. absurd cc;
  unnoted_is_at_work = λ t w e. absurd cc;
  unnoted_is_fair = λ t w l e. absurd cc;
  wakings_name_sleepers = tt;
  passed_over_are_aborted = λ t e. absurd cc;
}
