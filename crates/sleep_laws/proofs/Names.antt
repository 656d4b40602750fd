-- The names that the proofs of `sleep_laws` use of the crates below and of its own definitions, in one place. What
-- lies behind a name says the line that passes it on. Lemmas of this crate are taken from their own files.
pub use Rattle.std.proofs.Common.{Bool, List, None, Option, Some, [], ap, arith, cond, eq-eqb, eqb, false, inl, inr}
pub use Rattle.std.proofs.Common.{length, map, nat_lt, not, refl, subst, suc, sym, true, zero, ℕ}
pub use Rattle.std.proofs.Props.{props}
pub use Rattle.std.proofs.lemmas.Bool.{cases_eq, ne_eqb}
pub use Rattle.std.proofs.lemmas.Bool.Decides.{nat_tests}
pub use Rattle.std.specs.Prelude.{⊤}
pub use Rattle.lock_model.specs.Config.{Config}
pub use Rattle.lock_model.specs.Counts.{has_bit, one, some, times}
unfoldable pub use Rattle.lock_model.specs.Counts.{any_below, least, sum_below}
pub use Rattle.lock_model.specs.Events.{WakesAll, WakesOne}
pub use Rattle.lock_model.specs.History.{base_in, entries_of}
unfoldable pub use Rattle.lock_model.specs.History.{sections_in}
pub use Rattle.lock_model.specs.Holds.{Holds, NotHeld}
pub use Rattle.lock_model.specs.Law.{Fits, FitsSleepers, comes_before_named, goes_before, is_halted_chan, leaves_asleep}
pub use Rattle.lock_model.specs.Law.{passes_over, sleeps_on, wakes}
unfoldable pub use Rattle.lock_model.specs.Law.{HaltsOnlyWhenRunning, WakingsNameSleepers, entries_up_to, is_asleep}
unfoldable pub use Rattle.lock_model.specs.Law.{is_named, is_passed_over}
pub use Rattle.lock_model.specs.Legal.{IsLegalSoFar}
pub use Rattle.lock_model.specs.Queues.{ByAbort, BySignal, Cause, Lists, Mark, Waiter, best_of, better, chan_queue}
pub use Rattle.lock_model.specs.Queues.{dealt, is_queue, left_on, list_of, lock_queue, stands, taken_off, times_waiting}
pub use Rattle.lock_model.specs.Queues.{with_last, without}
pub use Rattle.lock_model.specs.Words.{side_woken}
pub use Rattle.lock_model.specs.declared.event.Entry.{Entry}
pub use Rattle.lock_model.specs.declared.event.Event.{Event}
pub use Rattle.lock_model.specs.declared.event.Event.TheVariants.{Base, HaltedChan, Locked, Sleeps, Unlocked, Woke}
pub use Rattle.lock_model.specs.declared.event.Event.TheVariants.{WokeAll, WokeOne}
pub use Rattle.lock_model.specs.declared.plan.Mode.{Mode}
pub use Rattle.lock_model.specs.declared.plan.Mode.TheVariants.{Excl}
pub use Rattle.lock_model.specs.declared.plan.QueueName.{QueueName}
pub use Rattle.lock_model.specs.declared.plan.QueueName.TheVariants.{Chan, Lock}
pub use Rattle.lock_model.specs.declared.plan.Side.{Side}
pub use Rattle.lock_model.specs.declared.plan.Side.TheVariants.{S, X}
pub use Rattle.lock_state.specs.Facts.{Lawful}
unfoldable pub use Rattle.lock_state.specs.Facts.{BasesReplay, LogsAreParts, StandingIsQueued, StandsOnce}
pub use Rattle.lock_state.specs.Facts.Loans.{Each}
pub use Rattle.lock_state.specs.Facts.Sleeps.{AreSignals, InOrder, LeavesNobodyBefore, aborts, is_aborted, is_chan}
pub use Rattle.lock_state.specs.Facts.Sleeps.{is_chan_halt, is_signalled, signals, signals_noted}
unfoldable pub use Rattle.lock_state.specs.Facts.Sleeps.{aborted}
pub use Rattle.lock_state.specs.Facts.Waits.{is_signal, times_marked}
pub use Rattle.lock_state.specs.State.{Note, OrderRefused, Queued, Running, SleepHalted, State, Wait, Wake, Woken}
unfoldable pub use Rattle.lock_state.specs.State.{put, put_at, put_queue, start_state}
pub use Rattle.lock_state.specs.Steps.{Aborts, Adds, AddsAtWork, Admits, AsksOfSleepers, AsksOfThread, Claims}
pub use Rattle.lock_state.specs.Steps.{CountsEnd, CountsIn, CountsOut, CountsSelfIn, Drops, EndsWalk, Enters}
pub use Rattle.lock_state.specs.Steps.{EntersSleepQueue, FitsFloor, Gains, GivesItem, Halts, HasOut, HasSeen}
pub use Rattle.lock_state.specs.Steps.{IsFloorStep, Lends, Looks, Marks, May, MayAll, Opens, OpensSleepQueue, Readies}
pub use Rattle.lock_state.specs.Steps.{Refuses, Resumes, Seeks, Shifts, Stamps, Step, TakesItem, Unreadies, Wakes}
pub use Rattle.lock_state.specs.Steps.{after, after_all, ends_sleep}
unfoldable pub use Rattle.lock_state.specs.Steps.Counting.{after_count_end, after_count_in, after_count_out}
unfoldable pub use Rattle.lock_state.specs.Steps.Counting.{after_count_self_in, after_halt}
pub use Rattle.lock_state.specs.Steps.Items.{IsDoneWith, IsOnItsWay, Item, MayGive, MayTake, RecordOf, SleepChain}
pub use Rattle.lock_state.specs.Steps.Items.{TurnstileChain, item_with}
unfoldable pub use Rattle.lock_state.specs.Steps.Items.{after_give, after_take}
unfoldable pub use Rattle.lock_state.specs.Steps.Lending.{after_claim, after_end_walk, after_lend, after_shift}
pub use Rattle.lock_state.specs.Steps.LockWords.{IsTheWake, MayReady, MayStamp, MayUnready, base_after, bits_of_threads}
pub use Rattle.lock_state.specs.Steps.LockWords.{entry_of, is_taking_back, is_woken, unstamped_after}
unfoldable pub use Rattle.lock_state.specs.Steps.LockWords.{after_drop, after_gain, after_look, after_ready, after_seek}
unfoldable pub use Rattle.lock_state.specs.Steps.LockWords.{after_stamp, after_unready}
pub use Rattle.lock_state.specs.Steps.Orders.{IsFreeToTake, MayRefuse}
unfoldable pub use Rattle.lock_state.specs.Steps.Orders.{after_admit, after_refuse}
pub use Rattle.lock_state.specs.Steps.SleepQueues.{MayAbort, MayAdd, MayWake, by_abort, has_slept, sleeper}
unfoldable pub use Rattle.lock_state.specs.Steps.SleepQueues.{after_abort, after_add, after_enter_sleep}
unfoldable pub use Rattle.lock_state.specs.Steps.SleepQueues.{after_open_sleep, after_wake}
pub use Rattle.lock_state.specs.Steps.Turnstiles.{MayMark, MayResume, noted_after, wanted_after, woken_from_by}
unfoldable pub use Rattle.lock_state.specs.Steps.Turnstiles.{after_enter, after_mark, after_open, after_resume}
pub use Rattle.lock_laws.proofs.Abort.{may_take_off}
pub use Rattle.lock_laws.proofs.Bits.{bit_of, no_bits}
pub use Rattle.lock_laws.proofs.Dealt.{all_signals-dealt, in_lists, marked_nowhere_else, marked_once, marked_sum}
pub use Rattle.lock_laws.proofs.Dealt.{no_signals_of_lock, signals-dealt, signals_named, signals_nowhere, times-map}
pub use Rattle.lock_laws.proofs.Dealt.{unstamped_sum}
pub use Rattle.lock_laws.proofs.FloorGuards.{FloorAll}
unfoldable pub use Rattle.lock_laws.proofs.FloorGuards.{floor_plan, taking}
pub use Rattle.lock_laws.proofs.Items.{beside}
pub use Rattle.lock_laws.proofs.Kit.{at_put, columns, is_queue_same, put_chan_other, put_chan_same, put_other, put_same}
pub use Rattle.lock_laws.proofs.Kit.{sum_below-at, sum_below-put, sum_below-zero}
pub use Rattle.lock_laws.proofs.Lending.{each-map}
pub use Rattle.lock_laws.proofs.Props.{Each-prop}
pub use Rattle.lock_laws.proofs.Queues.{times_marked-dealt, times_marked-elsewhere}
pub use Rattle.lock_laws.proofs.Resume.{unnamed}
pub use Rattle.lock_laws.proofs.Standing.{marked_named, standing_named, times_named}
pub use Rattle.lock_laws.proofs.Taken.{objects_enough}
pub use Rattle.lock_laws.proofs.TakingOff.{fits}
pub use Rattle.sleep_laws.specs.Sleepers.{AsksOfSleepersAll, HaltNobody, IsNoHalt, IsWithChannel, SleepersFit}
pub use Rattle.sleep_laws.specs.Sleepers.{WasAborted, WasTakenBy, by_chain, by_turn, nobody, off}
unfoldable pub use Rattle.sleep_laws.specs.Sleepers.{AbortedSleep, AsleepAreOnTheirWay, AsleepStandThere}
unfoldable pub use Rattle.sleep_laws.specs.Sleepers.{LatecomersAreLater, MarksAreSignals, NamedAreWoken}
unfoldable pub use Rattle.sleep_laws.specs.Sleepers.{NoSleepIsHalted, PassedOverAreAborted, ResumedSlept}
unfoldable pub use Rattle.sleep_laws.specs.Sleepers.{SleepersAreExclusive, SleepersAreUnhalted, SleepersAreUnwoken}
unfoldable pub use Rattle.sleep_laws.specs.Sleepers.{SleepersInOrder, SleepersKeepBase, SleepersSlept}
unfoldable pub use Rattle.sleep_laws.specs.Sleepers.{SleepersWantNothing, UnnotedAreMarked, UnnotedIsAtWork}
unfoldable pub use Rattle.sleep_laws.specs.Sleepers.{UnnotedIsFair, WokenBySignal, WokenSlept}
