-- The names that the proofs of `lock_calls` use of the crates below and of its own definitions, in one place. What
-- lies behind a name says the line that passes it on. Lemmas of this crate are taken from their own files.
pub use Rattle.atomic_table.specs.Table.{rest}
pub use Rattle.std.proofs.Common.{Bool, IfErr, IfNone, IfOk, IfSome, IsSome, List, None, Option, Some, [], ap, arith}
pub use Rattle.std.proofs.Common.{cond, eq-eqb, eqb, false, inl, inr, length, map, not, option_map, refl, replicate}
pub use Rattle.std.proofs.Common.{subst, suc, sym, true, zero, ℕ}
pub use Rattle.std.proofs.lemmas.Bool.{cases_eq, cases_lt, eqb-true, ne_eqb}
pub use Rattle.std.proofs.lemmas.List.{replicate-append-replicate}
pub use Rattle.std.proofs.lemmas.List.Elements.{All-head, All-tail}
pub use Rattle.std.proofs.lemmas.Option.{same_Some}
pub use Rattle.std.specs.Box.{with_value}
pub use Rattle.std.specs.List.{All}
pub use Rattle.std.specs.declared.alloc.Global.{Global}
pub use Rattle.std.specs.declared.boxed.Box.{Box}
pub use Rattle.lock_model.specs.Config.{Config}
unfoldable pub use Rattle.lock_model.specs.History.{sections_in}
pub use Rattle.lock_model.specs.Holds.{Hold, Holds, NotHeld, is_exclusive}
pub use Rattle.lock_model.specs.Limits.{most_held}
pub use Rattle.lock_model.specs.Operations.{hold_in, without_lock}
pub use Rattle.lock_model.specs.Orders.{IsFirstToForbid}
pub use Rattle.lock_model.specs.Queues.{ByAbort, BySignal, Cause, Mark, chan_queue, lock_queue, side_of}
pub use Rattle.lock_model.specs.Words.{Free, HeldBy, Holder, IsWellFormed, SharedBy, Word, admits, bits_of, holder_of}
pub use Rattle.lock_model.specs.Words.{is_drop, is_free, is_plain, is_turnstile, owner_of, sharers, shows_waiters}
pub use Rattle.lock_model.specs.Words.{word_of}
pub use Rattle.lock_model.specs.declared.event.Entry.{Entry}
pub use Rattle.lock_model.specs.declared.event.Event.{Event}
pub use Rattle.lock_model.specs.declared.event.Event.TheVariants.{Busy, HaltedLock, Locked, Tried, Unlocked}
pub use Rattle.lock_model.specs.declared.event.Held.{Held}
pub use Rattle.lock_model.specs.declared.event.Reversal.{Reversal}
pub use Rattle.lock_model.specs.declared.numbers.ClassNo.{ClassNo}
pub use Rattle.lock_model.specs.declared.numbers.LockNo.{LockNo}
pub use Rattle.lock_model.specs.declared.numbers.ThreadNo.{ThreadNo}
pub use Rattle.lock_model.specs.declared.plan.Kind.{Kind}
pub use Rattle.lock_model.specs.declared.plan.Kind.TheVariants.{Mtx, Rw, Sx}
pub use Rattle.lock_model.specs.declared.plan.Mode.{Mode}
pub use Rattle.lock_model.specs.declared.plan.Mode.TheVariants.{Excl, Shared}
pub use Rattle.lock_model.specs.declared.plan.QueueName.{QueueName}
unfoldable pub use Rattle.lock_state.specs.Facts.{OnlyThreadsHold, WordsMatchHolders}
unfoldable pub use Rattle.lock_state.specs.Facts.Sleeps.{NoSleepIsHalted}
pub use Rattle.lock_state.specs.Facts.Words.{owns, shares}
pub use Rattle.lock_state.specs.State.{AtLock, AtThread, Awake, HeldLock, Last, Look, NoWalk, Round, SleepHalted, State}
pub use Rattle.lock_state.specs.State.{Walk, Woken, gained_order}
pub use Rattle.lock_state.specs.Steps.{Admits, Claims, CountsIn, CountsOut, Drops, Enters, EntersSleepQueue, FitsRound}
pub use Rattle.lock_state.specs.Steps.{Gains, GivesItem, HasOutForEntry, IsItem, IsOfRound, Looks, Marks, NotesInRound}
pub use Rattle.lock_state.specs.Steps.{Opens, OpensSleepQueue, Readies, Refuses, Resumes, Seeks, Stamps, Step}
pub use Rattle.lock_state.specs.Steps.{TakesItem, Unreadies, is_first, maker, seeks}
pub use Rattle.lock_state.specs.Steps.Items.{ClassGraph, Item, RecordOf, SleepChain, TurnstileChain, in_its_chain}
pub use Rattle.lock_state.specs.Steps.Items.{is_bound, is_chain, item_with, seen_after}
unfoldable pub use Rattle.lock_state.specs.Steps.Items.{after_take}
pub use Rattle.lock_state.specs.Steps.LockWords.{Asks, Begins, IsGainedLast, is_taking_back, round_of, taking_from}
pub use Rattle.lock_state.specs.Steps.Orders.{held_classes}
unfoldable pub use Rattle.lock_state.specs.Steps.SleepQueues.{after_open_sleep}
pub use Rattle.lock_state.specs.Steps.Turnstiles.{called_after, noted_after, round_for, taking_by, walk_up}
pub use Rattle.lock_state.specs.Steps.Turnstiles.{wanted_after, woken_from_by}
pub use Rattle.lock_laws.proofs.HeldLists.{gained_order-push, hold_in-push}
pub use Rattle.lock_laws.proofs.Kit.{put_at_same, sum_below-at}
pub use Rattle.lock_laws.proofs.Words.{IsClaim, is_claim, refused_held}
unfoldable pub use Rattle.lock_laws.specs.Signals.{WakesFitQueues}
pub use Rattle.lock_laws.specs.Words.{CanBeSeen, HasRoom}
pub use Rattle.lock_words.specs.Views.{IsHeldIn}
pub use Rattle.turnstile_core.specs.Seen.{Turnstile}
pub use Rattle.sleep_queues.specs.Seen.{SleepQueue}
pub use Rattle.chain_table.specs.Chains.{head_of}
pub use Rattle.thread_records.specs.declared.record.ThreadRec.{ThreadRec}
pub use Rattle.lock_objects.specs.Enters.{chain_entered, record_entered, waiter_of}
pub use Rattle.lock_objects.specs.Hops.{chain_claimed, record_claimed}
pub use Rattle.lock_objects.specs.Opens.{chain_opened, record_opened, woken_of}
pub use Rattle.lock_objects.specs.Represents.{hold_of, mark_of, walk_of}
pub use Rattle.lock_objects.specs.Sleeps.{chain_asleep, chain_woken, record_asleep, sleeper_of}
pub use Rattle.floor_table.proofs.Items.{one_place}
pub use Rattle.floor_table.proofs.Made.{sooner}
pub use Rattle.floor_table.proofs.Shelved.{found_first, found_later}
pub use Rattle.floor_table.specs.Descriptions.{config_in}
pub use Rattle.floor_table.specs.Places.{slot_of}
pub use Rattle.floor_table.specs.Represents.{IsSeatOf, RepresentsShare, thread_in}
pub use Rattle.floor_table.specs.Shares.{Doing, ShareColumns, is_among}
pub use Rattle.floor_table.specs.Shelves.{found}
pub use Rattle.floor_table.specs.Steps.{Fits, IsSound, Makes, MakesEach, MayMake}
pub use Rattle.floor_table.specs.Views.{IsReady, Knowledge, Runs, StandsOn, is_off_queues, seeing}
pub use Rattle.floor_table.specs.declared.description.Description.{Description}
pub use Rattle.floor_table.specs.declared.slot.Slot.{Slot}
pub use Rattle.floor_table.specs.declared.slot.Slot.TheVariants.{Cell, Graph, Record, SleepQueues, Turnstiles}
pub use Rattle.lock_floor.proofs.Calling.{may_note_locked, rest_locked}
pub use Rattle.lock_floor.proofs.ChainPlaces.{chain_at}
pub use Rattle.lock_floor.proofs.Finding.{finds_of_others, finds_word, share_behind, share_then}
pub use Rattle.lock_floor.proofs.FoundQueued.{found_waits}
pub use Rattle.lock_floor.proofs.Gaining.{dropped_unheld, opened_unheld}
pub use Rattle.lock_floor.proofs.May.{BeginsCall, BeginsRound, ExchangesAgain, IsUnhalted, WantsItsRound, counts_first}
pub use Rattle.lock_floor.proofs.May.{counts_not, counts_there, doing_it, holds_it, may_drop_settled, may_gain}
pub use Rattle.lock_floor.proofs.May.{may_look, may_look_settled, may_seek, may_seek_gain, may_stamp, may_stamp_end}
pub use Rattle.lock_floor.proofs.May.{own_log}
pub use Rattle.lock_floor.proofs.MaySleep.{may_enter_asleep}
pub use Rattle.lock_floor.proofs.MayWait.{IsNoSleeper, is_a_chain}
pub use Rattle.lock_floor.proofs.MayWake.{may_open_sleepers, may_open_up_settled, may_run_again, runners_mark}
pub use Rattle.lock_floor.proofs.MayWake.{sleepers_mark}
pub use Rattle.lock_floor.proofs.Opened.{last_shown}
pub use Rattle.lock_floor.proofs.OwnRecords.{own_sleep_queue, own_turnstile}
pub use Rattle.lock_floor.proofs.Resting.{leaves, rest_gained, rest_left, rest_noted, rest_seeing, rest_stamped}
pub use Rattle.lock_floor.proofs.Resuming.{waits_queued}
pub use Rattle.lock_floor.proofs.Shares.{among_stays}
pub use Rattle.lock_floor.proofs.Taking.{HasWaited, record_at, takes_then, waits_none, waits_on}
pub use Rattle.lock_floor.proofs.WalkHops.{hops_all}
pub use Rattle.lock_floor.specs.Claims.{ClaimsIt, MayClaimIt, out_claimed}
pub use Rattle.lock_floor.specs.Counts.{counted}
pub use Rattle.lock_floor.specs.Floors.{Floor, Pass}
pub use Rattle.lock_floor.specs.Latches.{FindsOut, IsOfKind, Takes}
pub use Rattle.lock_floor.specs.Marks.{CanMark, WakesFirst, marking, wakes}
pub use Rattle.lock_floor.specs.Opens.{HasBothOut, MayOpenUp, OpensUp, marks_opened, opened_up, out_opened}
pub use Rattle.lock_floor.specs.Ordering.{ChecksOrder, checks, settled}
pub use Rattle.lock_floor.specs.Passes.{IsAtRest, IsGoing, IsOf, IsOffTheWay, MakesEntry, first_pass}
pub use Rattle.lock_floor.specs.Relocks.{GivesUp, MayGiveUp, MayRetake, TakesBack, WasEnded}
pub use Rattle.lock_floor.specs.Resumes.{FindsQueued, MayRunAgain, RunsAgain, cause_of, resumed}
pub use Rattle.lock_floor.specs.Rounds.{gained_first}
pub use Rattle.lock_floor.specs.SleepLocks.{EntersAsleep, MayEnterAsleep, MayOpenSleepers, OpensSleepers}
pub use Rattle.lock_floor.specs.SleepLocks.{sleepers_opened}
pub use Rattle.lock_floor.specs.Sleeps.{HasSleeperOut, out_asleep, sleeper_out}
pub use Rattle.lock_floor.specs.Views.{counts, entry_by, gained, gave, is_out, is_there, looked, put_down, sought}
pub use Rattle.lock_floor.specs.Views.{stamped, took}
pub use Rattle.lock_floor.specs.Waits.{chain_place, entered, its_chain, out_entered, readied}
pub use Rattle.lock_floor.specs.Walks.{CanWalk, HasTurnstilesOut, HopsOn, IsHop, IsOnFloor, NeedsRecord, no_hop}
pub use Rattle.lock_floor.specs.Walks.{one_more, turnstiles, turnstiles_place, walked}
pub use Rattle.lock_floor.specs.declared.calls.Call.{Call}
pub use Rattle.lock_floor.specs.declared.calls.ReleaseAt.{ReleaseAt}
pub use Rattle.lock_floor.specs.declared.calls.ReleaseAt.TheVariants.{ComesTo, Frees, Wakes}
pub use Rattle.lock_floor.specs.declared.calls.TakeAt.{TakeAt}
pub use Rattle.lock_floor.specs.declared.calls.TakeAt.TheVariants.{Checks, ComesIn, Contends, Halts, Hops, Sleeps}
pub use Rattle.lock_floor.specs.declared.calls.TakeAt.TheVariants.{Spins, Walks}
pub use Rattle.lock_floor.specs.declared.calls.TryAt.{TryAt}
pub use Rattle.lock_floor.specs.declared.calls.TryAt.TheVariants.{Decides, Tries}
pub use Rattle.lock_floor.specs.declared.counts.Count.TheVariants.{Out}
pub use Rattle.lock_floor.specs.declared.queues.HaltAt.{HaltAt}
pub use Rattle.halting.proofs.Coming.{ends_waking_nobody, wakes_nobody, wakes_of_floor}
pub use Rattle.halting.proofs.Counted.{is_counted_out, is_last_of, may_count}
pub use Rattle.halting.proofs.Whole.{HaltsSince, begins_whole, is_done}
pub use Rattle.halting.specs.Halts.{CountsItselfOut, EndsHalting, GoesOnHalting, HaltsOn, IsAt, MayCountOut}
pub use Rattle.halting.specs.Halts.{WakesNoOther, WakesOther, nobody_is_awake, somebody_is_awake}
pub use Rattle.lock_calls.specs.Choices.{by_word, course, outside}
pub use Rattle.lock_calls.specs.Releases.{AwaitsInRelease, BeginsGivingUp, BeginsRelease, EndsRelease, GoesOnReleasing}
pub use Rattle.lock_calls.specs.Releases.{HasBegunRelease, HasPutDown, HasWokenOne, IsInRelease, IsReleased}
pub use Rattle.lock_calls.specs.Releases.{IsReleasing, IsUnderRelease, LeavesByDrop, LeavesWithBoth, LeavesWithChain}
pub use Rattle.lock_calls.specs.Releases.{ReleaseEnd, ReleaseLeg, ReleasesAtOnce, ReleasesOn, ReleasesPart}
pub use Rattle.lock_calls.specs.Releases.{StandsInRelease, WakesNext, WakesOne, held_once, makes_free, misses}
pub use Rattle.lock_calls.specs.Releases.{nobody_left, once_released, puts_down}
pub use Rattle.lock_calls.specs.Rounds.{AsksOwner, HasSeen, LooksAgain, LooksOn, asks, looks_alone, nobody, of_mutex}
pub use Rattle.lock_calls.specs.Rounds.{of_shareable, tries_too}
pub use Rattle.lock_calls.specs.Sections.{HasRecordAndChain, IsItsChain, section_out}
pub use Rattle.lock_calls.specs.Steps.{Acquires, ByDrop, FirstMisses, HasMissedFirst, InSection, IsCovered, IsGain}
pub use Rattle.lock_calls.specs.Steps.{IsGivingUpIn, IsInRound, IsReleaseIn, Locks, MayRelease, MayTake, MissesFirst}
pub use Rattle.lock_calls.specs.Steps.{Release, as_taken, at_once, begins_round, comes_there, enters_by, enters_there}
pub use Rattle.lock_calls.specs.Steps.{frees, gains_at_once, gains_checked, gives_both, most_missed, none_missed}
pub use Rattle.lock_calls.specs.Steps.{one_missed, opens_by, refuses, releases_by, runs_on, unlocks}
pub use Rattle.lock_calls.specs.Takes.{AwaitsInTake, BeginsTake, EndsHalted, EndsRefused, GoesOnTaking, HasBegunTake}
pub use Rattle.lock_calls.specs.Takes.{HasChainOut, HasTaken, IsBetween, IsContending, IsHalt, IsHalted, IsHaltingThere}
pub use Rattle.lock_calls.specs.Takes.{IsInTake, IsNotTaken, IsParked, IsRefused, IsStanding, IsTaking}
pub use Rattle.lock_calls.specs.Takes.{IsUnderAcquiring, IsUnderTake, LeavesLooks, StandsAndWakes, StandsInTake}
pub use Rattle.lock_calls.specs.Takes.{TakeEnd, TakeEnds, TakeLeg, TakesAtOnce, TakesOn, TakesPart, WakesInTake}
pub use Rattle.lock_calls.specs.Takes.{WasHalted, WasNotTaken, admitted, again, at_check, comes_in, counts_out, enters}
pub use Rattle.lock_calls.specs.Takes.{finds_out, for_claim, halts_on, has_halted, hops, in_round, in_section, is_last}
pub use Rattle.lock_calls.specs.Takes.{is_queued, kept_at, looks, looks_there, marked_at, next_at, owner_queued}
pub use Rattle.lock_calls.specs.Takes.{resumes, stands_at, takes_chain, takes_turnstiles}
pub use Rattle.lock_calls.specs.Tries.{About, BeginsTry, EndsBusy, FindsBusyAt, GainsAndNotes, GainsAt, GainsThere}
pub use Rattle.lock_calls.specs.Tries.{GoesOnTrying, HasBegunTry, HasChainInTry, HasFoundBusy, HasTried, IsBusyFor}
pub use Rattle.lock_calls.specs.Tries.{IsDeciding, IsInTry, IsThereByTry, IsUnderTry, SeeksByTry, StandsInTry, TriesOn}
pub use Rattle.lock_calls.specs.Tries.{TryLeg, WasBusyFor, about_of, as_tried, busy_in_round, busy_there}
pub use Rattle.lock_calls.specs.Tries.{gains_in_round, gains_there, looks_in_round, nothing_else, seeks_try}
pub use Rattle.lock_calls.specs.Tries.{tried_under, tries_left, tries_there}
pub use Rattle.lock_calls.specs.Waiting.{CanAcquire, CanLook, EntersStep, GainsAtOnce, GainsStep, HasBegun, HasGained}
pub use Rattle.lock_calls.specs.Waiting.{HasGainedFirst, HasLooked, HasMissed, HasSpun, IsCalling, IsChecking}
pub use Rattle.lock_calls.specs.Waiting.{IsGaining, IsOwn, IsSeeking, IsThere, Kept, LetsGo, MayGain, MayLetGo}
pub use Rattle.lock_calls.specs.Waiting.{MayPutDown, MaySeek, MissesOwn, MissesThere, Saw, SpinsThenGains, kept_of}
pub use Rattle.lock_calls.specs.Waiting.{with_looks, with_looks_counted, with_none_out}
pub use Rattle.lock_calls.specs.declared.answers.Next.{Next}
pub use Rattle.lock_calls.specs.declared.answers.Next.TheVariants.{Again, Done, Halted, Reversed, Sleep, Wake}
pub use Rattle.lock_calls.specs.declared.answers.ReleaseNext.{ReleaseNext}
pub use Rattle.lock_calls.specs.declared.answers.TakeNext.{TakeNext}
pub use Rattle.lock_calls.specs.declared.courses.Course.{Course}
pub use Rattle.lock_calls.specs.declared.courses.Course.TheVariants.{ByClaim, MustWait, Plainly}
pub use Rattle.lock_calls.specs.declared.trying.TryNext.{TryNext}
