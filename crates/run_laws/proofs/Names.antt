-- The names that the proofs of `run_laws` use of the crates below and of its own definitions, in one place. What
-- lies behind a name says the line that passes it on. Lemmas of this crate are taken from their own files.
pub use Rattle.std.proofs.Common.{All, Bool, List, None, Option, Some, [], add-one, ap, arith, cond, eq-eqb, eqb, false}
pub use Rattle.std.proofs.Common.{filter, inl, inr, length, length-append, ltb, map, nat_le, not, option_map, refl}
pub use Rattle.std.proofs.Common.{reverse, rules, slice_get, subst, suc, sym, take, true, zero, ℕ}
pub use Rattle.std.proofs.lemmas.Bool.{and_parts, cases_Bool, cases_eq, cases_lt, eqb-true, le-leb, leb-true, lt-leb}
pub use Rattle.std.proofs.lemmas.Bool.{ltb-false, ltb-true, ne_eqb, not-true, or_cases, or_left, or_right, true≢false}
pub use Rattle.std.proofs.lemmas.List.{length-map, length-reverse, reverse-append, reverse-reverse, take_all}
pub use Rattle.std.proofs.lemmas.List.Elements.{All-cons, All-filter, All-head, All-map, All-nil, All-tail}
pub use Rattle.std.proofs.lemmas.List.Sums.{sum-map, sum_by-cons}
pub use Rattle.std.proofs.lemmas.Option.{none-some, same_Some, slice_get_cases, slice_get_past, slice_get_within}
pub use Rattle.std.specs.List.{list_all, range_with_len, sum_by}
pub use Rattle.std.specs.Prelude.{is_some, unwrap_or, ⊤}
pub use Rattle.lock_model.proofs.LeastCodes.{passed}
pub use Rattle.lock_model.proofs.Orders.{edge_below, first_forbids, first_found, leads_reaches, new_or_old, none_found}
pub use Rattle.lock_model.proofs.Orders.{stays_without_cycle}
pub use Rattle.lock_model.specs.Config.{Config}
pub use Rattle.lock_model.specs.Counts.{at_option, is_empty, one}
unfoldable pub use Rattle.lock_model.specs.Counts.{any_below, has_bit, least, sum_below}
pub use Rattle.lock_model.specs.Events.{BeginsIn, EndsFrom, LeftFor, NoSection, OfSection, TakenBack, facets}
pub use Rattle.lock_model.specs.Events.{fell_asleep, is_waking_of, of_sleep, sleeps_on}
pub use Rattle.lock_model.specs.Halts.{HaltsAreHonest, is_honest_to}
unfoldable pub use Rattle.lock_model.specs.Halts.{HaltsComeSince, entries_below, entries_since}
pub use Rattle.lock_model.specs.History.{Sections, entries_of, left_in, open_in, replaced, sections_by}
unfoldable pub use Rattle.lock_model.specs.History.{sections_in}
pub use Rattle.lock_model.specs.Holds.{Hold, Holds, NotHeld, is_exclusive, is_unheld}
pub use Rattle.lock_model.specs.Law.{Asleep, Before, Cut, Gives, IsAtEnd, LeadsTo, Point, begins as leads_nowhere}
pub use Rattle.lock_model.specs.Law.{is_halt, passes_over}
unfoldable pub use Rattle.lock_model.specs.Law.{EntriesFollowOperations, HaltsOnlyWhenRunning, WakingsNameSleepers}
unfoldable pub use Rattle.lock_model.specs.Law.{entries_up_to, is_asleep, is_named, is_passed_over}
pub use Rattle.lock_model.specs.Legal.{IsLegal}
pub use Rattle.lock_model.specs.Operations.{IsProper, held_after, held_of, hold_in, next_at, of_locks}
pub use Rattle.lock_model.specs.Operations.{operations_in_all, without_lock}
pub use Rattle.lock_model.specs.OrderedPlans.{IsOrdered, waits_or_tries}
pub use Rattle.lock_model.specs.Orders.{Forbids, IsAdmitted, IsEdge, Reaches, above_all, edge, edges_behind}
pub use Rattle.lock_model.specs.Orders.{first_to_forbid, is_edge, leads_below, then}
unfoldable pub use Rattle.lock_model.specs.Orders.{HasNoCycle, forbids}
pub use Rattle.lock_model.specs.Plans.{config_of, lock_class, lock_kind, operations_of}
pub use Rattle.lock_model.specs.Queues.{ByAbort, BySignal, Cause, Mark, Waiter, chan_queue, lock_queue, stands}
pub use Rattle.lock_model.specs.Queues.{taken_off}
pub use Rattle.lock_model.specs.Takes.{OrdersAreLegal, has_reversal, is_reversal}
unfoldable pub use Rattle.lock_model.specs.Takes.{ReversalsHaveCause, classes_open, take_edges}
pub use Rattle.lock_model.specs.Text.{IsDone, IsReversed, IsStuck, IsTooLong}
pub use Rattle.lock_model.specs.Words.{Free, HeldBy, Holder, IsWellFormed, SharedBy, Word, admits, bits_of, is_drop}
pub use Rattle.lock_model.specs.Words.{is_free, is_plain, is_turnstile, owner_of, sharers, shows_waiters, without_one}
pub use Rattle.lock_model.specs.Words.{word_of}
pub use Rattle.lock_model.specs.declared.event.Entry.{Entry}
pub use Rattle.lock_model.specs.declared.event.Event.{Event}
pub use Rattle.lock_model.specs.declared.event.Event.TheVariants.{Busy, HaltedChan, HaltedLock, Locked, Reversed, Shown}
pub use Rattle.lock_model.specs.declared.event.Event.TheVariants.{Sleeps, Tried, Unlocked, Woke, WokeAll, WokeOne}
pub use Rattle.lock_model.specs.declared.event.Held.{Held}
pub use Rattle.lock_model.specs.declared.numbers.ChanNo.{ChanNo}
pub use Rattle.lock_model.specs.declared.numbers.LockNo.{LockNo}
pub use Rattle.lock_model.specs.declared.numbers.Prio.{Prio}
pub use Rattle.lock_model.specs.declared.plan.Kind.{Kind}
pub use Rattle.lock_model.specs.declared.plan.Kind.TheVariants.{Mtx, Rw, Sx}
pub use Rattle.lock_model.specs.declared.plan.Mode.{Mode}
pub use Rattle.lock_model.specs.declared.plan.Mode.TheVariants.{Excl, Shared}
pub use Rattle.lock_model.specs.declared.plan.OfLocks.{OfLocks}
pub use Rattle.lock_model.specs.declared.plan.OfLocks.TheVariants.{Acquires, ClosesBlock, EditsAt, NoLock, ReadsAt}
pub use Rattle.lock_model.specs.declared.plan.OfLocks.TheVariants.{Releases, SleepsOn, WakesOn}
pub use Rattle.lock_model.specs.declared.plan.Op.{Op}
pub use Rattle.lock_model.specs.declared.plan.Op.TheVariants.{Add, Base, EndTry, Get, Release, Set, Show, Sleep, Take}
pub use Rattle.lock_model.specs.declared.plan.Op.TheVariants.{Try, WakeAll, WakeOne}
pub use Rattle.lock_model.specs.declared.plan.Plan.{Plan}
pub use Rattle.lock_model.specs.declared.plan.QueueName.{QueueName}
pub use Rattle.lock_model.specs.declared.plan.QueueName.TheVariants.{Chan, Lock}
pub use Rattle.lock_model.specs.declared.plan.ThreadDecl.{ThreadDecl}
pub use Rattle.lock_model.specs.declared.turn.StepKind.{StepKind}
pub use Rattle.lock_model.specs.declared.turn.StepKind.TheVariants.{Claim, Drop, Enter, Gain, Note, OpenUp}
pub use Rattle.lock_model.specs.declared.turn.Turn.{Turn}
pub use Rattle.lock_model.specs.declared.turn.Turn.TheVariants.{Did, Ended, Idle}
pub use Rattle.lock_state.specs.Facts.{Lawful, LawfulTurn, owns, shares}
unfoldable pub use Rattle.lock_state.specs.Facts.{CalledWants, FreeMutexShowsNone, FreeWordHasCalled, LogsAreParts}
unfoldable pub use Rattle.lock_state.specs.Facts.{NothingIsOut, OnlyLocksAreHeld, OnlyThreadsHold, OwnersHold}
unfoldable pub use Rattle.lock_state.specs.Facts.{QueuedStands, StandingIsQueued, StandingIsUncalled, StandingWants}
unfoldable pub use Rattle.lock_state.specs.Facts.{StandsOnce, WantsAreOrdered, WokenWants, WordsMatchHolders}
unfoldable pub use Rattle.lock_state.specs.Facts.Halts.{NobodyIsHalted}
pub use Rattle.lock_state.specs.Facts.Sleeps.{AreSignals, aborts, is_aborted, is_chan_halt, is_signalled, signals_noted}
unfoldable pub use Rattle.lock_state.specs.Facts.Sleeps.{SleepersSlept, WokenBySignal, WokenSlept, aborted}
pub use Rattle.lock_state.specs.Facts.Waits.{at_queue, busy, calls_marked, calls_woken, times_marked}
unfoldable pub use Rattle.lock_state.specs.Facts.Waits.{callers}
pub use Rattle.lock_state.specs.Run.{Action, Course, HasLegalHistory, Run, after_turn, all_ended, blocks, by_marked}
pub use Rattle.lock_state.specs.Run.{by_release, by_wait, by_walk, does, ending_of, ends, finds_busy, gives_back, go_on}
pub use Rattle.lock_state.specs.Run.{held_before, held_now, holds_none, is_cut_short, is_idle, is_over, is_stuck}
pub use Rattle.lock_state.specs.Run.{is_walking, lock_of_wait, mode_held, next_ops, notes, nothing, operates}
pub use Rattle.lock_state.specs.Run.{owed_release, owes, round_of, run_after, start_course, start_run, takes}
pub use Rattle.lock_state.specs.Run.{threads_of, to_release, tries, waits_on, wakes, walks_at_lock, walks_at_thread}
pub use Rattle.lock_state.specs.Run.{was_cut, with_turn, without_unheld}
unfoldable pub use Rattle.lock_state.specs.Run.{after_turns, course_after, has_ended, run_behind, scheduled_run}
unfoldable pub use Rattle.lock_state.specs.Run.{turn_of}
pub use Rattle.lock_state.specs.State.{AtLock, AtThread, HeldLock, NoWalk, OrderRefused, Queued, Running, State, Wait}
pub use Rattle.lock_state.specs.State.{Wake, Walk, Woken, gained_order}
unfoldable pub use Rattle.lock_state.specs.State.{put, put_at, put_queue, start_state}
pub use Rattle.lock_state.specs.Steps.{Aborts, Adds, Admits, AsksOfSleepers, Claims, Drops, EndsTake, EndsWalk, Enters}
pub use Rattle.lock_state.specs.Steps.{EntersSleepQueue, Gains, GainsInOrder, GivesItem, Halts, IsBackFrom, IsReachable}
pub use Rattle.lock_state.specs.Steps.{KeepToOrder, Lends, Looks, Marks, May, MayAll, Opens, OpensSleepQueue, Readies}
pub use Rattle.lock_state.specs.Steps.{Refuses, Resumes, Seeks, Shifts, Stamps, Step, TakesItem, TakesNothing}
pub use Rattle.lock_state.specs.Steps.{Unreadies, Wakes, after, after_all, begins, is_with, maker}
unfoldable pub use Rattle.lock_state.specs.Steps.Counting.{after_count_end, after_count_in, after_count_out}
unfoldable pub use Rattle.lock_state.specs.Steps.Counting.{after_count_self_in, after_halt}
pub use Rattle.lock_state.specs.Steps.Items.{CellOf, ClassGraph, IsOnItsWay, RecordOf, SleepChain, TurnstileChain}
unfoldable pub use Rattle.lock_state.specs.Steps.Items.{after_give, after_take}
pub use Rattle.lock_state.specs.Steps.Lending.{MayClaim, MayEndWalk, MayLend, MayShift, walk_to}
unfoldable pub use Rattle.lock_state.specs.Steps.Lending.{after_claim, after_end_walk, after_lend, after_shift}
pub use Rattle.lock_state.specs.Steps.LockWords.{Asks, IsActing, IsTheWake, MayGain, MayStamp, begun_after, begun_with}
pub use Rattle.lock_state.specs.Steps.LockWords.{bits_of_threads, changes_sections, entry_of, is_of_section}
pub use Rattle.lock_state.specs.Steps.LockWords.{is_taking_back, is_woken, taking_after, unstamped_after, without_held}
unfoldable pub use Rattle.lock_state.specs.Steps.LockWords.{after_drop, after_gain, after_look, after_ready, after_seek}
unfoldable pub use Rattle.lock_state.specs.Steps.LockWords.{after_stamp, after_unready}
pub use Rattle.lock_state.specs.Steps.Orders.{IsFreeToTake, MayAdmit, classes_held}
unfoldable pub use Rattle.lock_state.specs.Steps.Orders.{after_admit, after_refuse}
pub use Rattle.lock_state.specs.Steps.SleepQueues.{MayAdd, has_slept}
unfoldable pub use Rattle.lock_state.specs.Steps.SleepQueues.{after_abort, after_add, after_enter_sleep}
unfoldable pub use Rattle.lock_state.specs.Steps.SleepQueues.{after_open_sleep, after_wake}
pub use Rattle.lock_state.specs.Steps.Turnstiles.{HasReleased, IsLastHolder, MayMark, MayResume, MustWait, noted_after}
pub use Rattle.lock_state.specs.Steps.Turnstiles.{taking_by, walk_up, wanted_after}
unfoldable pub use Rattle.lock_state.specs.Steps.Turnstiles.{after_enter, after_mark, after_open, after_resume}
pub use Rattle.lock_laws.proofs.AtTurn.{has_sleep_queue, has_turnstile, seen_again, shown_head, well_formed}
pub use Rattle.lock_laws.proofs.Dealt.{signals_nowhere}
pub use Rattle.lock_laws.proofs.Derived.{shown}
pub use Rattle.lock_laws.proofs.Endtries.{at_next, next_is_none}
pub use Rattle.lock_laws.proofs.HeadsAndNodes.{head_lock}
pub use Rattle.lock_laws.proofs.HeldLists.{Apart, AreLocks, GainFits, Leads, PassesBlock, WaitFits, fewer_without}
pub use Rattle.lock_laws.proofs.HeldLists.{gain_passes, gained_order-push, gained_order-without, held_are_locks}
pub use Rattle.lock_laws.proofs.HeldLists.{held_is, held_none, hold_in-push, hold_in-without, last_is, next_holds}
pub use Rattle.lock_laws.proofs.HeldLists.{next_leads, next_within, release_fits, still_unheld, try_passes, wait_fits}
pub use Rattle.lock_laws.proofs.HeldLists.{wake_fits}
pub use Rattle.lock_laws.proofs.Kit.{at_put, columns, each_place, is_queue_same, put_at_other, put_at_row, put_at_same}
pub use Rattle.lock_laws.proofs.Kit.{put_other, put_same, sum_below-at, sum_below-change, sum_below-same}
pub use Rattle.lock_laws.proofs.Kit.{sum_below-zero}
pub use Rattle.lock_laws.proofs.OwnEntries.{other_sections, sections_stay}
pub use Rattle.lock_laws.proofs.Sections.{own_section, own_sections_by}
pub use Rattle.lock_laws.proofs.Shown.{exclusive_is, true-any_below}
pub use Rattle.lock_laws.proofs.Standing.{standing_named}
pub use Rattle.lock_laws.proofs.Steps.{all_keep, all_reach}
pub use Rattle.lock_laws.proofs.Sums.{sum_below-le}
pub use Rattle.lock_laws.proofs.Words.{IsClaim, free_shows_none, is_claim, refused_held}
pub use Rattle.sleep_laws.proofs.LegalSoFar.{legal_so_far}
pub use Rattle.sleep_laws.proofs.SleepFacts.{begins as sleepers_begin}
pub use Rattle.sleep_laws.proofs.SleepFacts.Entries.{asleep_slept, one_channel, slept_back}
pub use Rattle.sleep_laws.proofs.SleepFacts.Found.{sum_below-some}
pub use Rattle.sleep_laws.proofs.SleepFacts.Known.{asleep}
pub use Rattle.sleep_laws.proofs.SleepFacts.Off.{off_acting, unnoted_unhalted}
pub use Rattle.sleep_laws.proofs.SleepFacts.Steps.{all_stay}
pub use Rattle.sleep_laws.proofs.SleepFacts.Turns.{turn_ends, turn_keeps}
pub use Rattle.sleep_laws.specs.Sleepers.{AsksOfSleepersAll, HaltNobody, SleepersFit, by_turn, nobody, off}
unfoldable pub use Rattle.sleep_laws.specs.Sleepers.{AsleepAreOnTheirWay, MarksAreSignals, PassedOverAreAborted}
unfoldable pub use Rattle.sleep_laws.specs.Sleepers.{ResumedSlept, UnnotedIsAtWork}
pub use Rattle.order_laws.proofs.OrderFacts.{begins as orders_begin, no_path}
pub use Rattle.order_laws.proofs.OrderFacts.Steps.{all_keep as orders_keep}
pub use Rattle.order_laws.proofs.TakeFacts.{begins as takes_begin}
pub use Rattle.order_laws.proofs.TakeFacts.Admit.{first_among, has_held}
pub use Rattle.order_laws.proofs.TakeFacts.Steps.{all_keep as takes_keep}
pub use Rattle.order_laws.proofs.TakeFacts.Whole.{legal as orders_legal}
pub use Rattle.count_laws.proofs.Moments.{halts_to_come, none_since}
pub use Rattle.run_laws.specs.OnTrack.{BeginsTake, IsAtOperation, IsCutShort, IsOnTrack, IsSleeping, OwesNothing}
pub use Rattle.run_laws.specs.OnTrack.{TakesLock, WalksAtTurnstiles, admitted, first_against, lock_of_take, point_by}
pub use Rattle.run_laws.specs.OnTrack.{point_in}
