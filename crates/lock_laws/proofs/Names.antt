-- The names that the proofs of `lock_laws` use of the crates below and of its own definitions, in one place. What
-- lies behind a name says the line that passes it on. Lemmas of this crate are taken from their own files.
pub use Rattle.std.proofs.Common.{Bool, List, None, Option, Some, [], ap, append_assoc, arith, cond, eq-eqb, eqb, false}
pub use Rattle.std.proofs.Common.{inl, inr, is_eq, leb, length, length-append, ltb, map, min, nat_cmp, nat_lt, not}
pub use Rattle.std.proofs.Common.{option_map, refl, slice_get, subst, suc, sym, take, true, zero, ℕ}
pub use Rattle.std.proofs.Math.Nat.{add-mul}
pub use Rattle.std.proofs.Props.{props}
pub use Rattle.std.proofs.lemmas.Bool.{and_parts, cases_Bool, cases_eq, cases_lt, eqb-false, eqb-true, le-leb, le-ltb}
pub use Rattle.std.proofs.lemmas.Bool.{leb-true, lt-ltb, ltb-true, ne_eqb, not-false, not-true, or_cases}
pub use Rattle.std.proofs.lemmas.Bool.Decides.{nat_tests}
pub use Rattle.std.proofs.lemmas.List.{append-nil, reverse-append, take_all}
pub use Rattle.std.proofs.lemmas.Map.Steps.{length-le_from_distinct_below}
pub use Rattle.std.proofs.lemmas.Nat.{div-mul-add, mod-mul-add, pow-add, pow_pos}
pub use Rattle.std.proofs.lemmas.Option.{none-some, same_Some, slice_get-map, slice_get_within}
pub use Rattle.std.specs.Cmp.{IsTotalOrder, nat_cmp_total, on_total, then_total, tied_then}
pub use Rattle.std.specs.FinMap.{FinMap, get, get-empty, get-insert}
pub use Rattle.std.specs.List.{AllByRecursion, list_any}
unfoldable pub use Rattle.std.specs.List.{IsDistinct}
pub use Rattle.std.specs.Ordering.{eq_by_cmp}
pub use Rattle.std.specs.Prelude.{unwrap_or, ⊤}
pub use Rattle.lock_model.proofs.LeastCodes.{passed}
pub use Rattle.lock_model.proofs.Lists.{ascends-insert, ascends-reinsert, ascends-without, best_stands, by_reinsert}
pub use Rattle.lock_model.proofs.Lists.{length-insert, length-last, length-reinsert, length-without}
pub use Rattle.lock_model.proofs.Lists.{times_waiting-insert, times_waiting-last, times_waiting-reinsert}
pub use Rattle.lock_model.proofs.Lists.{times_waiting-without}
pub use Rattle.lock_model.specs.Config.{Config}
pub use Rattle.lock_model.specs.Counts.{at_option, is_empty, lower, one, some, times}
unfoldable pub use Rattle.lock_model.specs.Counts.{any_below, has_bit, least, sum_below}
pub use Rattle.lock_model.specs.History.{IsAlone, IsInSection, IsReplayed, IsShown, Sections, added, base_by, base_in}
pub use Rattle.lock_model.specs.History.{begun_by, edited, entries_of, has_base, left_in, open_in, owns_in, place_cmp}
pub use Rattle.lock_model.specs.History.{sections_by, sets_base}
unfoldable pub use Rattle.lock_model.specs.History.{sections_in, tables_of, value_at}
pub use Rattle.lock_model.specs.Holds.{Hold, Holds, NotHeld, is_exclusive, is_unheld}
pub use Rattle.lock_model.specs.Limits.{most_held}
pub use Rattle.lock_model.specs.Operations.{IsBlock, IsProper, acquiring_tests, channel_test, held_after, held_behind}
pub use Rattle.lock_model.specs.Operations.{held_of, held_through, hold_in, is_endtry, is_kind, is_last, may_be_held}
pub use Rattle.lock_model.specs.Operations.{next_at, of_locks, operation_tests, tests_of, wait_tests, without_lock}
pub use Rattle.lock_model.specs.Plans.{chan_lock, lock_kind, operations_of}
pub use Rattle.lock_model.specs.Queues.{Ascends, ByAbort, BySignal, Cause, Lists, Mark, Waiter, best_of, chan_queue}
pub use Rattle.lock_model.specs.Queues.{dealt, free_after, free_with, head_after, head_with, insert, is_queue}
pub use Rattle.lock_model.specs.Queues.{is_turnstile_queue, least_kept, least_of, least_of_two, left_on, list_of}
pub use Rattle.lock_model.specs.Queues.{lock_queue, names_sleep_queue, names_turnstile, one_or_none, reinsert, side_of}
pub use Rattle.lock_model.specs.Queues.{stands, taken_off, times_waiting, waiting, with_kept, with_last, with_list}
pub use Rattle.lock_model.specs.Queues.{without, without_best}
pub use Rattle.lock_model.specs.Tests.{Passes, Test, where_some}
pub use Rattle.lock_model.specs.Words.{Free, HeldBy, Holder, IsPossible, IsWellFormed, SharedBy, Word, admits, bits_of}
pub use Rattle.lock_model.specs.Words.{claimed, dropped, entered, gained, is_drop, is_free, is_owned, is_plain}
pub use Rattle.lock_model.specs.Words.{is_turnstile, opened, owner_of, sharers, shows_waiters, side_woken, unshown}
pub use Rattle.lock_model.specs.Words.{with_bit, without_one, word_of}
pub use Rattle.lock_model.specs.declared.event.Entry.{Entry}
pub use Rattle.lock_model.specs.declared.event.Event.{Event}
pub use Rattle.lock_model.specs.declared.event.Event.TheVariants.{Added, Base, Got, Locked, Set, Shown}
pub use Rattle.lock_model.specs.declared.event.Held.{Held}
pub use Rattle.lock_model.specs.declared.numbers.ChanNo.{ChanNo}
pub use Rattle.lock_model.specs.declared.numbers.LockNo.{LockNo}
pub use Rattle.lock_model.specs.declared.plan.ChanDecl.{ChanDecl}
pub use Rattle.lock_model.specs.declared.plan.Kind.{Kind}
pub use Rattle.lock_model.specs.declared.plan.Kind.TheVariants.{Mtx, Rw, Sx}
pub use Rattle.lock_model.specs.declared.plan.LockDecl.{LockDecl}
pub use Rattle.lock_model.specs.declared.plan.Mode.{Mode}
pub use Rattle.lock_model.specs.declared.plan.Mode.TheVariants.{Excl, Shared}
pub use Rattle.lock_model.specs.declared.plan.OfLocks.{OfLocks}
pub use Rattle.lock_model.specs.declared.plan.OfLocks.TheVariants.{Acquires, ClosesBlock, EditsAt, NoLock, ReadsAt}
pub use Rattle.lock_model.specs.declared.plan.OfLocks.TheVariants.{Releases, SleepsOn, WakesOn}
pub use Rattle.lock_model.specs.declared.plan.Op.{Op}
pub use Rattle.lock_model.specs.declared.plan.Op.TheVariants.{EndTry, Release, Sleep, Try}
pub use Rattle.lock_model.specs.declared.plan.Plan.{Plan}
pub use Rattle.lock_model.specs.declared.plan.QueueName.{QueueName}
pub use Rattle.lock_model.specs.declared.plan.QueueName.TheVariants.{Chan, Lock}
pub use Rattle.lock_model.specs.declared.plan.Side.{Side}
pub use Rattle.lock_model.specs.declared.plan.Side.TheVariants.{S, X}
pub use Rattle.lock_state.specs.Best.{HasCycle, NobodyWalks, WaitsAlong, WaitsFor, best_behind}
unfoldable pub use Rattle.lock_state.specs.Best.{best_within, is_behind}
pub use Rattle.lock_state.specs.Facts.{Lawful, LawfulFloor, LoanFacts}
unfoldable pub use Rattle.lock_state.specs.Facts.{BasesReplay, BitsShowWaiters, CalledWants, ChannelsHaveNoOwner}
unfoldable pub use Rattle.lock_state.specs.Facts.{EditsInSections, EffectiveIsKnown, EffectiveIsLeast}
unfoldable pub use Rattle.lock_state.specs.Facts.{FreeMutexShowsNone, FreeWordHasCalled, HeadsFitWaiters, HeldAreListed}
unfoldable pub use Rattle.lock_state.specs.Facts.{KeptIsEffective, KeptIsKnown, ListsAscend, LoansAreKnown}
unfoldable pub use Rattle.lock_state.specs.Facts.{LoansAreLeast, LoansAreOnHeads, LoansAreWithOwners, LogsAreParts}
unfoldable pub use Rattle.lock_state.specs.Facts.{MutexWaitersAreExclusive, NextIsNew, OneNodeEach, OneSleepQueueEach}
unfoldable pub use Rattle.lock_state.specs.Facts.{OneTurnstileEach, OnlyThreadsHold, OnlyThreadsStand, OutIsNarrow}
unfoldable pub use Rattle.lock_state.specs.Facts.{OwnersHold, QueuedHasRecord, ReadsReplay, SectionsAreHeld}
unfoldable pub use Rattle.lock_state.specs.Facts.{SectionsExclude, ShownIsExplained, SleepQueueIsLent, StandingIsQueued}
unfoldable pub use Rattle.lock_state.specs.Facts.{StandingIsUncalled, StandingWants, StandsOnce, TablesReplay}
unfoldable pub use Rattle.lock_state.specs.Facts.{TicketsRun, TurnstileIsLent, WokenIsUncalled, WokenWants}
unfoldable pub use Rattle.lock_state.specs.Facts.{WordsMatchHolders}
pub use Rattle.lock_state.specs.Facts.Loans.{Each, EachOf, IsKept, IsKnown, at_lock, at_thread, owner_if}
unfoldable pub use Rattle.lock_state.specs.Facts.Loans.{walkers_at_lock, walkers_at_thread}
pub use Rattle.lock_state.specs.Facts.Queues.{HeadFits, ShowsItsWaiters, at_loan, only, times_object}
unfoldable pub use Rattle.lock_state.specs.Facts.Queues.{loans_on, sleep_queue_places, turnstile_places}
pub use Rattle.lock_state.specs.Facts.Sleeps.{AreSignals, is_chan, signals, signals_noted}
pub use Rattle.lock_state.specs.Facts.Waits.{at_queue, busy, calls_marked, calls_woken, times_marked}
unfoldable pub use Rattle.lock_state.specs.Facts.Waits.{callers}
pub use Rattle.lock_state.specs.Facts.Words.{WordMatchesHolders, is_listed, owns, shares}
pub use Rattle.lock_state.specs.State.{AtLock, AtThread, HeldLock, Loan, Look, NoWalk, Queued, Round, Running, State}
pub use Rattle.lock_state.specs.State.{Wait, Wake, Walk, Woken, gained_order}
unfoldable pub use Rattle.lock_state.specs.State.{put, put_at, put_queue, start_state}
pub use Rattle.lock_state.specs.Steps.{Aborts, Adds, Admits, Claims, CountsEnd, CountsIn, CountsOut, CountsSelfIn}
pub use Rattle.lock_state.specs.Steps.{Drops, EachStep, EndsRound, EndsWalk, Enters, EntersSleepQueue, FitsFloor}
pub use Rattle.lock_state.specs.Steps.{FitsRound, Gains, GivesItem, Halts, HasOut, HasSeen, IsFloorStep, IsHalting}
pub use Rattle.lock_state.specs.Steps.{IsOfRound, IsReachable, IsStep, Lends, Looks, LooksInRound, Marks, May, MayAll}
pub use Rattle.lock_state.specs.Steps.{NotesInRound, Opens, OpensSleepQueue, Readies, Refuses, Resumes, Seeks, Shifts}
pub use Rattle.lock_state.specs.Steps.{Stamps, Step, TakesItem, Unreadies, Wakes, after, after_all, begins, chain_of}
pub use Rattle.lock_state.specs.Steps.{goes_on, is_first, is_with, kind_of, seeks}
unfoldable pub use Rattle.lock_state.specs.Steps.Counting.{after_count_end, after_count_in, after_count_out}
unfoldable pub use Rattle.lock_state.specs.Steps.Counting.{after_count_self_in, after_halt}
pub use Rattle.lock_state.specs.Steps.Items.{CellOf, ClassGraph, IsDoneWith, Item, MayGive, MayTake, RecordOf}
pub use Rattle.lock_state.specs.Steps.Items.{SleepChain, TurnstileChain, cells_after, go_together, graph_after}
pub use Rattle.lock_state.specs.Steps.Items.{in_its_chain, is_bound, is_chain, item_with, out_with, records_after}
pub use Rattle.lock_state.specs.Steps.Items.{sleep_chains_after, turnstile_chains_after}
unfoldable pub use Rattle.lock_state.specs.Steps.Items.{after_give, after_take}
pub use Rattle.lock_state.specs.Steps.Lending.{IsAtEnd, MayClaim, MayEndWalk, MayLend, MayShift, loan_of, walk_to}
unfoldable pub use Rattle.lock_state.specs.Steps.Lending.{after_claim, after_end_walk, after_lend, after_shift}
pub use Rattle.lock_state.specs.Steps.LockWords.{Asks, IsActing, MayDrop, MayGain, MayLook, MayReady, MaySeek, MayStamp}
pub use Rattle.lock_state.specs.Steps.LockWords.{MayUnready, base_after, bits_of_threads, bound_to, changes_base}
pub use Rattle.lock_state.specs.Steps.LockWords.{changes_sections, changes_table, effective_after, effective_of}
pub use Rattle.lock_state.specs.Steps.LockWords.{entry_of, is_taking_back, is_woken, looks_after, prio_of, round_after}
pub use Rattle.lock_state.specs.Steps.LockWords.{round_of, table_after, without_held}
unfoldable pub use Rattle.lock_state.specs.Steps.LockWords.{after_drop, after_gain, after_look, after_ready, after_seek}
unfoldable pub use Rattle.lock_state.specs.Steps.LockWords.{after_stamp, after_unready}
pub use Rattle.lock_state.specs.Steps.Orders.{IsFreeToTake}
unfoldable pub use Rattle.lock_state.specs.Steps.Orders.{after_admit, after_refuse}
pub use Rattle.lock_state.specs.Steps.SleepQueues.{IsQueueOf, MayAbort, MayAdd, MayEnterSleep, MayOpenSleep, MayWake}
pub use Rattle.lock_state.specs.Steps.SleepQueues.{by_abort, look_leaving, sleeper, word_showing}
unfoldable pub use Rattle.lock_state.specs.Steps.SleepQueues.{after_abort, after_add, after_enter_sleep}
unfoldable pub use Rattle.lock_state.specs.Steps.SleepQueues.{after_open_sleep, after_wake}
pub use Rattle.lock_state.specs.Steps.Turnstiles.{IsLastHolder, MayEnter, MayMark, MayOpen, MayResume}
pub use Rattle.lock_state.specs.Steps.Turnstiles.{after_last_release, called_after, home_after, owner_with, round_for}
pub use Rattle.lock_state.specs.Steps.Turnstiles.{walk_up, wanted_after, with_marked, with_waiter}
unfoldable pub use Rattle.lock_state.specs.Steps.Turnstiles.{after_enter, after_mark, after_open, after_resume}
pub use Rattle.lock_laws.specs.Rounds.{IsBoundTo, LawfulRounds}
unfoldable pub use Rattle.lock_laws.specs.Rounds.{BoundHasChain, FirstExchangesAreFew, RoundsAreActing}
pub use Rattle.lock_laws.specs.Signals.{FitQueues, FitsQueue, TurnstilesSignal}
unfoldable pub use Rattle.lock_laws.specs.Signals.{MarksFitQueues, WakesFitQueues}
pub use Rattle.lock_laws.specs.Words.{CanBeSeen, HasRoom}
