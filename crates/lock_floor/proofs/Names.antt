-- The names that the proofs of `lock_floor` use of the crates below and of its own definitions, in one place. What
-- lies behind a name says the line that passes it on. Lemmas of this crate are taken from their own files.
pub use Rattle.atomic_table.specs.Table.{Allows, Final, Joins, Me, Seen, Splits, carried_after, gives, keeps, opening}
pub use Rattle.atomic_table.specs.Table.{rest, stepped, takes, turned}
pub use Rattle.std.proofs.Common.{Bool, Err, IfSome, IsSome, List, None, Ok, Option, Result, Some, [], ap, append_assoc}
pub use Rattle.std.proofs.Common.{arith, bit_and, cond, drop, eq-eqb, eqb, false, get_or, get_or-set_other}
pub use Rattle.std.proofs.Common.{get_or-set_same, inl, inr, is_eq, is_lt, is_some, le-ltb, length, length-append}
pub use Rattle.std.proofs.Common.{length-set, lt-ltb, ltb, map, nat_eq, not, position, refl, replicate, reverse, rules}
pub use Rattle.std.proofs.Common.{set, slice_get, subst, suc, sym, take, true, vec_capacity, zero, ℕ}
pub use Rattle.std.proofs.Crossing.{crosses}
pub use Rattle.std.proofs.Math.Nat.{mod-lt}
pub use Rattle.std.proofs.lemmas.Bool.{cases_Bool, cases_eq, cases_lt, eqb-true, ltb-false, ltb-true, ne_eqb}
pub use Rattle.std.proofs.lemmas.Cmp.{tied_itself}
pub use Rattle.std.proofs.lemmas.List.{append-nil, append_cancel_right, get_or-append-add, get_or-replicate}
pub use Rattle.std.proofs.lemmas.List.{get_or_append_left, get_or_default, get_or_past, length-map, length-replicate}
pub use Rattle.std.proofs.lemmas.List.{map-append, map_push, reverse-append, reverse-reverse, set-get_or}
pub use Rattle.std.proofs.lemmas.List.Edits.{remove-append_right}
pub use Rattle.std.proofs.lemmas.List.Elements.{All-append, All-cons, All-head, All-map, All-nil, All-push, All-tail}
pub use Rattle.std.proofs.lemmas.List.Elements.{Contains-get_or}
pub use Rattle.std.proofs.lemmas.List.Folds.{list_any-append, list_any_more, list_any_none}
pub use Rattle.std.proofs.lemmas.List.Sorted.{searchable_from_sorted}
pub use Rattle.std.proofs.lemmas.List.Sums.{position_or_len_is, sum_by-cons}
pub use Rattle.std.proofs.lemmas.Map.{NonePasses, none_passes_from_lookup}
pub use Rattle.std.proofs.lemmas.Map.Keys.{IsDistinct-cons, IsDistinct-head, IsDistinct-tail, Less-from_sorted}
pub use Rattle.std.proofs.lemmas.Option.{same_Some}
pub use Rattle.std.specs.Box.{with_value}
pub use Rattle.std.specs.FinMap.{FinMap, get, get-empty, insert, same_map}
pub use Rattle.std.specs.Global.{Vec}
pub use Rattle.std.specs.List.{All, AllByRecursion, Contains, list_any, position_or_len, remove}
unfoldable pub use Rattle.std.specs.List.{IsDistinct}
pub use Rattle.std.specs.List.Sorted.{IsBinarySearchResult, IsPartitionPoint, IsSearchInRange, IsStrictlySortedBy}
pub use Rattle.std.specs.Map.{keys_of}
pub use Rattle.std.specs.Mem.Slots.{slots_filled, slots_items, slots_len}
pub use Rattle.std.specs.Mem.Slots.Ownership.{Filled}
pub use Rattle.std.specs.Ordering.{ordering_reverse}
pub use Rattle.std.specs.Prelude.{IfNone, IsSomeAnd, MatchResult, nat_lt, option_map, slice_index, unwrap_or}
pub use Rattle.std.specs.declared.alloc.Global.{Global}
pub use Rattle.std.specs.declared.boxed.Box.{Box}
pub use Rattle.std.specs.declared.cmp.Ordering.{Ordering}
pub use Rattle.std.specs.declared.cmp.Ordering.TheVariants.{Equal, Greater, Less}
pub use Rattle.lock_model.proofs.HeldLocks.{held_there, none_held, none_taken, taken_out}
pub use Rattle.lock_model.proofs.Orders.{same_admitted, same_first}
pub use Rattle.lock_model.specs.Config.{Config}
pub use Rattle.lock_model.specs.Counts.{at_option, is_empty, one, some as count, times}
unfoldable pub use Rattle.lock_model.specs.Counts.{sum_below}
pub use Rattle.lock_model.specs.Events.{BeginsIn, EndsFrom, LeftFor, NoSection, OfSection, TakenBack, facets}
pub use Rattle.lock_model.specs.History.{Sections, entries_of, left_in, open_in, place_cmp, replaced, sections_by}
pub use Rattle.lock_model.specs.History.{sections_in, tables_of}
unfoldable pub use Rattle.lock_model.specs.History.{value_at}
pub use Rattle.lock_model.specs.Holds.{Hold, Holds, NotHeld}
pub use Rattle.lock_model.specs.Law.{is_asleep, is_named}
pub use Rattle.lock_model.specs.Limits.{most_classes}
pub use Rattle.lock_model.specs.Operations.{hold_in, holds_lock, without_lock}
pub use Rattle.lock_model.specs.Orders.{HaveSameEdges, IsAdmitted, IsFirstToForbid, edges_behind}
pub use Rattle.lock_model.specs.Queues.{ByAbort, BySignal, Cause, Lists, Mark, Waiter, chan_queue, dealt, is_queue}
pub use Rattle.lock_model.specs.Queues.{is_turnstile_queue, least_of, list_of, lock_queue, names_turnstile, side_of}
pub use Rattle.lock_model.specs.Queues.{stands, taken_off, times_waiting, without as without_waiter}
pub use Rattle.lock_model.specs.Words.{IsWellFormed, Word, admits, claimed as says_claimed, holder_of, is_drop, is_free}
pub use Rattle.lock_model.specs.Words.{is_plain, is_turnstile, opened, owner_of, shows_waiters, side_opened, side_woken}
pub use Rattle.lock_model.specs.Words.{unshown, with_bit, without_one, word_of}
pub use Rattle.lock_model.specs.declared.event.Entry.{Entry}
pub use Rattle.lock_model.specs.declared.event.Event.{Event}
pub use Rattle.lock_model.specs.declared.event.Event.TheVariants.{Added, Base, Busy, Got, HaltedChan, HaltedLock}
pub use Rattle.lock_model.specs.declared.event.Event.TheVariants.{Locked, Shown, Sleeps, Tried, Unlocked, Woke, WokeAll}
pub use Rattle.lock_model.specs.declared.event.Event.TheVariants.{WokeOne}
pub use Rattle.lock_model.specs.declared.event.Held.{Held}
pub use Rattle.lock_model.specs.declared.numbers.ChanNo.{ChanNo}
pub use Rattle.lock_model.specs.declared.numbers.ClassNo.{ClassNo}
pub use Rattle.lock_model.specs.declared.numbers.LockNo.{LockNo}
pub use Rattle.lock_model.specs.declared.numbers.Prio.{Prio}
pub use Rattle.lock_model.specs.declared.numbers.ThreadNo.{ThreadNo}
pub use Rattle.lock_model.specs.declared.plan.Kind.{Kind}
pub use Rattle.lock_model.specs.declared.plan.Kind.TheVariants.{Mtx, Rw, Sx}
pub use Rattle.lock_model.specs.declared.plan.Mode.{Mode}
pub use Rattle.lock_model.specs.declared.plan.Mode.TheVariants.{Excl}
pub use Rattle.lock_model.specs.declared.plan.QueueName.{QueueName}
pub use Rattle.lock_model.specs.declared.plan.QueueName.TheVariants.{Chan, Lock}
pub use Rattle.lock_model.specs.declared.plan.Side.{Side}
pub use Rattle.lock_model.specs.declared.plan.Side.TheVariants.{S, X}
pub use Rattle.lock_state.specs.Facts.{Lawful}
unfoldable pub use Rattle.lock_state.specs.Facts.{BasesReplay, BitsShowWaiters, CountedInIsNextMarked, EndedIsCounted}
unfoldable pub use Rattle.lock_state.specs.Facts.{HeadsFitWaiters, LoansAreOnHeads, LogsAreParts, NextIsNew}
unfoldable pub use Rattle.lock_state.specs.Facts.{OneSleepQueueEach, OneTurnstileEach, OnlyLocksAreHeld}
unfoldable pub use Rattle.lock_state.specs.Facts.{OnlyThreadsStand, StandingIsQueued, TablesReplay, UnhaltedBefore}
pub use Rattle.lock_state.specs.Facts.Queues.{ShowsItsWaiters}
unfoldable pub use Rattle.lock_state.specs.Facts.Queues.{sleep_queue_places, turnstile_places}
pub use Rattle.lock_state.specs.Facts.Sleeps.{is_signalled}
pub use Rattle.lock_state.specs.Facts.Waits.{times_marked}
pub use Rattle.lock_state.specs.State.{Aborting, Asleep, AtLock, AtThread, Awake, Halting, HeldLock, Last, Loan, Look}
pub use Rattle.lock_state.specs.State.{NoWalk, OrderRefused, Phase, Queued, Round, Running, SelfAborted, SleepHalted}
pub use Rattle.lock_state.specs.State.{State, Wait, Wake, Walk, Woken, Woken as WokenOff, found_nobody_awake}
pub use Rattle.lock_state.specs.State.{gained_order, is_finder, is_parked, put, put_at, put_queue}
unfoldable pub use Rattle.lock_state.specs.State.{start_state}
pub use Rattle.lock_state.specs.Steps.{Aborts, Adds, Admits, ChecksOutsideRounds, Claims, CountsEnd, CountsIn}
pub use Rattle.lock_state.specs.Steps.{CountsOut, CountsSelfIn, Drops, EndsItsTake, EndsTake, EndsWalk, Enters}
pub use Rattle.lock_state.specs.Steps.{EntersFromLook, EntersSleepQueue, FitsRound, Gains, GainsFromLook, GainsInOrder}
pub use Rattle.lock_state.specs.Steps.{GivesItem, GoesOn, GoesOnOrHalts, Halts, HasItem, HasOutForEnd, HasOutForEntry}
pub use Rattle.lock_state.specs.Steps.{IsAtResume, IsBackFrom, IsCountedIn, IsFirstExchange, IsHalting, IsItem}
pub use Rattle.lock_state.specs.Steps.{IsOfRound, IsReachable, IsRoundOfWanted, IsRunnable, IsSecondExchange}
pub use Rattle.lock_state.specs.Steps.{KeepsCountedOut, Lends, Looks, Marks, NeedsNoAdmission, NotesInRound, Opens}
pub use Rattle.lock_state.specs.Steps.{OpensSleepQueue, OwesNoStep, Readies, Refuses, Resumes, Seeks, Shifts, Stamps}
pub use Rattle.lock_state.specs.Steps.{Step, TakesItem, Unreadies, Wakes, after, after_all, begins, chain_of}
pub use Rattle.lock_state.specs.Steps.{counts_as_look, ends_sleep, goes_on, is_first, is_halting, is_waking, is_with}
pub use Rattle.lock_state.specs.Steps.{maker, seeks}
pub use Rattle.lock_state.specs.Steps.Counting.{phase_out}
unfoldable pub use Rattle.lock_state.specs.Steps.Counting.{after_count_end, after_count_in, after_count_out}
unfoldable pub use Rattle.lock_state.specs.Steps.Counting.{after_count_self_in, after_halt}
pub use Rattle.lock_state.specs.Steps.Items.{CellOf, ClassGraph, IsDoneWith, IsOnItsWay, IsSettled, Item}
pub use Rattle.lock_state.specs.Steps.Items.{MayCheckOrders, RecordOf, SleepChain, TurnstileChain, go_together}
pub use Rattle.lock_state.specs.Steps.Items.{in_its_chain, is_bound, is_chain, item_with, seen_after}
unfoldable pub use Rattle.lock_state.specs.Steps.Items.{after_give, after_take}
pub use Rattle.lock_state.specs.Steps.Lending.{IsAtEnd, MayClaim, MayLend, MayShift, loan_of, walk_to}
unfoldable pub use Rattle.lock_state.specs.Steps.Lending.{after_claim, after_end_walk, after_lend, after_shift}
pub use Rattle.lock_state.specs.Steps.LockWords.{Asks, Begins, IsActing, IsGainedLast, IsTheWake, Returns, begun_after}
pub use Rattle.lock_state.specs.Steps.LockWords.{begun_with, bits_of_threads, bound_to, changes_base, changes_sections}
pub use Rattle.lock_state.specs.Steps.LockWords.{changes_table, effective_of, entry_of, is_sleep, is_taking_back}
pub use Rattle.lock_state.specs.Steps.LockWords.{is_woken, looks_after, round_after, round_of, table_after}
pub use Rattle.lock_state.specs.Steps.LockWords.{taking_after, taking_from, unstamped_after, without_held}
unfoldable pub use Rattle.lock_state.specs.Steps.LockWords.{after_drop, after_gain, after_look, after_ready, after_seek}
unfoldable pub use Rattle.lock_state.specs.Steps.LockWords.{after_stamp, after_unready}
pub use Rattle.lock_state.specs.Steps.Orders.{IsFreeToTake, classes_held, held_classes}
unfoldable pub use Rattle.lock_state.specs.Steps.Orders.{after_admit, after_refuse}
pub use Rattle.lock_state.specs.Steps.SleepQueues.{IsQueueOf, has_slept, look_leaving, phase_aborting, sleeper}
pub use Rattle.lock_state.specs.Steps.SleepQueues.{word_showing}
unfoldable pub use Rattle.lock_state.specs.Steps.SleepQueues.{after_abort, after_add, after_enter_sleep}
unfoldable pub use Rattle.lock_state.specs.Steps.SleepQueues.{after_open_sleep, after_wake}
pub use Rattle.lock_state.specs.Steps.Turnstiles.{HasReleased, IsLastHolder, MustWait, called_after, noted_after}
pub use Rattle.lock_state.specs.Steps.Turnstiles.{phase_marked, round_for, taking_by, walk_up, wanted_after}
pub use Rattle.lock_state.specs.Steps.Turnstiles.{woken_from_by}
unfoldable pub use Rattle.lock_state.specs.Steps.Turnstiles.{after_enter, after_mark, after_open, after_resume}
pub use Rattle.lock_laws.proofs.AtTurn.{no_owner, none_stands, shown_head, well_formed}
pub use Rattle.lock_laws.proofs.ChangedWords.{some_there, word_stays}
pub use Rattle.lock_laws.proofs.Derived.{once, tables}
pub use Rattle.lock_laws.proofs.HeadsAndNodes.{head_lock, owner_thread}
pub use Rattle.lock_laws.proofs.HeadsOfWaiters.{standing_head}
pub use Rattle.lock_laws.proofs.HeldLists.{gained_order-push, gained_order-without, hold_in-push}
pub use Rattle.lock_laws.proofs.Kit.{at_put, each_place, is_queue_same, one_same, put_at_beside, put_at_other}
pub use Rattle.lock_laws.proofs.Kit.{put_at_row, put_at_same, put_back, put_other, put_queue_other, put_same}
pub use Rattle.lock_laws.proofs.Kit.{sum_below-two}
pub use Rattle.lock_laws.proofs.OwnEntries.{bases_stay, effective_stays, own_sections, sections_stay, tables_stay}
pub use Rattle.lock_laws.proofs.Sections.{own_section}
pub use Rattle.lock_laws.proofs.SeenWords.{can_be_seen}
pub use Rattle.lock_laws.proofs.Standing.{asleep_out, home_nowhere, marked_named, marked_thread, named_out}
pub use Rattle.lock_laws.proofs.Standing.{standing_named, times_named}
pub use Rattle.lock_laws.proofs.Sums.{sum_below-all, times-sum, zero_unless}
pub use Rattle.lock_laws.proofs.Taken.{few_bits}
pub use Rattle.lock_laws.specs.Words.{CanBeSeen}
pub use Rattle.sleep_laws.proofs.LegalSoFar.{legal_so_far, may_halt}
pub use Rattle.sleep_laws.specs.Sleepers.{IsWithChannel, WasAborted, by_chain}
unfoldable pub use Rattle.sleep_laws.specs.Sleepers.{NamedAreWoken}
pub use Rattle.count_laws.proofs.Alone.{few_awake}
pub use Rattle.count_laws.proofs.Countings.{some_awake}
pub use Rattle.witness_orders.proofs.Columns.{graph_behind}
pub use Rattle.witness_orders.specs.Graph.{RepresentsGraph, numbers_of}
pub use Rattle.witness_orders.specs.declared.orders.Orders.{Orders}
pub use Rattle.lock_history.proofs.Places.{get-insert_other, get-insert_same, place_exact, place_total}
pub use Rattle.lock_history.specs.Books.{Book}
pub use Rattle.turnstile_core.specs.Changes.{lists_of, moved, with_loan_home}
pub use Rattle.turnstile_core.specs.Seen.{Terms, Turnstile}
pub use Rattle.sleep_queues.specs.Changes.{all_waiters, waiters, waits, without_woken}
pub use Rattle.sleep_queues.specs.Seen.{Place, SleepQueue}
pub use Rattle.chain_table.proofs.Kept.{All-without}
pub use Rattle.chain_table.proofs.Lookups.{head_of-without_itself}
pub use Rattle.chain_table.specs.Chains.{head_of, without}
pub use Rattle.thread_records.specs.Loans.{loan_for}
pub use Rattle.thread_records.specs.Records.{Record as RecordSeen, made}
pub use Rattle.thread_records.specs.declared.record.ThreadRec.{ThreadRec}
pub use Rattle.prio_lending.specs.Hops.{with_contents}
pub use Rattle.lock_objects.proofs.Aborts.{marks_aborted, shows_aborted}
pub use Rattle.lock_objects.proofs.Chains.{all_gone, all_placed, is_queue-other}
pub use Rattle.lock_objects.proofs.Crossing.{marked_field_send, marked_send}
pub use Rattle.lock_objects.proofs.Enters.{can_lend, entered_record, head_shown}
pub use Rattle.lock_objects.proofs.Held.{apart_once, column_push, column_without, once_push, once_without}
pub use Rattle.lock_objects.proofs.Hops.{can_claim_it, can_hop, claimed_head, claimed_others, claimed_record}
pub use Rattle.lock_objects.proofs.Opens.{can_open_there, can_release, gone, marks_shown, record_shown, stays}
pub use Rattle.lock_objects.proofs.Queues.{IsHead, SameQueue, queue_stays, there}
pub use Rattle.lock_objects.proofs.Records.{none_beyond, with_other_base}
pub use Rattle.lock_objects.proofs.SleepChains.{ShowsSleepers, chain_slept, chain_woken_shown, marks_woken}
pub use Rattle.lock_objects.proofs.StepsOfSleepers.{abort_changes, add_changes, balanced, enter_sleep_changes}
pub use Rattle.lock_objects.proofs.StepsOfSleepers.{open_sleep_changes, sleeper_is, somebody_stands, taken_are}
pub use Rattle.lock_objects.proofs.StepsOfSleepers.{wake_changes}
pub use Rattle.lock_objects.specs.Aborts.{IsSleeper, aborted, aborted_from, chain_aborted, without_sleeper}
pub use Rattle.lock_objects.specs.Enters.{CanLend, CanStand, chain_entered, head_entered, record_entered, waiter_of}
pub use Rattle.lock_objects.specs.Hops.{CanBeLent, CanHop, chain_claimed, head_claimed, record_claimed}
pub use Rattle.lock_objects.specs.Marked.{AreOfKind, IsAway, cause_by, cause_in, like, node_of, places_of, record_woken}
pub use Rattle.lock_objects.specs.Opens.{CanOpen, CanRelease, chain_opened, left_open, record_opened, woken_of}
pub use Rattle.lock_objects.specs.Represents.{QueueColumns, RecordColumns, RepresentsHead, RepresentsQueue}
pub use Rattle.lock_objects.specs.Represents.{RepresentsQueues, RepresentsRecord, RepresentsSleepQueue, SleepColumns}
pub use Rattle.lock_objects.specs.Represents.{mark_by, mark_of, queue_in, record_in, sleepers_in, sleepers_of, walk_of}
pub use Rattle.lock_objects.specs.Sleeps.{chain_asleep, chain_woken, head_asleep, record_asleep, sleeper_of, slept}
pub use Rattle.lock_objects.specs.Sleeps.{woken}
pub use Rattle.lock_objects.specs.declared.marked.Marked.{Marked}
pub use Rattle.lock_objects.specs.declared.marked.Marked.TheVariants.{AbortedSleepers, Sleepers, Waiters}
pub use Rattle.lock_objects.specs.declared.marked.Woken.TheVariants.{AbortedSleeper, Sleeper}
pub use Rattle.floor_table.proofs.Crossing.{slot_send}
pub use Rattle.floor_table.proofs.Descriptions.{is_sized}
pub use Rattle.floor_table.proofs.Halted.{halted_by}
pub use Rattle.floor_table.proofs.Items.{cell_place, has_just, its_cell, its_part, one_place, place_low, record_place}
pub use Rattle.floor_table.proofs.Known.{fits_made}
pub use Rattle.floor_table.proofs.Lists.{at_or, inside, or_at, or_past, snoc_before, snoc_there}
pub use Rattle.floor_table.proofs.Made.{Finds, OwnSteps, Steps, allows, awake_made, ended_made, exchange_allows}
pub use Rattle.floor_table.proofs.Made.{give_made, give_made_with, halt_made, latch_seen_with, lock_made}
pub use Rattle.floor_table.proofs.Made.{lock_made_with, lock_seen, none_made, outs_stay, own_out, sooner, take_made}
pub use Rattle.floor_table.proofs.Made.{ticket_made, wait_made}
pub use Rattle.floor_table.proofs.Objects.{SaySame, still_of}
pub use Rattle.floor_table.proofs.PlanKeys.{cell_test, key_found}
pub use Rattle.floor_table.proofs.Poses.{has_sleep_queue, has_turnstile, stands_nowhere}
pub use Rattle.floor_table.proofs.Seats.{total_set}
pub use Rattle.floor_table.proofs.Seen.{one_own, seen_further, seen_on, two_own}
pub use Rattle.floor_table.proofs.Shelved.{found_first, found_later, put_twice, shelf_changed}
pub use Rattle.floor_table.proofs.Sound.{sound_begins, sound_kept}
pub use Rattle.floor_table.specs.Descriptions.{IsSized, config_in, room_for, room_in_all}
pub use Rattle.floor_table.specs.Past.{AreOfOthers, AreSeen, IsAllowed, IsSeen, IsSeenBy, LeadsTo, more, none}
pub use Rattle.floor_table.specs.Past.{past_with}
pub use Rattle.floor_table.specs.Places.{awake_line, ended_line, first_cell, first_sleep_chain, first_turnstile_chain}
pub use Rattle.floor_table.specs.Places.{graph_place, halt_line, home_at, is_cell, latch_line, latch_word, lock_line}
pub use Rattle.floor_table.specs.Places.{lock_word, slot_of, slots_for, spot, taker, ticket_line, wait_line, wait_word}
pub use Rattle.floor_table.specs.Places.{word_at, words_for}
pub use Rattle.floor_table.specs.Represents.{Board, HasNames, IsOf, IsPosed, IsSeatOf, IsTakenIn, Objects, Represents}
pub use Rattle.floor_table.specs.Represents.{RepresentsObjects, RepresentsSeats, RepresentsShare, RepresentsSleepChain}
pub use Rattle.floor_table.specs.Represents.{RepresentsTurnstiles, RepresentsWords, StandsIn, keeper_in, live}
pub use Rattle.floor_table.specs.Represents.{objects_in, one_thread, seat, sleepers, spare, taken_from, thread_in}
pub use Rattle.floor_table.specs.Represents.{total, wait_number, words_in}
unfoldable pub use Rattle.floor_table.specs.Represents.{RepresentsLatches}
pub use Rattle.floor_table.specs.Rule.{FloorHolds}
pub use Rattle.floor_table.specs.Shares.{Doing, Share, ShareColumns, columns_of, is_among, share_in, start_share}
pub use Rattle.floor_table.specs.Shelves.{AreApart, Shelves, found}
pub use Rattle.floor_table.specs.Steps.{FitAll, Fits, HasJust, IsSound, Makes, MakesEach, MayMake}
pub use Rattle.floor_table.specs.Views.{Knowledge, OfNobody, OfThread, Pose, Role, Runs, StandsOn, first_view}
pub use Rattle.floor_table.specs.Views.{is_off_queues, keeper, nothing, seeing}
pub use Rattle.floor_table.specs.declared.description.Description.{Description}
pub use Rattle.floor_table.specs.declared.description.LockPart.{LockPart}
pub use Rattle.floor_table.specs.declared.description.ThreadPart.{ThreadPart}
pub use Rattle.floor_table.specs.declared.slot.Slot.{Slot}
pub use Rattle.floor_table.specs.declared.slot.Slot.TheVariants.{Cell, Graph, Record, Record as Recorded, SleepQueues}
pub use Rattle.floor_table.specs.declared.slot.Slot.TheVariants.{Turnstiles}
pub use Rattle.finder_laws.proofs.AllSeen.{left_now}
pub use Rattle.finder_laws.specs.Left.{HasSeenLeft}
pub use Rattle.lock_floor.specs.Aborts.{AbortsSleeper, HasSeenHalt, IsHaltingOthers, IsSleeping, KeepsWord}
pub use Rattle.lock_floor.specs.Aborts.{MayAbortSleeper, aborted_off, out_aborted}
pub use Rattle.lock_floor.specs.Changes.{IsChangeOf, cell_after, changed, event_of, last_changed, stamped_change}
pub use Rattle.lock_floor.specs.Claims.{ClaimsIt, MayClaimIt, as_claimed, claimed, out_claimed}
pub use Rattle.lock_floor.specs.Closings.{IsClosing, IsHome}
pub use Rattle.lock_floor.specs.Counts.{added_by, counted, counted_first, counted_in_more, counts_by}
pub use Rattle.lock_floor.specs.Ends.{FindsWhetherLeft, ended}
pub use Rattle.lock_floor.specs.First.{AreFirstWords, IsFirst}
pub use Rattle.lock_floor.specs.Floors.{Floor, Keeper, Pass}
pub use Rattle.lock_floor.specs.Halting.{AbortsLast, IsLastAsleep, MayAbortLast, SleepsFirst, added_off}
pub use Rattle.lock_floor.specs.Latches.{FindsOut, IsOfKind, Takes}
pub use Rattle.lock_floor.specs.Marks.{AreMarked, CanMark, HasFirstOut, LacksObject, MarksFirst, MayMark, MayWakeOthers}
pub use Rattle.lock_floor.specs.Marks.{WakesFirst, marked_first, out_marked, record_marked, with_marks}
pub use Rattle.lock_floor.specs.Opens.{HasBothOut, MayOpenUp, OpensUp, marks_opened, opened_up, out_opened}
pub use Rattle.lock_floor.specs.Ordering.{ChecksOrder, HasGraph, IsVerdict, MayOrder, Settles, settled, settles}
pub use Rattle.lock_floor.specs.Passes.{IsAtRest, IsGoing, IsOffTheWay, IsReady, MakesEntry, first_pass, with_item}
pub use Rattle.lock_floor.specs.Relocks.{MayGiveUp}
pub use Rattle.lock_floor.specs.Resumes.{FindsQueued, FindsWhetherQueued, MayRunAgain, RunsAgain, resumed}
pub use Rattle.lock_floor.specs.Rounds.{gained_first}
pub use Rattle.lock_floor.specs.SleepLocks.{EntersAsleep, MayEnterAsleep, MayOpenSleepers, OpensSleepers}
pub use Rattle.lock_floor.specs.SleepLocks.{entered_asleep, opened_sleepers, sleepers_opened}
pub use Rattle.lock_floor.specs.Sleeps.{AddsItself, HasSleeperOut, HasSleepersOut, MayAddItself, MayWakeSleepers}
pub use Rattle.lock_floor.specs.Sleeps.{WakesSleepers, added, out_asleep, out_woken, sleepers_woken, woke}
pub use Rattle.lock_floor.specs.Ties.{IsKept, IsLaid, IsTied}
pub use Rattle.lock_floor.specs.Views.{begun_behind, begun_by, counts, entry_by, gained, gave, has_item, is_out}
pub use Rattle.lock_floor.specs.Views.{is_there, longer, looked, new_pass, others, put_down, sought, stamped, took}
pub use Rattle.lock_floor.specs.Views.{with_pass_made, with_pass_taken}
pub use Rattle.lock_floor.specs.Waits.{IsQueueOf as IsQueueOfFloor, both_out, chain_place, entered, its_chain}
pub use Rattle.lock_floor.specs.Waits.{out_entered, readied, readies}
pub use Rattle.lock_floor.specs.Walks.{CanWalk, HasTurnstilesOut, Hops, HopsOn, InHop, IsHop, IsHopTo, IsLentTo}
pub use Rattle.lock_floor.specs.Walks.{IsOnFloor, IsSorted, IsStepAtThread, MayLendTo, MaySort, NeedsRecord}
pub use Rattle.lock_floor.specs.Walks.{StandsNowhere, StandsThere, StepsInHop, hopped, in_chain, owner_of_head}
pub use Rattle.lock_floor.specs.Walks.{record_and_chain, turnstiles, turnstiles_place, walked, with_record}
pub use Rattle.lock_floor.specs.declared.closing.Closing.{Closing}
pub use Rattle.lock_floor.specs.declared.counts.Count.{Count}
pub use Rattle.lock_floor.specs.declared.counts.Count.TheVariants.{In, Out, SelfIn}
pub use Rattle.lock_floor.specs.declared.halting.FirstSleeper.{FirstSleeper}
pub use Rattle.lock_floor.specs.declared.tables.Change.{Change}
pub use Rattle.lock_floor.specs.declared.tables.Change.TheVariants.{Add, Set}
