-- The names that the proofs of `step_world` use of the crates below and of its own definitions, in one place. What
-- lies behind a name says the line that passes it on. Lemmas of this crate are taken from their own files.
pub use Rattle.std.proofs.Common.{All, Bool, Err, IfNone, IfOk, IfSome, IsSomeAnd, List, None, Ok, Option, Result, Some}
pub use Rattle.std.proofs.Common.{[], add-zero, ap, append-nil, ap₂, arith, bit_and, bit_or, cond, eq-eqb, eqb, false}
pub use Rattle.std.proofs.Common.{filter, flat_map, get_or, inl, inr, is_some, length, length-append, ltb, map, min}
pub use Rattle.std.proofs.Common.{nat_le, nat_lt, not, option_map, refl, reverse, rules, slice_get, subst, suc, suc-add}
pub use Rattle.std.proofs.Common.{sym, take, true, w32, zero, zero-add, ℕ}
pub use Rattle.std.proofs.lemmas.Bool.{and_from, and_parts, and_right, cases_Bool, cases_eq, cases_lt, eqb-true, le-ltb}
pub use Rattle.std.proofs.lemmas.Bool.{leb-true, lt-ltb, ltb-true, ne_eqb, not-false, not_from_false, or_cases}
pub use Rattle.std.proofs.lemmas.Bool.{or_parts}
pub use Rattle.std.proofs.lemmas.List.{append_assoc, flat_map_more, length-reverse, length_push, map-append, map-id}
pub use Rattle.std.proofs.lemmas.List.{reverse-append, reverse-reverse, take_all, take_more}
pub use Rattle.std.proofs.lemmas.List.Elements.{All-cons, All-head, All-nil, All-tail, All-weaker, filter-append}
pub use Rattle.std.proofs.lemmas.List.Folds.{list_all_at}
pub use Rattle.std.proofs.lemmas.List.FromFn.{get_or-range_with_len, length-range_with_len, map-range_with_len_more}
pub use Rattle.std.proofs.lemmas.Map.Keys.{any_passes_from_place}
pub use Rattle.std.proofs.lemmas.Nat.{and_mask, mod-pow-add, one_shl, ones_cat, pow_pos, shr-shr, shr_split}
pub use Rattle.std.proofs.lemmas.Nat.Bits.{bit_at-lt, bit_at-trailing_zeros, bit_at-zero, bit_at_above, bit_at_and}
pub use Rattle.std.proofs.lemmas.Nat.Bits.{bit_at_cat_high, bit_at_cat_low, bit_at_clear_other, bit_at_clear_same}
pub use Rattle.std.proofs.lemmas.Nat.Bits.{bit_at_not, bit_at_set_other, bit_at_set_same, shr_and_one}
pub use Rattle.std.proofs.lemmas.Option.{get_or_from_slice_get, none-some, same_Some, slice_get-get_or, slice_get-map}
pub use Rattle.std.proofs.lemmas.Option.{slice_get_past, slice_get_read, slice_get_within}
pub use Rattle.std.proofs.lemmas.Result.{err_from_is_err_and}
pub use Rattle.std.specs.Bool.{then_some}
pub use Rattle.std.specs.FinMap.{FinMap, entries, get}
pub use Rattle.std.specs.Global.{Vec}
pub use Rattle.std.specs.Int.{bit_at, bit_not, trailing_zeros}
unfoldable pub use Rattle.std.specs.Int.Count.{ones, ones_in}
pub use Rattle.std.specs.List.{Contains, list_all, list_any, range_with_len}
pub use Rattle.std.specs.Option.{is_none, option_map_or}
pub use Rattle.std.specs.Prelude.{IsTrue, unwrap_or, vec_len, ⊤}
pub use Rattle.lock_model.proofs.Orders.{found_first, found_none, same_admitted, same_first}
pub use Rattle.lock_model.specs.Config.{Config}
pub use Rattle.lock_model.specs.Counts.{any_below, is_empty}
unfoldable pub use Rattle.lock_model.specs.Counts.{has_bit}
pub use Rattle.lock_model.specs.Events.{fell_asleep, of_sleep}
pub use Rattle.lock_model.specs.History.{place_cmp, tables_of}
unfoldable pub use Rattle.lock_model.specs.History.{value_at}
pub use Rattle.lock_model.specs.Holds.{Hold, Holds, NotHeld, is_unheld}
pub use Rattle.lock_model.specs.Keys.{op_names, plan_names}
pub use Rattle.lock_model.specs.Limits.{most_held}
pub use Rattle.lock_model.specs.Operations.{IsProper, hold_in, next_at, without_lock}
pub use Rattle.lock_model.specs.Orders.{IsAdmitted, IsFirstToForbid}
pub use Rattle.lock_model.specs.Plans.{config_of, lock_class, lock_kind, operations_of}
pub use Rattle.lock_model.specs.Queues.{BySignal, Mark, Waiter, chan_queue, is_turnstile_queue, lock_queue, stands}
pub use Rattle.lock_model.specs.Queues.{taken_off, waiting}
pub use Rattle.lock_model.specs.Takes.{has_reversal, is_reversal}
pub use Rattle.lock_model.specs.Text.{IsDone, IsReversed}
pub use Rattle.lock_model.specs.Words.{IsWellFormed, admits, bits_of, is_drop, is_plain, is_turnstile, owner_of}
pub use Rattle.lock_model.specs.Words.{word_of}
pub use Rattle.lock_model.specs.declared.event.Entry.{Entry}
pub use Rattle.lock_model.specs.declared.event.Event.{Event}
pub use Rattle.lock_model.specs.declared.event.Held.{Held}
pub use Rattle.lock_model.specs.declared.numbers.ChanNo.{ChanNo}
pub use Rattle.lock_model.specs.declared.numbers.ClassNo.{ClassNo}
pub use Rattle.lock_model.specs.declared.numbers.LockNo.{LockNo}
pub use Rattle.lock_model.specs.declared.numbers.Prio.{Prio}
pub use Rattle.lock_model.specs.declared.numbers.ThreadNo.{ThreadNo}
pub use Rattle.lock_model.specs.declared.plan.Kind.{Kind}
pub use Rattle.lock_model.specs.declared.plan.Kind.TheVariants.{Mtx}
pub use Rattle.lock_model.specs.declared.plan.LockDecl.{LockDecl}
pub use Rattle.lock_model.specs.declared.plan.Mode.{Mode}
pub use Rattle.lock_model.specs.declared.plan.Mode.TheVariants.{Excl, Shared}
pub use Rattle.lock_model.specs.declared.plan.Op.{Op}
pub use Rattle.lock_model.specs.declared.plan.Op.TheVariants.{EndTry, Get, Release, Show, Sleep, Take, Try, WakeAll}
pub use Rattle.lock_model.specs.declared.plan.Op.TheVariants.{WakeOne}
pub use Rattle.lock_model.specs.declared.plan.Plan.{Plan}
pub use Rattle.lock_model.specs.declared.plan.QueueName.{QueueName}
pub use Rattle.lock_model.specs.declared.plan.QueueName.TheVariants.{Chan, Lock}
pub use Rattle.lock_model.specs.declared.plan.ThreadDecl.{ThreadDecl}
pub use Rattle.lock_model.specs.declared.turn.StepKind.{StepKind}
pub use Rattle.lock_model.specs.declared.turn.StepKind.TheVariants.{Note}
pub use Rattle.lock_model.specs.declared.turn.Turn.{Turn}
pub use Rattle.lock_model.specs.declared.turn.Turn.TheVariants.{Did, Ended, Idle}
pub use Rattle.lock_state.specs.Facts.{Lawful}
unfoldable pub use Rattle.lock_state.specs.Facts.{HeadsFitWaiters, OnlyLocksAreHeld, StandsOnce, TablesReplay}
pub use Rattle.lock_state.specs.Run.{Action, HasLegalHistory, Run, after_turn, all_ended, blocks, course_after, does}
pub use Rattle.lock_state.specs.Run.{ends, first_turn, go_on, held_now, holds_none, is_idle, is_over, is_stuck}
pub use Rattle.lock_state.specs.Run.{is_walking, line_of_queue, lock_of_wait, mode_held, next_ops, notes, nothing}
pub use Rattle.lock_state.specs.Run.{operates, outcome_of, owed_release, owes, queue_lines, round_of, run_after}
pub use Rattle.lock_state.specs.Run.{start_course, start_run, takes, threads_of, to_release, waits_on, walks_at_lock}
pub use Rattle.lock_state.specs.Run.{walks_at_thread, was_cut, whole_ending, with_turn}
unfoldable pub use Rattle.lock_state.specs.Run.{has_ended, run_behind, scheduled_run, turn_of}
pub use Rattle.lock_state.specs.State.{AtLock, AtThread, HeldLock, NoWalk, OrderRefused, Queued, Running, State, Wait}
pub use Rattle.lock_state.specs.State.{Woken, gained_order, put_at}
pub use Rattle.lock_state.specs.Steps.{Adds, Admits, Claims, Drops, EndsWalk, Enters, EntersSleepQueue, Gains, Lends}
pub use Rattle.lock_state.specs.Steps.{Looks, Marks, May as MayMake, MayAll, Opens, OpensSleepQueue, Readies, Resumes}
pub use Rattle.lock_state.specs.Steps.{Shifts, Stamps, Step, Unreadies, Wakes, after, after_all, maker}
unfoldable pub use Rattle.lock_state.specs.Steps.Counting.{after_count_end, after_count_in, after_count_out}
unfoldable pub use Rattle.lock_state.specs.Steps.Counting.{after_count_self_in, after_halt}
unfoldable pub use Rattle.lock_state.specs.Steps.Items.{after_give, after_take}
unfoldable pub use Rattle.lock_state.specs.Steps.Lending.{after_claim, after_end_walk, after_lend, after_shift}
pub use Rattle.lock_state.specs.Steps.LockWords.{MayStamp, bits_of_threads, entry_of, without_held}
unfoldable pub use Rattle.lock_state.specs.Steps.LockWords.{after_drop, after_gain, after_look, after_ready, after_seek}
unfoldable pub use Rattle.lock_state.specs.Steps.LockWords.{after_stamp, after_unready}
pub use Rattle.lock_state.specs.Steps.Orders.{MayAdmit, classes_held}
unfoldable pub use Rattle.lock_state.specs.Steps.Orders.{after_admit, after_refuse}
pub use Rattle.lock_state.specs.Steps.SleepQueues.{MayWake}
unfoldable pub use Rattle.lock_state.specs.Steps.SleepQueues.{after_abort, after_add, after_enter_sleep}
unfoldable pub use Rattle.lock_state.specs.Steps.SleepQueues.{after_open_sleep, after_wake}
unfoldable pub use Rattle.lock_state.specs.Steps.Turnstiles.{after_enter, after_mark, after_open, after_resume}
pub use Rattle.lock_laws.proofs.AtTurn.{none_stands, well_formed}
pub use Rattle.lock_laws.proofs.Best.{any_below-true, effective_best}
pub use Rattle.lock_laws.proofs.Beyond.{few_wait}
pub use Rattle.lock_laws.proofs.HeldLists.{gain_passes, gained_order-push, held_few, next_holds, release_fits}
pub use Rattle.lock_laws.proofs.HeldLists.{try_passes}
pub use Rattle.lock_laws.proofs.Kit.{at_queue_one, put_other, put_same}
pub use Rattle.lock_laws.proofs.Shown.{true-any_below}
pub use Rattle.lock_laws.proofs.Standing.{marked_thread}
pub use Rattle.lock_laws.proofs.Steps.{all_keep, keeps}
pub use Rattle.order_laws.proofs.OrderFacts.Cycle.{no_cycle}
pub use Rattle.run_laws.proofs.Actions.{Gaining, Notes, Taking, adds, admitted_wants, anew, at_take, back, by_taking}
pub use Rattle.run_laws.proofs.Actions.{by_trying, changes_base, gets, gives_up_first, goes_by_wait, its_mode}
pub use Rattle.run_laws.proofs.Actions.{lock_with, makes_operation, marks_first, mode_left, sets, shows}
pub use Rattle.run_laws.proofs.Actions.{walks_from_lock, walks_from_thread}
pub use Rattle.run_laws.proofs.Entries.{cut_entries_below, entries_below, next_op_below}
pub use Rattle.run_laws.proofs.Idle.{changes_nothing, done_awake, ended_exactly, idle_exactly}
pub use Rattle.run_laws.proofs.LegalRuns.{outcomes_are_legal}
pub use Rattle.run_laws.proofs.OnTrack.{IsAwake, awake, before, behind, cut_no_wait, fit, is_awake, left, put_at_own}
pub use Rattle.run_laws.proofs.OnTrack.{waits_uncut}
pub use Rattle.run_laws.proofs.OtherThreads.{ends_no_other, other_next, own_steps}
pub use Rattle.run_laws.proofs.Shares.{AllBy, all_leave}
pub use Rattle.run_laws.proofs.Turning.{action_may, begins_on_track, turned}
pub use Rattle.run_laws.proofs.TurnsOfCourses.{none_made, one_more, stays_over}
pub use Rattle.run_laws.proofs.TurnsOfGains.{Finds, finds}
pub use Rattle.run_laws.proofs.TurnsOfNotes.{is_noted}
pub use Rattle.run_laws.proofs.TurnsOfWaits.{given_up}
pub use Rattle.run_laws.specs.OnTrack.{BeginsTake, IsAtOperation, IsOnTrack, IsSleeping, admitted, first_against}
pub use Rattle.witness_orders.specs.Graph.{numbers_of}
pub use Rattle.lock_history.proofs.Merged.{InOrder-reverse}
pub use Rattle.lock_history.specs.Endings.{ending_of}
pub use Rattle.lock_history.specs.Outcomes.{line_seen, outcome_seen, waiter_seen}
pub use Rattle.lock_history.specs.Tickets.{InOrder}
pub use Rattle.lock_history.specs.declared.outcome.Outcome.{Outcome}
pub use Rattle.lock_history.specs.declared.outcome.QueueLine.{QueueLine}
pub use Rattle.wait_objects.specs.Changes.{lists_of, waiters, waits}
pub use Rattle.wait_objects.specs.Seen.{Contents, Place}
pub use Rattle.turnstile_core.specs.Seen.{Turnstile}
pub use Rattle.sleep_queues.specs.Seen.{SleepQueue}
pub use Rattle.chain_table.specs.Chains.{head_of}
pub use Rattle.lock_objects.specs.Marked.{places_of}
pub use Rattle.lock_objects.specs.Represents.{RepresentsHead, RepresentsQueue, RepresentsSleepQueue, mark_of, queue_in}
pub use Rattle.lock_objects.specs.Represents.{sleepers_in, wait_of, walk_of}
pub use Rattle.step_machine.proofs.Kit.{looked, read, word_read}
pub use Rattle.step_machine.specs.Represents.{RepresentsThread, thread_in}
pub use Rattle.step_machine.specs.Runs.{HasKeys, HasRoom, IsAsFar, RepresentsRun, held_at}
pub use Rattle.step_machine.specs.Steps.{AreClasses, ChangesProgress, HasKey, HoldsFew, KeepsBooks, KeepsProgress}
pub use Rattle.step_machine.specs.Steps.{Makes, MakesAllWhere, MakesWhere, May, Progress, enters}
pub use Rattle.step_machine.specs.Steps.{mode_left as mode_left_by, opens, progress, progress_of, refuses}
pub use Rattle.step_machine.specs.Steps.{with_released}
pub use Rattle.step_machine.specs.Threads.{has_no_walk, thread_has_ended}
pub use Rattle.step_machine.specs.declared.machine.Machine.{Machine}
pub use Rattle.step_machine.specs.declared.thread.Thread.{Thread}
pub use Rattle.step_world.specs.Courses.{Course, IsCourse, IsSound, Sleeps, is_going, turn_seen}
pub use Rattle.step_world.specs.Outcomes.{HasShortQueues, IsShort, channel_lines, finals_of, line_at, line_of_lock}
pub use Rattle.step_world.specs.Outcomes.{lines_of, lock_lines}
pub use Rattle.step_world.specs.Runs.{Follows, GivesBack, HasState, IsAdmission, IsAside, IsBehind, IsDoneWaking}
pub use Rattle.step_world.specs.Runs.{IsFree, IsGain, IsGivingUp, IsMade, IsNote, IsNowhere, IsRunOf, IsTake, IsTurn}
pub use Rattle.step_world.specs.Runs.{IsWake, KeepsWhereIdle, MayGiveBack, MayUnlock, StandsAt, Unlocks, action_of}
pub use Rattle.step_world.specs.Runs.{answer_of, back_in, next_of, unlocks}
pub use Rattle.step_world.specs.Sets.{IsBelow, Passes}
unfoldable pub use Rattle.step_world.specs.Sets.{members}
pub use Rattle.step_world.specs.Worlds.{Represents, World, first_marked, first_thread}
pub use Rattle.step_world.specs.declared.threads.ThreadSet.{ThreadSet}
pub use Rattle.step_world.specs.declared.turns.Made.{Made}
pub use Rattle.step_world.specs.declared.turns.Made.TheVariants.{Does, Ends, Skips}
