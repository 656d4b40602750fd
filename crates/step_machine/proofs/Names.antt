-- The names that the proofs of `step_machine` use of the crates below and of its own definitions, in one place. What
-- lies behind a name says the line that passes it on. Lemmas of this crate are taken from their own files.
pub use Rattle.std.proofs.Common.{Bool, Contains, IsSome, IsTrue, List, None, Option, Some, [], ap, arith, cond, drop}
pub use Rattle.std.proofs.Common.{false, get_or, inl, inr, is_some, length, length-append, length-drop, map, not}
pub use Rattle.std.proofs.Common.{option_map, position, refl, replicate, reverse, rules, slice_get, slice_index_or}
pub use Rattle.std.proofs.Common.{slice_set, subst, sym, take, tests, true, unwrap_or, ℕ}
pub use Rattle.std.proofs.lemmas.Bool.{cases_eq, cases_lt, eq-eqb, ne_eqb}
pub use Rattle.std.proofs.lemmas.Iterator.{YieldsList-from_slice}
pub use Rattle.std.proofs.lemmas.Iterator.Consumers.{count_from_yields_List}
pub use Rattle.std.proofs.lemmas.Iterator.Search.{YieldsList-from_take_while, any_from_yields_List}
pub use Rattle.std.proofs.lemmas.List.{append-nil, get_or-replicate, get_or-set_other, get_or-set_same}
pub use Rattle.std.proofs.lemmas.List.{get_or_append_left, get_or_push, get_or_read, length-replicate, length-reverse}
pub use Rattle.std.proofs.lemmas.List.{length-set, length_push, reverse-append, take_all}
pub use Rattle.std.proofs.lemmas.List.Edits.{remove-append_right}
pub use Rattle.std.proofs.lemmas.List.Elements.{All-get_or, All-head, All-nil, All-same, All-tail}
pub use Rattle.std.proofs.lemmas.Option.{same_Some, slice_get-get_or, slice_get-map, slice_get_cases, slice_get_past}
pub use Rattle.std.proofs.lemmas.Option.{slice_get_read, slice_get_within}
pub use Rattle.std.specs.Box.{with_value}
pub use Rattle.std.specs.FinMap.{empty}
pub use Rattle.std.specs.Global.{Vec}
pub use Rattle.std.specs.List.{All, list_any, remove}
pub use Rattle.std.specs.Prelude.{IfSome, IsSomeAnd}
pub use Rattle.std.specs.Vec.{vec_capacity, vec_len, with_item}
pub use Rattle.lock_model.proofs.HeldLocks.{held_there, none_held, none_taken}
pub use Rattle.lock_model.proofs.Orders.{same_admitted, same_back}
pub use Rattle.lock_model.specs.Config.{Config}
pub use Rattle.lock_model.specs.Events.{fell_asleep, new_base, of_sleep}
pub use Rattle.lock_model.specs.History.{edited}
unfoldable pub use Rattle.lock_model.specs.History.{tables_of}
pub use Rattle.lock_model.specs.Holds.{Hold, Holds, NotHeld, is_unheld}
pub use Rattle.lock_model.specs.Keys.{plan_names}
pub use Rattle.lock_model.specs.Operations.{IsProper, hold_in, holds_lock, is_endtry, next_at, operations_in_all}
pub use Rattle.lock_model.specs.Operations.{without_lock}
pub use Rattle.lock_model.specs.Orders.{HaveSameEdges, IsAdmitted, edges_behind}
pub use Rattle.lock_model.specs.Plans.{config_of, declared_base, lock_class}
pub use Rattle.lock_model.specs.Queues.{BySignal, Cause, Mark, chan_queue, dealt, is_turnstile_queue, least_of, list_of}
pub use Rattle.lock_model.specs.Queues.{lock_queue, names_turnstile, side_of, taken_off}
pub use Rattle.lock_model.specs.Takes.{has_reversal, is_reversal}
pub use Rattle.lock_model.specs.Words.{Free, HeldBy, Holder, IsPossible, SharedBy, Word, admits, claimed, dropped}
pub use Rattle.lock_model.specs.Words.{entered, free_word, gained, is_free, is_turnstile, opened, owner_of, sharers}
pub use Rattle.lock_model.specs.Words.{side_opened, side_woken, without_one, word_of}
pub use Rattle.lock_model.specs.declared.event.Entry.{Entry}
pub use Rattle.lock_model.specs.declared.event.Event.{Event}
pub use Rattle.lock_model.specs.declared.event.Event.TheVariants.{Base}
pub use Rattle.lock_model.specs.declared.event.Held.{Held}
pub use Rattle.lock_model.specs.declared.numbers.ChanNo.{ChanNo}
pub use Rattle.lock_model.specs.declared.numbers.ClassNo.{ClassNo}
pub use Rattle.lock_model.specs.declared.numbers.LockNo.{LockNo}
pub use Rattle.lock_model.specs.declared.numbers.Prio.{Prio}
pub use Rattle.lock_model.specs.declared.numbers.ThreadNo.{ThreadNo}
pub use Rattle.lock_model.specs.declared.plan.Kind.{Kind}
pub use Rattle.lock_model.specs.declared.plan.Kind.TheVariants.{Mtx, Rw, Sx}
pub use Rattle.lock_model.specs.declared.plan.LockDecl.{LockDecl}
pub use Rattle.lock_model.specs.declared.plan.Mode.{Mode}
pub use Rattle.lock_model.specs.declared.plan.Mode.TheVariants.{Excl, Shared}
pub use Rattle.lock_model.specs.declared.plan.Plan.{Plan}
pub use Rattle.lock_model.specs.declared.plan.QueueName.{QueueName}
pub use Rattle.lock_model.specs.declared.plan.QueueName.TheVariants.{Chan, Lock}
pub use Rattle.lock_model.specs.declared.plan.Side.{Side}
pub use Rattle.lock_model.specs.declared.plan.Side.TheVariants.{X}
pub use Rattle.lock_model.specs.declared.plan.ThreadDecl.{ThreadDecl}
pub use Rattle.lock_state.specs.Facts.{Lawful}
unfoldable pub use Rattle.lock_state.specs.Facts.{NextIsNew, WordsMatchHolders}
pub use Rattle.lock_state.specs.Facts.Words.{shares}
pub use Rattle.lock_state.specs.Run.{mode_held, start_run, waits_on, was_cut}
pub use Rattle.lock_state.specs.State.{Loan, NoWalk, Queued, Running, State, Woken as WokenFrom, put, put_at}
unfoldable pub use Rattle.lock_state.specs.State.{start_state}
pub use Rattle.lock_state.specs.Steps.{Enters, EntersSleepQueue, May, May as MayMake, Opens, OpensSleepQueue, Refuses}
pub use Rattle.lock_state.specs.Steps.Lending.{MayClaim, MayEndWalk, MayLend, MayShift, loan_of, walk_to}
unfoldable pub use Rattle.lock_state.specs.Steps.Lending.{after_claim, after_end_walk, after_lend, after_shift}
pub use Rattle.lock_state.specs.Steps.LockWords.{MayDrop, MayGain, MayReady, MayStamp, bits_of_threads, effective_of}
pub use Rattle.lock_state.specs.Steps.LockWords.{entry_of, is_taking_back}
unfoldable pub use Rattle.lock_state.specs.Steps.LockWords.{after_drop, after_gain, after_look, after_ready}
unfoldable pub use Rattle.lock_state.specs.Steps.LockWords.{after_stamp}
pub use Rattle.lock_state.specs.Steps.Orders.{MayAdmit, classes_held}
unfoldable pub use Rattle.lock_state.specs.Steps.Orders.{after_admit, after_refuse}
pub use Rattle.lock_state.specs.Steps.SleepQueues.{MayAdd, MayEnterSleep, MayOpenSleep, MayWake}
unfoldable pub use Rattle.lock_state.specs.Steps.SleepQueues.{after_add, after_enter_sleep, after_open_sleep}
unfoldable pub use Rattle.lock_state.specs.Steps.SleepQueues.{after_wake}
pub use Rattle.lock_state.specs.Steps.Turnstiles.{IsLastHolder, MayEnter, MayMark, MayOpen, MayResume, walk_up}
pub use Rattle.lock_state.specs.Steps.Turnstiles.{wanted_after}
unfoldable pub use Rattle.lock_state.specs.Steps.Turnstiles.{after_enter, after_mark, after_open, after_resume}
pub use Rattle.lock_laws.proofs.HeadsAndNodes.{owner_thread}
pub use Rattle.lock_laws.proofs.Kit.{put_at_other, put_other, put_same}
pub use Rattle.lock_laws.proofs.OwnWaits.{ready_lawful}
pub use Rattle.lock_laws.proofs.Standing.{asleep_out, marked_named, marked_thread, named_out, standing_thread}
pub use Rattle.lock_laws.proofs.Steps.{keeps}
pub use Rattle.lock_laws.proofs.Sums.{sum_below-most}
pub use Rattle.lock_laws.proofs.Taken.{few_bits}
pub use Rattle.lock_laws.proofs.Words.{has_sharer, owner_is}
pub use Rattle.lock_laws.proofs.WordsAndHeads.{possible_holder}
pub use Rattle.lock_words.specs.Views.{IsHeldIn}
pub use Rattle.witness_orders.proofs.Columns.{graph_behind}
pub use Rattle.witness_orders.specs.Graph.{Graph, RepresentsGraph, numbers_of}
pub use Rattle.turnstile_core.specs.Changes.{waits}
pub use Rattle.turnstile_core.specs.Seen.{Turnstile}
pub use Rattle.sleep_queues.specs.Seen.{Place, SleepQueue}
pub use Rattle.chain_table.specs.Chains.{head_of}
pub use Rattle.thread_records.specs.Loans.{loans_for}
pub use Rattle.thread_records.specs.Records.{Record, made, with_base, with_given_base}
pub use Rattle.prio_lending.specs.declared.walk.Walk.{Walk}
pub use Rattle.lock_objects.proofs.Enters.{can_lend, can_stand}
pub use Rattle.lock_objects.proofs.Held.{column_push, column_without, once_push, once_without}
pub use Rattle.lock_objects.proofs.Hops.{can_claim, can_hop, waits_there}
pub use Rattle.lock_objects.proofs.Opens.{can_open, can_release}
pub use Rattle.lock_objects.proofs.Records.{none_beyond, with_other_base}
pub use Rattle.lock_objects.proofs.StepsOfSleepers.{add_changes, balanced, can_sleep, enter_changes}
pub use Rattle.lock_objects.proofs.StepsOfSleepers.{enter_sleep_changes, open_changes, open_sleep_changes}
pub use Rattle.lock_objects.proofs.StepsOfSleepers.{shift_changes, sleeper_is, sleepers_stay, somebody_sleeps}
pub use Rattle.lock_objects.proofs.StepsOfSleepers.{taken_are, turnstiles_stay, wake_changes}
pub use Rattle.lock_objects.specs.Enters.{CanLend, CanStand}
pub use Rattle.lock_objects.specs.Held.{holds_of}
pub use Rattle.lock_objects.specs.Hops.{CanBeLent, CanHop}
pub use Rattle.lock_objects.specs.Marked.{AreOfKind, IsAway, IsFirst, cause_by, cause_in, like, node_of, places_of}
pub use Rattle.lock_objects.specs.Marked.{record_woken}
pub use Rattle.lock_objects.specs.Opens.{CanOpen}
pub use Rattle.lock_objects.specs.Represents.{RecordColumns, RepresentsQueues, RepresentsRecord, RepresentsSleepers}
pub use Rattle.lock_objects.specs.Represents.{columns_of, hold_of, mark_of, queue_in, record_in, sleepers_in, wait_of}
pub use Rattle.lock_objects.specs.Represents.{walk_of}
pub use Rattle.lock_objects.specs.Sleeps.{ChangesSleepers, IsBalanced, sleeper_of, slept, woken}
pub use Rattle.lock_objects.specs.declared.marked.Marked.{Marked}
pub use Rattle.lock_objects.specs.declared.marked.Marked.TheVariants.{AbortedSleepers, Sleepers, Waiters}
pub use Rattle.lock_objects.specs.declared.marked.Woken.{Woken}
pub use Rattle.lock_objects.specs.declared.marked.Woken.TheVariants.{AbortedSleeper, Sleeper, Waiter}
pub use Rattle.lock_objects.specs.declared.wait.Wait.{Wait}
pub use Rattle.step_machine.specs.Noted.{IsNoted}
pub use Rattle.step_machine.specs.Represents.{Represents, RepresentsThread, RepresentsThreads, RepresentsWords}
pub use Rattle.step_machine.specs.Represents.{thread_in, thread_of}
pub use Rattle.step_machine.specs.Runs.{IsAsFar, RepresentsRun}
pub use Rattle.step_machine.specs.Steps.{AreClasses, HoldsFew, KeepsProgress, Progress, enters, mode_left, opens}
pub use Rattle.step_machine.specs.Steps.{progress, progress_of, with_released}
pub use Rattle.step_machine.specs.Threads.{AreNew, IsNew, is_back}
pub use Rattle.step_machine.specs.declared.machine.Machine.{Machine}
pub use Rattle.step_machine.specs.declared.thread.Thread.{Thread}
