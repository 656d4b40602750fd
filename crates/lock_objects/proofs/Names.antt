-- The names that the proofs of `lock_objects` use of the crates below and of its own definitions, in one place. What
-- lies behind a name says the line that passes it on. Lemmas of this crate are taken from their own files.
pub use Rattle.std.proofs.Common.{Bool, Bor, IfSome, IsSome, List, None, Option, Some, [], ap, arith, cond, drop}
pub use Rattle.std.proofs.Common.{eq-eqb, eqb, false, inl, inr, length, length-append, ltb, map, option_map, refl}
pub use Rattle.std.proofs.Common.{rules, subst, suc, sym, true, ℕ}
pub use Rattle.std.proofs.Crossing.{crosses}
pub use Rattle.std.proofs.Math.Pow.{pow_mono}
pub use Rattle.std.proofs.Math.Seq.{take-length}
pub use Rattle.std.proofs.lemmas.Bool.{cases_eq, cases_lt, false_from_ne_true, lt-ltb, ne_eqb}
pub use Rattle.std.proofs.lemmas.List.{drop_all}
pub use Rattle.std.proofs.lemmas.List.Elements.{All-cons, All-nil}
pub use Rattle.std.proofs.lemmas.Option.{same_Some}
pub use Rattle.std.specs.List.{All}
pub use Rattle.std.specs.Option.{is_some}
pub use Rattle.std.specs.Prelude.{IsSomeAnd, not}
pub use Rattle.lock_model.proofs.Lists.{length-entry, length-taken}
pub use Rattle.lock_model.specs.Config.{Config}
pub use Rattle.lock_model.specs.Counts.{is_empty, least, least_with, one, some}
pub use Rattle.lock_model.specs.Holds.{Hold, Holds, NotHeld}
pub use Rattle.lock_model.specs.Operations.{hold_in, without_lock}
pub use Rattle.lock_model.specs.Queues.{ByAbort, BySignal, Lists, Waiter, chan_queue, dealt, entry_of, free_after}
pub use Rattle.lock_model.specs.Queues.{free_with, handed_out, head_after, head_with, insert, is_queue}
pub use Rattle.lock_model.specs.Queues.{is_turnstile_queue, least_of, left_on, list_of, lock_queue, names_turnstile}
pub use Rattle.lock_model.specs.Queues.{one_or_none, side_of, stands, taken_off, times_waiting, waiting, with_kept}
pub use Rattle.lock_model.specs.Queues.{with_list, without as without_waiter}
pub use Rattle.lock_model.specs.Words.{Holder, is_free, is_turnstile, owner_of, side_woken}
pub use Rattle.lock_model.specs.declared.event.Held.{Held}
pub use Rattle.lock_model.specs.declared.plan.Mode.{Mode}
pub use Rattle.lock_model.specs.declared.plan.QueueName.{QueueName}
pub use Rattle.lock_model.specs.declared.plan.QueueName.TheVariants.{Chan, Lock}
pub use Rattle.lock_model.specs.declared.plan.Side.{Side}
pub use Rattle.lock_model.specs.declared.plan.Side.TheVariants.{S, X}
pub use Rattle.lock_state.specs.Facts.{Lawful}
unfoldable pub use Rattle.lock_state.specs.Facts.{BitsShowWaiters, HeadsFitWaiters, MutexWaitersAreExclusive}
unfoldable pub use Rattle.lock_state.specs.Facts.{OwnersHold}
pub use Rattle.lock_state.specs.Facts.Loans.{owner_if}
pub use Rattle.lock_state.specs.State.{Loan, State, put, put_at}
unfoldable pub use Rattle.lock_state.specs.State.{put_queue}
pub use Rattle.lock_state.specs.Steps.Lending.{MayClaim, MayLend, MayShift}
unfoldable pub use Rattle.lock_state.specs.Steps.Lending.{after_claim, after_lend, after_shift}
pub use Rattle.lock_state.specs.Steps.LockWords.{bits_of_threads, effective_of, prio_of}
pub use Rattle.lock_state.specs.Steps.SleepQueues.{by_abort, sleeper}
unfoldable pub use Rattle.lock_state.specs.Steps.SleepQueues.{after_abort, after_add, after_enter_sleep}
unfoldable pub use Rattle.lock_state.specs.Steps.SleepQueues.{after_open_sleep, after_wake}
pub use Rattle.lock_state.specs.Steps.Turnstiles.{MayOpen, home_after, owner_with, walk_up}
unfoldable pub use Rattle.lock_state.specs.Steps.Turnstiles.{after_enter, after_open}
pub use Rattle.lock_laws.proofs.Best.{least-above, least-le}
pub use Rattle.lock_laws.proofs.Dealt.{threads-dealt}
pub use Rattle.lock_laws.proofs.HeadsAndNodes.{loan_lock, node_home, owned_home, owner_holds, unowned_home}
pub use Rattle.lock_laws.proofs.HeadsOfWaiters.{standing_head}
pub use Rattle.lock_laws.proofs.HeldLists.{Apart, hold_in-push, hold_in-without}
pub use Rattle.lock_laws.proofs.Kit.{at_put_queue, is_queue_true, put_at_beside, put_at_same, put_lock_other}
pub use Rattle.lock_laws.proofs.Kit.{put_lock_same, put_other, put_queue_other, put_queue_same, put_same}
pub use Rattle.lock_laws.proofs.Lending.{least-le_base}
pub use Rattle.lock_laws.proofs.Nodes.{some_waiting}
pub use Rattle.lock_laws.proofs.NodesOfHeads.{node_carries, number_of, other_head, out_of, put_at_row}
pub use Rattle.lock_laws.proofs.Open.{side_shown}
pub use Rattle.lock_laws.proofs.Standing.{asleep_out, home_nowhere, standing_named}
pub use Rattle.lock_laws.proofs.Sums.{zero_unless}
pub use Rattle.lock_laws.proofs.Taken.{objects_enough}
pub use Rattle.lock_laws.proofs.Words.{owner_is}
pub use Rattle.lock_laws.proofs.WordsAndHeads.{headless_bare, home_elsewhere, lent_out}
pub use Rattle.wait_objects.proofs.Best.{without_absent}
pub use Rattle.wait_objects.proofs.Entries.{entries_on}
pub use Rattle.wait_objects.proofs.Taken.{some_places}
pub use Rattle.wait_objects.specs.Changes.{IsLeft, all_waiters, lists_of, with_lists}
pub use Rattle.wait_objects.specs.Seen.{Node, Object}
pub use Rattle.wait_objects.specs.declared.own.Own.{Ghosts}
pub use Rattle.turnstile_core.specs.Changes.{begun, best, joined, left_by, moved, name_of, taken, waiters, waits}
pub use Rattle.turnstile_core.specs.Changes.{with_loan_home, with_owner, with_waiters}
pub use Rattle.turnstile_core.specs.Lists.{place, with_last}
pub use Rattle.turnstile_core.specs.Seen.{Contents, Terms, Turnstile, home, idle_contents}
pub use Rattle.sleep_queues.specs.Changes.{entries_of, without_thread}
pub use Rattle.sleep_queues.specs.Seen.{Place, SleepQueue}
pub use Rattle.chain_table.proofs.Names.{Decides-is_queue}
pub use Rattle.chain_table.specs.Chains.{head_of, without}
pub use Rattle.chain_table.specs.Links.{map_is_empty}
pub use Rattle.chain_table.specs.Objects.{bare}
pub use Rattle.thread_records.proofs.ByLock.{has_is_some, loan_dropped, others_dropped}
pub use Rattle.thread_records.proofs.OneEach.{one_each_without}
pub use Rattle.thread_records.specs.Loans.{has_loan, loan_for, loans_for, prios, without_loan}
pub use Rattle.thread_records.specs.Records.{IsWellFormed, Record, with_base, with_loans}
pub use Rattle.prio_lending.proofs.Carried.{lent_for, lent_one_each, lent_others}
pub use Rattle.prio_lending.specs.Hops.{carrier_for, loan_by, node_out, with_contents}
pub use Rattle.prio_lending.specs.declared.walk.Walk.{Walk}
pub use Rattle.lock_objects.specs.Aborts.{IsSleeper, aborted, aborted_from, chain_aborted}
pub use Rattle.lock_objects.specs.Enters.{CanLend, CanStand, chain_entered, head_entered, record_entered, waiter_of}
pub use Rattle.lock_objects.specs.Held.{holds_of}
pub use Rattle.lock_objects.specs.Hops.{CanBeLent, CanHop, chain_claimed, head_claimed, record_claimed}
pub use Rattle.lock_objects.specs.Opens.{CanOpen, CanRelease, chain_opened, record_opened, settled, woken_of}
pub use Rattle.lock_objects.specs.Represents.{QueueColumns, RecordColumns, RepresentsHead, RepresentsQueue}
pub use Rattle.lock_objects.specs.Represents.{RepresentsQueues, RepresentsRecord, RepresentsSleepQueue}
pub use Rattle.lock_objects.specs.Represents.{RepresentsSleepers, SleepColumns, loan_of, mark_by, mark_of, queue_in}
pub use Rattle.lock_objects.specs.Represents.{queue_of, record_in, sleepers_in, sleepers_of, walk_of}
pub use Rattle.lock_objects.specs.Sleeps.{ChangesSleepers, IsBalanced, chain_asleep, chain_woken, head_asleep}
pub use Rattle.lock_objects.specs.Sleeps.{sleeper_of, slept, woken, woken as woken_columns}
