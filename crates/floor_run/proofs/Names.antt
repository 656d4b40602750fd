-- The names that the proofs of `floor_run` use of the crates below and of its own definitions, in one place. What
-- lies behind a name says the line that passes it on. Lemmas of this crate are taken from their own files.
pub use Rattle.std.proofs.Common.{All, Bool, List, None, Option, Some, [], ap, append_assoc, arith, cond, drop, eq-eqb}
pub use Rattle.std.proofs.Common.{eqb, false, get_or, inl, inr, length, length-append, map, option_map, refl, reverse}
pub use Rattle.std.proofs.Common.{slice_get, subst, suc, sum, sym, take, true, zero, ℕ}
pub use Rattle.std.proofs.Crossing.{crosses}
pub use Rattle.std.proofs.lemmas.Bool.{and_parts, cases_lt, eqb-true, ltb-true, ne_eqb, not-true}
pub use Rattle.std.proofs.lemmas.List.{append-nil, drop_all, get_or-map, length-map, map-id, reverse-append}
pub use Rattle.std.proofs.lemmas.List.{reverse-reverse, take_all}
pub use Rattle.std.proofs.lemmas.List.Elements.{All-tail}
pub use Rattle.std.proofs.lemmas.List.FromFn.{get_or-map-range_with_len, length-map-range_with_len}
pub use Rattle.std.proofs.lemmas.List.Sorted.{IsPermutation-reverse, list_any-IsPermutation}
pub use Rattle.std.proofs.lemmas.List.Sums.{sum_by-cons}
pub use Rattle.std.proofs.lemmas.Map.Keys.{any_passes_from_place}
pub use Rattle.std.proofs.lemmas.Option.{none-some, same_Some, slice_get-get_or, slice_get-map, slice_get_within}
pub use Rattle.std.proofs.lemmas.Result.{IfErr-weaker, IfOk-weaker}
pub use Rattle.std.specs.FinMap.{entries}
pub use Rattle.std.specs.List.{Contains, list_all, list_any, range_with_len}
pub use Rattle.std.specs.Prelude.{Err, IfOk, IsTrue, Ok, Result, unwrap_or}
pub use Rattle.std.specs.Vec.Iter.{into_iter_items, into_iter_len}
pub use Rattle.std.specs.declared.alloc.AllocError.{AllocError}
pub use Rattle.lock_model.proofs.LeastCodes.{passed}
pub use Rattle.lock_model.specs.BusyWords.{BusyIsExplained}
unfoldable pub use Rattle.lock_model.specs.BusyWords.{BusyWordsHaveHolders, has_section}
pub use Rattle.lock_model.specs.Config.{Config}
pub use Rattle.lock_model.specs.Counts.{one, times}
unfoldable pub use Rattle.lock_model.specs.Counts.{any_below, has_bit}
pub use Rattle.lock_model.specs.Halts.{HaltsAreHonest, is_honest_to}
unfoldable pub use Rattle.lock_model.specs.Halts.{HaltsComeSince, entries_below, entries_since}
pub use Rattle.lock_model.specs.History.{base_in, entries_of}
unfoldable pub use Rattle.lock_model.specs.History.{sections_in}
pub use Rattle.lock_model.specs.Holds.{Hold, Holds, NotHeld, is_exclusive}
pub use Rattle.lock_model.specs.Keys.{op_names, plan_names}
pub use Rattle.lock_model.specs.Law.{Asleep, Before, Cut, FollowsOperations, Gives, LeadsTo, is_halt}
unfoldable pub use Rattle.lock_model.specs.Law.{EntriesFollowOperations, WakingsNameSleepers, is_asleep, is_named}
pub use Rattle.lock_model.specs.Legal.{IsLegal, IsLegalSoFar}
pub use Rattle.lock_model.specs.Limits.{most_held}
pub use Rattle.lock_model.specs.Operations.{IsProper, acquiring_tests, edit_tests, held_after, held_behind, held_of}
pub use Rattle.lock_model.specs.Operations.{hold_in, is_kind, is_last, is_of_kind, of_locks, operation_tests}
pub use Rattle.lock_model.specs.Operations.{wait_tests, without_lock}
pub use Rattle.lock_model.specs.OrderedPlans.{IsOrdered}
unfoldable pub use Rattle.lock_model.specs.Orders.{forbids}
pub use Rattle.lock_model.specs.Plans.{chan_lock, config_of, lock_kind, operations_of}
pub use Rattle.lock_model.specs.Queues.{ByAbort, BySignal, Cause}
pub use Rattle.lock_model.specs.Takes.{OrdersAreLegal, has_reversal, is_reversal}
unfoldable pub use Rattle.lock_model.specs.Takes.{ReversalsHaveCause, classes_open, take_edges}
pub use Rattle.lock_model.specs.Tests.{Passes, where_some}
pub use Rattle.lock_model.specs.Text.{IsDone, Outcome}
pub use Rattle.lock_model.specs.Words.{admits, is_turnstile, word_of}
pub use Rattle.lock_model.specs.declared.event.Entry.{Entry}
pub use Rattle.lock_model.specs.declared.event.Event.{Event}
pub use Rattle.lock_model.specs.declared.event.Event.TheVariants.{Busy, HaltedChan, HaltedLock, Locked, Reversed}
pub use Rattle.lock_model.specs.declared.event.Event.TheVariants.{Sleeps, Unlocked, Woke, WokeOne}
pub use Rattle.lock_model.specs.declared.event.Held.{Held}
pub use Rattle.lock_model.specs.declared.event.Refused.{Refused}
pub use Rattle.lock_model.specs.declared.numbers.ChanNo.{ChanNo}
pub use Rattle.lock_model.specs.declared.numbers.LockNo.{LockNo}
pub use Rattle.lock_model.specs.declared.numbers.Prio.{Prio}
pub use Rattle.lock_model.specs.declared.numbers.ThreadNo.{ThreadNo}
pub use Rattle.lock_model.specs.declared.plan.ChanDecl.{ChanDecl}
pub use Rattle.lock_model.specs.declared.plan.Kind.{Kind}
pub use Rattle.lock_model.specs.declared.plan.Kind.TheVariants.{Mtx, Rw, Sx}
pub use Rattle.lock_model.specs.declared.plan.LockDecl.{LockDecl}
pub use Rattle.lock_model.specs.declared.plan.Mode.{Mode}
pub use Rattle.lock_model.specs.declared.plan.Mode.TheVariants.{Excl}
pub use Rattle.lock_model.specs.declared.plan.OfLocks.{OfLocks}
pub use Rattle.lock_model.specs.declared.plan.OfLocks.TheVariants.{Acquires, ClosesBlock, EditsAt, NoLock, ReadsAt}
pub use Rattle.lock_model.specs.declared.plan.OfLocks.TheVariants.{Releases, SleepsOn, WakesOn}
pub use Rattle.lock_model.specs.declared.plan.Op.{Op}
pub use Rattle.lock_model.specs.declared.plan.Op.TheVariants.{Add, Base, EndTry, Get, Release, Set, Show, Sleep, Take}
pub use Rattle.lock_model.specs.declared.plan.Op.TheVariants.{Try, WakeAll, WakeOne}
pub use Rattle.lock_model.specs.declared.plan.Plan.{Plan}
pub use Rattle.lock_model.specs.declared.plan.ThreadDecl.{ThreadDecl}
unfoldable pub use Rattle.lock_state.specs.Facts.Halts.{NobodyIsHalted}
pub use Rattle.lock_state.specs.Run.{threads_of, whole_ending}
pub use Rattle.lock_state.specs.State.{HeldLock, gained_order}
pub use Rattle.lock_state.specs.Steps.{Stamps}
pub use Rattle.lock_state.specs.Steps.LockWords.{bits_of_threads, without_held}
pub use Rattle.lock_laws.proofs.HeldLists.{gain_passes, gained_order-push, held_are_locks, held_few, held_is, held_none}
pub use Rattle.lock_laws.proofs.HeldLists.{next_leads, release_fits, try_passes, wait_fits, wake_fits}
pub use Rattle.ordered_plan_laws.proofs.Unhalted.{no_operations, unhalted}
pub use Rattle.ordered_plan_laws.proofs.Unrefused.{unrefused}
pub use Rattle.run_laws.proofs.Histories.{entry, lock}
pub use Rattle.run_laws.proofs.LastHeld.{GivesLast, gives_last}
pub use Rattle.lock_history.specs.Outcomes.{outcome_seen}
pub use Rattle.floor_table.proofs.Crossing.{slot_send}
pub use Rattle.floor_table.proofs.Descriptions.{its_room, same_config}
pub use Rattle.floor_table.proofs.PlanKeys.{found_key, keys_are_named}
pub use Rattle.floor_table.specs.Descriptions.{IsFor, config_in, description_of, keys_in, room_for, thread_part}
pub use Rattle.floor_table.specs.Shares.{Share}
pub use Rattle.floor_table.specs.Steps.{Makes}
pub use Rattle.floor_table.specs.Views.{Knowledge}
pub use Rattle.floor_table.specs.declared.description.Description.{Description}
pub use Rattle.lock_floor.proofs.Crossing.{pass_send}
pub use Rattle.lock_floor.specs.Closings.{IsClosing}
pub use Rattle.lock_floor.specs.Floors.{Floor, Pass}
pub use Rattle.lock_floor.specs.Passes.{IsFinished, IsKeeperOf, IsReady, MakesEntry, first_pass}
pub use Rattle.lock_floor.specs.Views.{entry_by}
pub use Rattle.lock_floor.specs.declared.closing.Closing.{Closing}
pub use Rattle.halting.specs.Ends.{EndsItself}
pub use Rattle.halting.specs.Halts.{Kept}
pub use Rattle.cond_vars.specs.Waits.{MayWait, Waits, ended_by, lock_of}
pub use Rattle.cond_vars.specs.Wakes.{Broadcasts, MayWakeUp, Signals, threads_woken}
pub use Rattle.lock_calls.proofs.First.{ready_first}
pub use Rattle.lock_calls.specs.Steps.{IsCovered, MayRelease, MayTake, as_taken}
pub use Rattle.lock_calls.specs.Takes.{WasNotTaken}
pub use Rattle.lock_calls.specs.Tries.{WasBusyFor, as_tried}
pub use Rattle.floor_ends.proofs.Mergeable.{few_entries, tickets_once}
pub use Rattle.floor_ends.proofs.Merging.{logs_merged}
pub use Rattle.floor_ends.specs.Outcomes.{IsMerged, bases_of, ending_left, outcome_left}
pub use Rattle.floor_run.specs.Progress.{IsBefore, IsCut}
pub use Rattle.floor_run.specs.Runs.{IsOutcome, IsRunOf, ending_of_run, has_halt, outcome_of}
pub use Rattle.floor_run.specs.Sleeps.{HasSlept, HasWokenAll, HasWokenOne}
pub use Rattle.floor_run.specs.Workers.{IsWhole, WasStamped, WereStamped}
