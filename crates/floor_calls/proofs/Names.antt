-- The names that the proofs of `floor_calls` use of the crates below and of its own definitions, in one place. What
-- lies behind a name says the line that passes it on. Lemmas of this crate are taken from their own files.
pub use Rattle.std.proofs.Common.{Bool, Err, List, None, Ok, Option, Result, Some, [], ap, append_assoc, arith, cond}
pub use Rattle.std.proofs.Common.{drop, eqb, false, get_or, length, length-append, map, not, refl, slice_get, subst}
pub use Rattle.std.proofs.Common.{suc, sum, sym, take, true, zero, ℕ}
pub use Rattle.std.proofs.lemmas.Bool.{eq-eqb, eqb-true}
pub use Rattle.std.proofs.lemmas.List.{drop_all, drop_more, get_or-map, get_or_default, length-map, take-map}
pub use Rattle.std.proofs.lemmas.List.Elements.{All-tail}
pub use Rattle.std.proofs.lemmas.List.Sums.{sum_by_more_le}
pub use Rattle.std.proofs.lemmas.Map.Keys.{sorted_from_all_adjacent}
pub use Rattle.std.specs.Arc.{arc_value}
pub use Rattle.std.specs.List.{All, Any}
pub use Rattle.std.specs.List.Sorted.{IsStrictlySortedBy}
pub use Rattle.std.specs.Prelude.{slice_index_or}
pub use Rattle.std.specs.Vec.Iter.{into_iter_items, into_iter_len}
pub use Rattle.std.specs.declared.cmp.Ordering.{Ordering}
pub use Rattle.std.specs.declared.cmp.Ordering.TheVariants.{Equal, Greater, Less}
pub use Rattle.lock_model.specs.History.{left_in, place_cmp}
pub use Rattle.lock_model.specs.Holds.{Hold, Holds, NotHeld}
pub use Rattle.lock_model.specs.Limits.{most_classes, most_held}
pub use Rattle.lock_model.specs.Operations.{hold_in, without_lock}
pub use Rattle.lock_model.specs.Words.{is_drop, is_turnstile, word_of}
pub use Rattle.lock_model.specs.declared.event.Event.{Event}
pub use Rattle.lock_model.specs.declared.event.Held.{Held, Held as HeldLock}
pub use Rattle.lock_model.specs.declared.numbers.ChanNo.{ChanNo}
pub use Rattle.lock_model.specs.declared.numbers.LockNo.{LockNo}
pub use Rattle.lock_model.specs.declared.plan.Kind.{Kind}
pub use Rattle.lock_model.specs.declared.plan.Kind.TheVariants.{Mtx}
pub use Rattle.lock_model.specs.declared.plan.Mode.{Mode}
pub use Rattle.lock_model.specs.declared.plan.Mode.TheVariants.{Excl}
pub use Rattle.lock_state.specs.Steps.{TakesItem}
pub use Rattle.lock_state.specs.Steps.Items.{Item, RecordOf}
pub use Rattle.lock_state.specs.Steps.LockWords.{is_taking_back}
pub use Rattle.lock_history.proofs.Places.{place_total}
pub use Rattle.floor_table.specs.Descriptions.{IsSized, config_in, room_in_all}
pub use Rattle.floor_table.specs.Shares.{is_among}
pub use Rattle.floor_table.specs.Views.{Knowledge, seeing}
pub use Rattle.floor_table.specs.declared.description.Description.{Description}
pub use Rattle.floor_table.specs.declared.description.LockPart.{LockPart}
pub use Rattle.floor_table.specs.declared.description.ThreadPart.{ThreadPart}
pub use Rattle.lock_floor.proofs.Resting.{rest_seeing}
pub use Rattle.lock_floor.proofs.Shares.{among_stays}
pub use Rattle.lock_floor.specs.Floors.{Floor, Pass}
pub use Rattle.lock_floor.specs.Marks.{with_marks}
pub use Rattle.lock_floor.specs.Passes.{IsAtRest, IsOf, IsReady, MakesEntry, first_pass}
pub use Rattle.lock_floor.specs.Relocks.{MayRelease, MayRetake}
pub use Rattle.lock_floor.specs.Resumes.{cause_of}
pub use Rattle.lock_floor.specs.declared.calls.ReleaseAt.{ReleaseAt}
pub use Rattle.lock_floor.specs.declared.calls.ReleaseAt.TheVariants.{ComesTo, Wakes}
pub use Rattle.lock_floor.specs.declared.calls.TakeAt.{TakeAt}
pub use Rattle.lock_floor.specs.declared.calls.TakeAt.TheVariants.{Checks, Spins}
pub use Rattle.lock_floor.specs.declared.calls.TryAt.TheVariants.{Tries as TriesAt}
pub use Rattle.lock_floor.specs.declared.latches.Out.{Out as WasOut}
pub use Rattle.halting.specs.Ends.{GoesOnEnding, kept_to}
pub use Rattle.halting.specs.Halts.{Kept as HaltKept, kept_of as halt_kept_of}
pub use Rattle.halting.specs.declared.ending.EndAt.{EndAt}
pub use Rattle.halting.specs.declared.ending.EndNext.{EndNext}
pub use Rattle.cond_vars.proofs.HeldLocks.{its_lock, last_held, last_lock}
pub use Rattle.cond_vars.proofs.Places.{has_released, is_back, may_park}
pub use Rattle.cond_vars.proofs.Woken.{rests_done}
pub use Rattle.cond_vars.specs.Parts.{IsThen, IsToTakeBack, IsWaiting, WaitPart, halts_on, halts_one, has_halted}
pub use Rattle.cond_vars.specs.Parts.{is_last, is_queued, leaves_some, lies_down, misses_chain, misses_record}
pub use Rattle.cond_vars.specs.Parts.{runs_again, takes_chain, was_halted, woke}
pub use Rattle.cond_vars.specs.Waits.{MayWait, lock_of}
pub use Rattle.cond_vars.specs.Wakes.{GoesOnWaking, MayWakeUp}
pub use Rattle.cond_vars.specs.declared.parts.WaitAt.{WaitAt}
pub use Rattle.cond_vars.specs.declared.parts.WaitNext.{WaitNext}
pub use Rattle.cond_vars.specs.declared.waking.WakeNext.{WakeNext}
pub use Rattle.lock_calls.proofs.First.{ready_first}
pub use Rattle.lock_calls.proofs.GivenUp.{may_give_up}
pub use Rattle.lock_calls.proofs.Taken.{under_take_on}
pub use Rattle.lock_calls.proofs.TakenBack.{under_first}
pub use Rattle.lock_calls.specs.Choices.{outside}
pub use Rattle.lock_calls.specs.Releases.{BeginsGivingUp, HasBegunRelease, HasWokenOne, IsInRelease, IsReleased}
pub use Rattle.lock_calls.specs.Releases.{ReleasesOn, ReleasesPart, held_once, once_released}
pub use Rattle.lock_calls.specs.Steps.{as_taken}
pub use Rattle.lock_calls.specs.Takes.{HasBegunTake, IsInTake, IsTaking, TakeEnd, TakesOn, TakesPart, at_check}
pub use Rattle.lock_calls.specs.Takes.{in_round, in_section, kept_at}
pub use Rattle.lock_calls.specs.Tries.{HasBegunTry, IsInTry, as_tried}
pub use Rattle.lock_calls.specs.Waiting.{CanAcquire, HasGained, IsCalling, Kept, MayPutDown, kept_of}
pub use Rattle.lock_calls.specs.declared.answers.Next.{Next as PartNext}
pub use Rattle.lock_calls.specs.declared.answers.ReleaseNext.{ReleaseNext}
pub use Rattle.lock_calls.specs.declared.answers.TakeNext.{TakeNext}
pub use Rattle.lock_calls.specs.declared.trying.TryNext.{TryNext}
pub use Rattle.floor_calls.specs.Calls.{Answers, Does, EntersAbout, GoesOn, HasBegunWake, HasMade, Makes, MayMake}
pub use Rattle.floor_calls.specs.Calls.{ReleaseWent, TakeWent, TryWent}
pub use Rattle.floor_calls.specs.Causes.{MayCall, Says, causes, held_by}
pub use Rattle.floor_calls.specs.First.{IsFirst, here, later, none}
pub use Rattle.floor_calls.specs.Fitting.{IsUnsorted, Spoils, all_unfit}
pub use Rattle.floor_calls.specs.Openings.{first_thread, thread_at_rest}
pub use Rattle.floor_calls.specs.Room.{HasRoomFor, HasRoomOnceReleased, KeepsRoom, needed_in_wait}
pub use Rattle.floor_calls.specs.Stages.{IsInCall, stage_behind, stage_of_begun, stage_of_end, stage_of_giving_up}
pub use Rattle.floor_calls.specs.Stages.{stage_of_taking_back, stage_of_wait, stage_of_wake, told, told_of_try}
pub use Rattle.floor_calls.specs.Threads.{IsAt, Stands, Thread, thread_at}
pub use Rattle.floor_calls.specs.Waits.{HasLeftIts, HoldsIts, IsGivingUp, IsTakingBack, IsToGiveUp, KnowsIts}
pub use Rattle.floor_calls.specs.declared.requests.Cause.{Cause}
pub use Rattle.floor_calls.specs.declared.requests.Cause.TheVariants.{HoldsMost, HoldsUnsleepable, InCall}
pub use Rattle.floor_calls.specs.declared.requests.Request.{Request}
pub use Rattle.floor_calls.specs.declared.requests.Request.TheVariants.{Edit, End, GoOn, Read, Release, SetBase, Show}
pub use Rattle.floor_calls.specs.declared.requests.Request.TheVariants.{Take, Try, Wait, WakeUp}
pub use Rattle.floor_calls.specs.declared.shared.Shared.{Shared}
pub use Rattle.floor_calls.specs.declared.stages.Next.{Next}
pub use Rattle.floor_calls.specs.declared.stages.Stage.{Stage}
pub use Rattle.floor_calls.specs.declared.stages.Stage.TheVariants.{AtRest, ComesToGiveUp, ComesToWake, Ended, Ends}
pub use Rattle.floor_calls.specs.declared.stages.Stage.TheVariants.{GivesUp, Releases, Takes, TakesBack, Tries, Waits}
pub use Rattle.floor_calls.specs.declared.unfit.Unfit.{Unfit}
pub use Rattle.floor_calls.specs.declared.unfit.Unfit.TheVariants.{ManyThreads}
pub use Rattle.floor_calls.specs.declared.waits.WaitOn.{WaitOn}
