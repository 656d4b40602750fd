-- The names that the proofs of `order_laws` use of the crates below and of its own definitions, in one place. What
-- lies behind a name says the line that passes it on. Lemmas of this crate are taken from their own files.
pub use Rattle.std.proofs.Common.{Bool, List, None, Option, Some, [], ap, arith, cond, eq-eqb, eqb, false, inl, inr}
pub use Rattle.std.proofs.Common.{not, refl, subst, suc, sym, true, zero, ℕ}
pub use Rattle.std.proofs.Props.{props}
pub use Rattle.std.proofs.lemmas.Bool.{and_from, and_parts, cases_eq, eqb-true, ne_eqb, or_cases, or_left, or_right}
pub use Rattle.std.proofs.lemmas.List.{reverse-append, reverse-reverse}
pub use Rattle.std.proofs.lemmas.Option.{same_Some}
pub use Rattle.std.specs.Prelude.{map, reverse}
pub use Rattle.lock_model.proofs.Orders.{Grows, IsAmong, first_forbids, forbids_none, forbids_says, new_or_old}
pub use Rattle.lock_model.proofs.Orders.{new_stands, old_stays, paths_grow, says_forbids, stays_without_cycle}
pub use Rattle.lock_model.specs.Config.{Config}
unfoldable pub use Rattle.lock_model.specs.Counts.{any_below}
pub use Rattle.lock_model.specs.History.{open_in}
unfoldable pub use Rattle.lock_model.specs.History.{sections_in}
pub use Rattle.lock_model.specs.Holds.{Hold, Holds, NotHeld, is_unheld}
pub use Rattle.lock_model.specs.Orders.{IsEdge, IsFirstToForbid, Reaches, edge, edges_behind, forbids, is_edge, then}
unfoldable pub use Rattle.lock_model.specs.Orders.{HasNoCycle}
pub use Rattle.lock_model.specs.Queues.{ByAbort, BySignal, Cause, Mark, chan_queue, lock_queue}
pub use Rattle.lock_model.specs.Takes.{OrdersAreLegal, ReversalHasCause, edges_by, has_open, taken_by}
unfoldable pub use Rattle.lock_model.specs.Takes.{classes_open, take_edges}
pub use Rattle.lock_model.specs.declared.event.Entry.{Entry}
pub use Rattle.lock_model.specs.declared.event.Event.{Event}
pub use Rattle.lock_model.specs.declared.event.Event.TheVariants.{HaltedChan, HaltedLock, Locked, Reversed, Unlocked}
pub use Rattle.lock_model.specs.declared.event.Event.TheVariants.{Woke}
pub use Rattle.lock_model.specs.declared.numbers.ChanNo.{ChanNo}
pub use Rattle.lock_model.specs.declared.plan.Mode.{Mode}
pub use Rattle.lock_model.specs.declared.plan.Mode.TheVariants.{Excl}
pub use Rattle.lock_model.specs.declared.plan.QueueName.{QueueName}
pub use Rattle.lock_model.specs.declared.plan.QueueName.TheVariants.{Chan, Lock}
pub use Rattle.lock_state.specs.Best.{HasCycle, NobodyWalks, WaitsAlong, best_behind}
pub use Rattle.lock_state.specs.Facts.{Lawful, Ordered, Taken, WantsFitTakes}
unfoldable pub use Rattle.lock_state.specs.Facts.{AbortedWant, EdgesAreOfTakes, HaltedWantNothing, HaltsAreOrdered}
unfoldable pub use Rattle.lock_state.specs.Facts.{HeldAreListed, HoldsAreOrdered, OnlyLocksAreHeld, RefusalsHaveCause}
unfoldable pub use Rattle.lock_state.specs.Facts.{ReversalsHaveCause, SectionsAreHeld, SleepersAreOrdered}
unfoldable pub use Rattle.lock_state.specs.Facts.{StandingWants, TakersAreOpen, TakesAreInGraph, WantedIsTaken}
unfoldable pub use Rattle.lock_state.specs.Facts.{WantsAreOrdered, WokenAreOrdered}
pub use Rattle.lock_state.specs.Facts.Orders.{AreOrdered, EachLeads, LeadTo, OthersLeadTo, TakeIsInGraph}
pub use Rattle.lock_state.specs.Facts.Takes.{gives_edge, in_progress}
pub use Rattle.lock_state.specs.Facts.Words.{is_listed}
pub use Rattle.lock_state.specs.State.{HeldLock, Note, OrderRefused, Queued, Running, SleepHalted, State, Wait, Woken}
unfoldable pub use Rattle.lock_state.specs.State.{put, put_at, start_state}
pub use Rattle.lock_state.specs.Steps.{Adds, Admits, Claims, Drops, EndsItsTake, EndsTake, Enters, EntersSleepQueue}
pub use Rattle.lock_state.specs.Steps.{FitsFloor, Gains, GainsInOrder, IsBackFrom, IsTakenInOrder, KeepToOrder}
pub use Rattle.lock_state.specs.Steps.{KeepsToOrder, Looks, Marks, May, MayAll, Opens, OpensSleepQueue, Readies}
pub use Rattle.lock_state.specs.Steps.{Refuses, Resumes, Seeks, Stamps, Step, TakesItem, Unreadies, after, after_all}
unfoldable pub use Rattle.lock_state.specs.Steps.Counting.{after_count_end, after_count_in, after_count_out}
unfoldable pub use Rattle.lock_state.specs.Steps.Counting.{after_count_self_in, after_halt}
pub use Rattle.lock_state.specs.Steps.Items.{ClassGraph, TurnstileChain}
unfoldable pub use Rattle.lock_state.specs.Steps.Items.{after_give, after_take}
unfoldable pub use Rattle.lock_state.specs.Steps.Lending.{after_claim, after_end_walk, after_lend, after_shift}
pub use Rattle.lock_state.specs.Steps.LockWords.{IsActing, IsGainedLast, MayStamp, entry_of, is_taking_back, is_woken}
pub use Rattle.lock_state.specs.Steps.LockWords.{taking_after, taking_from, without_held}
unfoldable pub use Rattle.lock_state.specs.Steps.LockWords.{after_drop, after_gain, after_look, after_ready, after_seek}
unfoldable pub use Rattle.lock_state.specs.Steps.LockWords.{after_stamp, after_unready}
pub use Rattle.lock_state.specs.Steps.Orders.{MayAdmit, MayRefuse, held_classes}
unfoldable pub use Rattle.lock_state.specs.Steps.Orders.{after_admit, after_refuse}
unfoldable pub use Rattle.lock_state.specs.Steps.SleepQueues.{after_abort, after_add, after_enter_sleep}
unfoldable pub use Rattle.lock_state.specs.Steps.SleepQueues.{after_open_sleep, after_wake}
pub use Rattle.lock_state.specs.Steps.Turnstiles.{HasReleased, MayMark, MayResume, noted_after, taking_by, wanted_after}
unfoldable pub use Rattle.lock_state.specs.Steps.Turnstiles.{after_enter, after_mark, after_open, after_resume}
pub use Rattle.lock_laws.proofs.FloorGuards.{FloorAll}
unfoldable pub use Rattle.lock_laws.proofs.FloorGuards.{floor_plan}
pub use Rattle.lock_laws.proofs.Kit.{columns, put_at_beside, put_at_other, put_at_same, put_other, put_same}
pub use Rattle.lock_laws.proofs.OwnEntries.{other_sections}
pub use Rattle.lock_laws.proofs.Resume.{unnamed}
pub use Rattle.lock_laws.proofs.Shown.{true-any_below}
pub use Rattle.lock_laws.proofs.Standing.{marked_named}
