-- How a thread's stage follows from what a call answered, and how this crate's answers tell those of the parts of
-- calls.
use Rattle.std.specs.Prelude.{Bool, ℕ, Option, Some, None, Result, Ok, Err}
use Rattle.cond_vars.specs.declared.parts.WaitAt.TheVariants as waiting
use Rattle.cond_vars.specs.declared.parts.WaitNext.{WaitNext}
use Rattle.cond_vars.specs.declared.parts.WaitNext.TheVariants as wait
use Rattle.cond_vars.specs.declared.waking.WakeNext.{WakeNext}
use Rattle.cond_vars.specs.declared.waking.WakeNext.TheVariants as wake
use Rattle.halting.specs.declared.ending.EndNext.{EndNext}
use Rattle.halting.specs.declared.ending.EndNext.TheVariants as end
use Rattle.lock_calls.specs.Takes.{next_at}
use Rattle.lock_calls.specs.declared.answers.Next.{Next as PartNext}
use Rattle.lock_calls.specs.declared.answers.Next.TheVariants as part
use Rattle.lock_calls.specs.declared.answers.ReleaseNext.{ReleaseNext}
use Rattle.lock_calls.specs.declared.answers.ReleaseNext.TheVariants as given
use Rattle.lock_calls.specs.declared.answers.TakeNext.{TakeNext}
use Rattle.lock_calls.specs.declared.answers.TakeNext.TheVariants as taken
use Rattle.lock_calls.specs.declared.trying.TryNext.{TryNext}
use Rattle.lock_calls.specs.declared.trying.TryNext.TheVariants as try
use Rattle.lock_floor.specs.declared.calls.ReleaseAt.TheVariants as release
use Rattle.lock_floor.specs.declared.calls.TakeAt.TheVariants as take
use Rattle.lock_floor.specs.declared.latches.Out.{Out as WasOut}
use Rattle.lock_model.specs.declared.numbers.ChanNo.{ChanNo}
use Rattle.floor_calls.specs.declared.stages.Next.{Next}
use Rattle.floor_calls.specs.declared.stages.Next.TheVariants.{Done, Found, Shown, Again, Out, Sleep, Wake, Busy, Reversed, Halted}
use Rattle.floor_calls.specs.declared.stages.Stage.{Stage}
use Rattle.floor_calls.specs.declared.stages.Stage.TheVariants.{AtRest, Takes, Tries, Releases, ComesToWake, Wakes, Waits, ComesToGiveUp, GivesUp, TakesBack, Ends, Ended}
use Rattle.floor_calls.specs.declared.waits.WaitOn.{WaitOn}

-- a thread at that stage is in the middle of a call
abbrev pub IsInCall : Stage → Type 0
IsInCall AtRest = ⊥
IsInCall Takes = Unit {0}
IsInCall Tries = Unit {0}
IsInCall Releases = Unit {0}
IsInCall (ComesToWake c all) = Unit {0}
IsInCall Wakes = Unit {0}
IsInCall (Waits on at) = Unit {0}
IsInCall (ComesToGiveUp on) = Unit {0}
IsInCall (GivesUp on at) = Unit {0}
IsInCall (TakesBack on aborted at) = Unit {0}
IsInCall (Ends at) = Unit {0}
IsInCall Ended = ⊥

-- the stage behind a part of a lock's call: the same, unless the call is done
abbrev pub stage_behind : Stage → Next → Stage
stage_behind on Done = AtRest
stage_behind on (Found value) = AtRest
stage_behind on (Shown base effective) = AtRest
stage_behind on Again = on
stage_behind on Out = AtRest
stage_behind on Sleep = on
stage_behind on (Wake t) = on
stage_behind on (Busy seen) = AtRest
stage_behind on (Reversed r) = AtRest
stage_behind on Halted = AtRest

-- the stage behind a part of a thread's end
abbrev pub stage_of_end : EndNext → Stage
stage_of_end end.Done = Ended
stage_of_end (end.Again to) = Ends to
stage_of_end (end.Wake t to) = Ends to

-- the stage behind the begin of a wake: it is to be begun again, or those who were taken off are to be woken
abbrev pub stage_of_begun : ChanNo → Bool → Option ℕ → Stage
stage_of_begun c all None = ComesToWake c all
stage_of_begun c all (Some woken) = Wakes

-- and behind a part of it
abbrev pub stage_of_wake : WakeNext → Stage
stage_of_wake wake.Done = AtRest
stage_of_wake wake.Again = Wakes
stage_of_wake (wake.Wake t) = Wakes

-- Behind a part of a wait: it is done; or stands there; or its lock is to be given up first; or to be taken back, by
-- 48 looks first
abbrev pub stage_of_wait : WaitOn → WaitNext → Stage
stage_of_wait on wait.Done = AtRest
stage_of_wait on wait.Halted = AtRest
stage_of_wait on (wait.Again to) = Waits on to
stage_of_wait on wait.Sleep = Waits on waiting.Sleeps
stage_of_wait on (wait.Wake t to) = Waits on to
stage_of_wait on wait.Release = ComesToGiveUp on
stage_of_wait on (wait.TakeBack aborted) = TakesBack on aborted (take.Spins 48)

-- behind a part of the giving up: where that is done the wait goes on from there
abbrev pub stage_of_giving_up : WaitOn → ReleaseNext → Stage
stage_of_giving_up on given.Done = Waits on waiting.Parks
stage_of_giving_up on (given.At to) = GivesUp on to
stage_of_giving_up on (given.Wake t) = GivesUp on release.Wakes

-- and behind a part of the taking back
abbrev pub stage_of_taking_back : WaitOn → Bool → TakeNext → Stage
stage_of_taking_back on aborted taken.Gained = Waits on (waiting.Notes aborted)
stage_of_taking_back on aborted (taken.At to) = TakesBack on aborted to
stage_of_taking_back on aborted (taken.Wake t to) = TakesBack on aborted to

-- what is told of a part of a take or of a release
abbrev pub told : PartNext → Next
told part.Done = Done
told part.Again = Again
told part.Sleep = Sleep
told (part.Wake t) = Wake t
told (part.Reversed r) = Reversed r
told part.Halted = Halted

-- of a try
abbrev pub told_of_try : TryNext → Next
told_of_try try.Gained = Done
told_of_try (try.Busy seen) = Busy seen
told_of_try try.Again = Again

-- of a call that is made at once: what was found, unless what it needs was out
abbrev pub told_at_once : {A : Type 0} → (A → Next) → Result A WasOut → Next
told_at_once tell (Ok found) = tell found
told_at_once tell (Err out) = Out

-- of a wake
abbrev pub told_of_wake : WakeNext → Next
told_of_wake wake.Done = Done
told_of_wake wake.Again = Again
told_of_wake (wake.Wake t) = Wake t

-- of a wait: what its caller is to do for it, this crate does by its next part
abbrev pub told_of_wait : WaitNext → Next
told_of_wait wait.Done = Done
told_of_wait wait.Halted = Halted
told_of_wait (wait.Again to) = Again
told_of_wait wait.Sleep = Sleep
told_of_wait (wait.Wake t to) = Wake t
told_of_wait wait.Release = Again
told_of_wait (wait.TakeBack aborted) = Again

-- of the giving up within it, and of the taking back
abbrev pub told_of_giving_up : ReleaseNext → Next
told_of_giving_up given.Done = Again
told_of_giving_up (given.At to) = Again
told_of_giving_up (given.Wake t) = Wake t

abbrev pub told_of_taking_back : TakeNext → Next
told_of_taking_back taken.Gained = Again
told_of_taking_back (taken.At to) = told (next_at to)
told_of_taking_back (taken.Wake t to) = Wake t

-- and of a thread's end
abbrev pub told_of_end : EndNext → Next
told_of_end end.Done = Done
told_of_end (end.Again to) = Again
told_of_end (end.Wake t to) = Wake t
