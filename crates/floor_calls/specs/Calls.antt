-- What a call of a thread does where it is made, and what each call promises.
use Rattle.std.specs.Prelude.{◌≡◌, ◌↔◌, ℕ, Bool, Option, Some, None, Result, Ok, Err, IsOk, IfOk, IfErr}
use Rattle.cond_vars.specs.Parts.{WaitPart}
use Rattle.cond_vars.specs.Wakes.{GoesOnWaking, HasTakenOff}
use Rattle.cond_vars.specs.declared.parts.WaitAt.{WaitAt}
use Rattle.cond_vars.specs.declared.parts.WaitAt.TheVariants as waiting
use Rattle.cond_vars.specs.declared.parts.WaitNext.{WaitNext}
use Rattle.cond_vars.specs.declared.waking.WakeNext.{WakeNext}
use Rattle.floor_table.specs.Steps.{MakesEach}
use Rattle.floor_table.specs.Views.{Knowledge, seeing}
use Rattle.floor_table.specs.declared.description.Description.{Description}
use Rattle.halting.specs.Ends.{GoesOnEnding}
use Rattle.halting.specs.declared.ending.EndAt.{EndAt}
use Rattle.halting.specs.declared.ending.EndAt.TheVariants as places
use Rattle.halting.specs.declared.ending.EndNext.{EndNext}
use Rattle.lock_calls.specs.Releases.{BeginsGivingUp, HasBegunRelease, GoesOnReleasing, ReleasesPart}
use Rattle.lock_calls.specs.Takes.{HasBegunTake, GoesOnTaking, TakesPart}
use Rattle.lock_calls.specs.Tries.{HasBegunTry, GoesOnTrying}
use Rattle.lock_calls.specs.declared.answers.Next.{Next as PartNext}
use Rattle.lock_calls.specs.declared.answers.ReleaseNext.{ReleaseNext}
use Rattle.lock_calls.specs.declared.answers.TakeNext.{TakeNext}
use Rattle.lock_calls.specs.declared.trying.TryNext.{TryNext}
use Rattle.lock_floor.specs.Changes.{event_of}
use Rattle.lock_floor.specs.Floors.{Pass}
use Rattle.lock_floor.specs.Latches.{FindsOut}
use Rattle.lock_floor.specs.Passes.{MakesEntry, with_item}
use Rattle.lock_floor.specs.Waits.{its_chain}
use Rattle.lock_floor.specs.declared.calls.Call.TheVariants as calls
use Rattle.lock_floor.specs.declared.calls.ReleaseAt.{ReleaseAt}
use Rattle.lock_floor.specs.declared.calls.TakeAt.{TakeAt}
use Rattle.lock_floor.specs.declared.calls.TryAt.{TryAt}
use Rattle.lock_floor.specs.declared.latches.Out.{Out as WasOut}
use Rattle.lock_model.specs.Queues.{chan_queue}
use Rattle.lock_model.specs.declared.event.Event.{Event}
use Rattle.lock_model.specs.declared.event.Event.TheVariants.{Got, Base, Shown as HasShown}
use Rattle.lock_model.specs.declared.numbers.ChanNo.{ChanNo}
use Rattle.lock_model.specs.declared.numbers.LockNo.{LockNo}
use Rattle.lock_model.specs.declared.numbers.Prio.{Prio}
use Rattle.lock_model.specs.declared.plan.Mode.{Mode}
use Rattle.lock_state.specs.Steps.Items.{Item, RecordOf, CellOf}
use Rattle.floor_calls.specs.Causes.{MayCall, Says, causes}
use Rattle.floor_calls.specs.First.{IsFirst}
use Rattle.floor_calls.specs.Stages.{stage_behind, stage_of_begun, stage_of_end, stage_of_giving_up, stage_of_taking_back, stage_of_wait, stage_of_wake, told, told_at_once, told_of_end, told_of_giving_up, told_of_taking_back, told_of_try, told_of_wait, told_of_wake}
use Rattle.floor_calls.specs.Threads.{IsAt, Thread}
use Rattle.floor_calls.specs.Waits.{HoldsIts}
use Rattle.floor_calls.specs.declared.requests.Cause.{Cause}
use Rattle.floor_calls.specs.declared.requests.Request.{Request}
use Rattle.floor_calls.specs.declared.requests.Request.TheVariants.{Take, Try, Release, Edit, Read, SetBase, Show, WakeUp, Wait, End, GoOn}
use Rattle.floor_calls.specs.declared.stages.Next.{Next}
use Rattle.floor_calls.specs.declared.stages.Next.TheVariants.{Done, Again, Found, Shown}
use Rattle.floor_calls.specs.declared.stages.Stage.{Stage}
use Rattle.floor_calls.specs.declared.stages.Stage.TheVariants.{AtRest, Takes, Tries, Releases, ComesToWake, Wakes, Waits, ComesToGiveUp, GivesUp, TakesBack, Ends, Ended}
use Rattle.floor_calls.specs.declared.waits.WaitOn.{WaitOn}

-- 1. A part of a call

-- A part of a call was made, with a thread's pass: it answered in its crate's words and did so, and is told in this
-- crate's, with the thread's stage behind it
pub record Makes (A : Type 0) (told_as : A → Next) (behind : A → Stage)
    (Did : A → Pass Knowledge → Pass Knowledge → Type 0) (next : Next) (stage : Stage)
    (p q : Pass Knowledge) : Type 0 where
  pub part : A
  pub tells : next ≡ told_as part
  pub stands : stage ≡ behind part
  pub did : Did part p q

-- a part of a take or of a release, at that stage
abbrev pub MakesPart : Stage → (PartNext → Pass Knowledge → Pass Knowledge → Type 0) → Next → Stage
    → Pass Knowledge → Pass Knowledge → Type 0
MakesPart on Did next stage p q =
    Makes PartNext told (λ part. stage_behind on (told part)) Did next stage p q

-- a part of a try
abbrev pub MakesTryPart : (TryNext → Pass Knowledge → Pass Knowledge → Type 0) → Next → Stage
    → Pass Knowledge → Pass Knowledge → Type 0
MakesTryPart Did next stage p q =
    Makes TryNext told_of_try (λ part. stage_behind Tries (told_of_try part)) Did next stage p q

-- the item was found out, and no step was made
abbrev pub MissesItem : Description → Item → Pass Knowledge → Pass Knowledge → Type 0
MissesItem floor i p q =
    (q.view ≡ seeing q.view.seen p.view) × FindsOut floor i p.view q.view

-- a wake began, and took off those whose bits it tells; or it found the channel's chain out
abbrev pub HasBegunWake : Description → ChanNo → Bool → Option ℕ → Pass Knowledge → Pass Knowledge
    → Type 0
HasBegunWake floor c all (Some woken) p q = HasTakenOff floor c all woken p.view q.view
HasBegunWake floor c all None p q = MissesItem floor (its_chain floor (chan_queue c.0)) p q

-- so the begin of a wake
abbrev pub MakesWakePart : Description → ChanNo → Bool → Next → Stage → Pass Knowledge
    → Pass Knowledge → Type 0
MakesWakePart floor c all next stage p q =
    Makes (Option ℕ) (λ part. Again) (stage_of_begun c all) (HasBegunWake floor c all)
    next stage p q

-- a part of a wait on that, from there
abbrev pub MakesWaitPart : Description → WaitOn → WaitAt → Next → Stage → Pass Knowledge
    → Pass Knowledge → Type 0
MakesWaitPart floor on at next stage p q =
    Makes WaitNext told_of_wait (stage_of_wait on)
    (λ part r s. WaitPart floor on.c at part r.view s.view) next stage p q

-- a wait began on that channel, with its lock, which the thread holds
pub record BeginsWait (floor : Description) (c : ChanNo) (next : Next) (stage : Stage)
    (p q : Pass Knowledge) : Type 0 where
  pub on : WaitOn
  pub chan : on.c ≡ c
  pub its : HoldsIts floor on p.view
  pub part : MakesWaitPart floor on waiting.ComesTo next stage p q

-- a part of a thread's end, from there
abbrev pub MakesEndPart : Description → EndAt → Next → Stage → Pass Knowledge → Pass Knowledge
    → Type 0
MakesEndPart floor at next stage p q =
    Makes EndNext told_of_end stage_of_end (λ part r s. GoesOnEnding floor at part r.view s.view)
    next stage p q

-- about an item an entry was made, whose event follows from what was found; or the item was found out
abbrev pub EntersAbout : {A : Type 0} → Description → Item → (A → Event) → Result A WasOut
    → Pass Knowledge → Pass Knowledge → Type 0
EntersAbout floor i event (Ok found) p q =
    MakesEntry floor (event found) p.view.share.held p.view q.view
    × MakesEach floor (with_item p.view.thread i (event found)) p.view q.view
EntersAbout floor i event (Err out) p q = MissesItem floor i p q

-- so a call that is made at once, and tells what was found: its thread is at rest behind it
abbrev pub MakesAtOnce : (A : Type 0) → Description → Item → (A → Event) → (A → Next) → Next → Stage
    → Pass Knowledge → Pass Knowledge → Type 0
MakesAtOnce A floor i event tell next stage p q =
    Makes (Result A WasOut) (told_at_once tell) (λ part. AtRest) (EntersAbout floor i event)
    next stage p q

-- the take that a pass was in the middle of went on so
abbrev pub TakeWent : Description → PartNext → Pass Knowledge → Pass Knowledge → Type 0
TakeWent floor part p q =
    (l : LockNo) (mode : Mode) (at : TakeAt) → p.call ≡ calls.Take l mode at
    → GoesOnTaking floor l mode at part p q

-- or the try
abbrev pub TryWent : Description → TryNext → Pass Knowledge → Pass Knowledge → Type 0
TryWent floor part p q =
    (l : LockNo) (mode : Mode) (at : TryAt) → p.call ≡ calls.Try l mode at
    → GoesOnTrying floor l mode at part p q

-- or the release
abbrev pub ReleaseWent : Description → PartNext → Pass Knowledge → Pass Knowledge → Type 0
ReleaseWent floor part p q =
    (l : LockNo) (mode : Mode) (at : ReleaseAt) → p.call ≡ calls.Release l mode at
    → GoesOnReleasing floor l mode at part p q

-- a thread at that stage went on with its call
abbrev pub GoesOn : Description → Stage → Next → Stage → Pass Knowledge → Pass Knowledge → Type 0
GoesOn floor AtRest next stage p q = ⊥
GoesOn floor Takes next stage p q = MakesPart Takes (TakeWent floor) next stage p q
GoesOn floor Tries next stage p q = MakesTryPart (TryWent floor) next stage p q
GoesOn floor Releases next stage p q = MakesPart Releases (ReleaseWent floor) next stage p q
GoesOn floor (ComesToWake c all) next stage p q = MakesWakePart floor c all next stage p q
GoesOn floor Wakes next stage p q =
    Makes WakeNext told_of_wake stage_of_wake (λ part r s. GoesOnWaking floor part r.view s.view)
    next stage p q
GoesOn floor (Waits on at) next stage p q = MakesWaitPart floor on at next stage p q
GoesOn floor (ComesToGiveUp on) next stage p q =
    Makes ReleaseAt (λ at. Again) (GivesUp on)
    (λ at r s. BeginsGivingUp floor on.l on.mode at r.view s.view) next stage p q
GoesOn floor (GivesUp on at) next stage p q =
    Makes ReleaseNext told_of_giving_up (stage_of_giving_up on)
    (λ part r s. ReleasesPart floor on.l on.mode at part r.view s.view) next stage p q
GoesOn floor (TakesBack on aborted at) next stage p q =
    Makes TakeNext told_of_taking_back (stage_of_taking_back on aborted)
    (λ part r s. TakesPart floor on.l on.mode at part r.view s.view) next stage p q
GoesOn floor (Ends at) next stage p q = MakesEndPart floor at next stage p q
GoesOn floor Ended next stage p q = ⊥

-- 2. A call

-- what a call does that is made: just what the part of it promises that the crate of the call has
abbrev pub Does : Request → Next → Thread → Thread → Type 0
Does (Take l mode) next x y =
    MakesPart Takes (HasBegunTake x.floor.description l mode) next y.stage x.pass y.pass
Does (Try l mode) next x y =
    MakesTryPart (HasBegunTry x.floor.description l mode) next y.stage x.pass y.pass
Does (Release l mode) next x y =
    MakesPart Releases (HasBegunRelease x.floor.description l mode) next y.stage x.pass y.pass
Does (Edit cell change) next x y =
    MakesAtOnce Unit x.floor.description (CellOf cell.l.0 cell.key)
    (λ done. event_of cell.l cell.key change) (λ done. Done) next y.stage x.pass y.pass
Does (Read cell) next x y =
    MakesAtOnce (Option ℕ) x.floor.description (CellOf cell.l.0 cell.key)
    (λ found. Got cell.l cell.key found) (λ found. Found found) next y.stage x.pass y.pass
Does (SetBase prio) next x y =
    MakesAtOnce Unit x.floor.description (RecordOf x.pass.view.thread)
    (λ done. Base prio) (λ done. Done) next y.stage x.pass y.pass
Does Show next x y =
    MakesAtOnce (Prio × Prio) x.floor.description (RecordOf x.pass.view.thread)
    (λ prios. HasShown prios.0 prios.1) (λ prios. Shown prios.0 prios.1) next y.stage x.pass y.pass
Does (WakeUp c all) next x y =
    MakesWakePart x.floor.description c all next y.stage x.pass y.pass
Does (Wait c) next x y = BeginsWait x.floor.description c next y.stage x.pass y.pass
Does End next x y = MakesEndPart x.floor.description places.Takes next y.stage x.pass y.pass
Does GoOn next x y = GoesOn x.floor.description x.stage next y.stage x.pass y.pass

-- a thread that stands between two calls may make that one
pub record MayMake (request : Request) (x : Thread) : Type 0 where
  pub at : IsAt x.floor x.stage x.pass
  pub may : MayCall request x

-- it has made it: it stands behind it, and did what the call does
pub record HasMade (request : Request) (next : Next) (x y : Thread) : Type 0 where
  pub at : IsAt y.floor y.stage y.pass
  pub does : Does request next x y

-- the cause that a call answers
abbrev pub cause_in : Result Next Cause → Option Cause
cause_in (Ok next) = None
cause_in (Err cause) = Some cause

-- What a call promises: it is made exactly where it may be, and does what it is for; else it answers what stands
-- against it, the first that is so, and nothing is changed. The thread stays one of the floor
pub record Answers (request : Request) (answer : Result Next Cause) (x y : Thread) : Type 0 where
  pub floor : y.floor ≡ x.floor
  pub may : IsOk answer ↔ MayCall request x
  pub cause : IsFirst (λ cause. Says cause x) (causes request) (cause_in answer)
  pub does : IfOk answer (λ next. Does request next x y)
  pub unchanged : IfErr answer (λ cause. y ≡ x)
