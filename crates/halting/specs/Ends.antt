-- How a thread ends: it counts itself among those that have ended, and out of those that are awake.
use Rattle.std.specs.Prelude.{◌≡◌, ℕ, true, List, [], ◌∷◌}
use Rattle.lock_state.specs.State.{Asleep, is_parked}
use Rattle.lock_state.specs.Steps.{Step, TakesItem, GivesItem, CountsEnd, CountsOut}
use Rattle.lock_state.specs.Steps.Items.{RecordOf}
use Rattle.floor_table.specs.declared.description.Description.{Description}
use Rattle.floor_table.specs.Steps.{Makes, MakesEach}
use Rattle.floor_table.specs.Views.{Knowledge, Runs, seeing}
use Rattle.lock_floor.specs.declared.queues.HaltAt.{HaltAt}
use Rattle.lock_floor.specs.declared.queues.HaltAt.TheVariants as at
use Rattle.lock_floor.specs.Latches.{FindsOut}
use Rattle.lock_floor.specs.Passes.{IsAtRest}
use Rattle.halting.specs.declared.ending.EndAt.{EndAt}
use Rattle.halting.specs.declared.ending.EndAt.TheVariants.{Takes, Halts}
use Rattle.halting.specs.declared.ending.EndNext.{EndNext}
use Rattle.halting.specs.declared.ending.EndNext.TheVariants.{Done, Again, Wake}
use Rattle.halting.specs.Halts.{CountsItselfOut, HaltEnd, HaltLeg, HasNoNewLook, IsAside, IsAt, Kept, WakesNoOther, WakesOther, kept_of}

-- its own record is taken, it counts itself among those that have ended, and the record is given back
abbrev pub ends_by : ℕ → List (List Step)
ends_by t =
    (TakesItem t (RecordOf t) ∷ []) ∷ (CountsEnd t ∷ []) ∷ (GivesItem t (RecordOf t) ∷ []) ∷ []

-- and then it counts itself out, and halts others where it was the last
pub record EndsItself (floor : Description) (old new : Knowledge) : Type 0 where
  pub ended : Knowledge
  pub ends : MakesEach floor (ends_by old.thread) old ended
  pub counts : CountsItselfOut floor ended new

-- it has ended: it runs and is parked, has nothing out, holds nothing, and has nobody to wake
pub record HasEnded (floor : Description) (v : Knowledge) : Type 0 where
  pub aside : IsAside floor (kept_of v)
  pub runs : v.pose ≡ Runs
  pub ended : v.share.doing.has_ended ≡ true
  pub parked : is_parked v.share.doing.phase ≡ true
  pub nothing_out : v.out ≡ []
  pub unmarked : v.share.doing.marked ≡ []
  pub unheld : v.share.held ≡ []

-- What stays of it to a place: all, but that it has ended where it halts others
abbrev pub kept_to : EndAt → Kept → Kept
kept_to Takes k = k
kept_to (Halts there) k = record k { has_ended = true }

-- what it knows at each place: it is at rest and holds nothing, or is at halting others and has ended
pub record IsHaltingEnded (floor : Description) (there : HaltAt) (v : Knowledge) : Type 0 where
  pub halts : IsAt floor there v
  pub runs : v.pose ≡ Runs
  pub ended : v.share.doing.has_ended ≡ true
  pub unheld : v.share.held ≡ []

abbrev pub IsEnding : Description → EndAt → Knowledge → Type 0
IsEnding floor Takes v = IsAtRest floor v × (v.share.held ≡ [])
IsEnding floor (Halts there) v = IsHaltingEnded floor there v

-- its own record is out, or it ended and was the last, or is done
pub data EndLeg (floor : Description) : EndAt → EndAt → Knowledge → Knowledge → Type 0 where
  ends : {old mid new : Knowledge} → MakesEach floor (ends_by old.thread) old mid
      → Makes floor (CountsOut mid.thread ∷ []) mid new
      → EndLeg floor Takes (Halts at.Finds) old new
  finds_out : {old new : Knowledge} → new ≡ seeing new.seen old
      → FindsOut floor (RecordOf old.thread) old new → EndLeg floor Takes Takes old new
  halts : {old new : Knowledge} (there to : HaltAt) → HaltLeg floor there to old new
      → EndLeg floor (Halts there) (Halts to) old new

pub record EndsOn (floor : Description) (there to : EndAt) (old new : Knowledge) : Type 0 where
  pub at : IsEnding floor to new
  pub kept : kept_of new ≡ kept_to to (kept_of old)
  pub look : HasNoNewLook old new
  pub leg : EndLeg floor there to old new

-- it has ended, and somebody is awake or all have ended
pub data EndDone (floor : Description) : EndAt → Knowledge → Knowledge → Type 0 where
  leaves_some : {old mid new : Knowledge} → MakesEach floor (ends_by old.thread) old mid
      → Makes floor (CountsOut mid.thread ∷ []) mid new → new.share.doing.phase ≡ Asleep
      → EndDone floor Takes old new
  halted : {old new : Knowledge} (there : HaltAt) → HaltEnd floor there old new
      → EndDone floor (Halts there) old new

-- it is done, and all stays but that it has ended, and may have lost its last look
pub record EndsThread (floor : Description) (there : EndAt) (old new : Knowledge) : Type 0 where
  pub ended : HasEnded floor new
  pub kept : kept_of new ≡ record (kept_of old) { has_ended = true }
  pub look : HasNoNewLook old new
  pub end : EndDone floor there old new

abbrev pub GoesOnEnding : Description → EndAt → EndNext → Knowledge → Knowledge → Type 0
GoesOnEnding floor there Done old new = EndsThread floor there old new
GoesOnEnding floor there (Again to) old new = EndsOn floor there to old new × WakesNoOther old new
GoesOnEnding floor Takes (Wake t to) old new = ⊥
GoesOnEnding floor (Halts there) (Wake t to) old new =
    EndsOn floor (Halts there) to old new × WakesOther t.0 old new
