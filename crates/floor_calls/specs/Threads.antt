-- A thread as its caller has it, and what is so of it at each stage.
use Rattle.std.specs.Prelude.{◌≡◌, [], None}
use Rattle.cond_vars.specs.Parts.{IsWaiting}
use Rattle.cond_vars.specs.Wakes.{MayWakeUp}
use Rattle.floor_table.specs.Views.{Knowledge}
use Rattle.floor_table.specs.declared.description.Description.{Description}
use Rattle.halting.specs.Ends.{IsEnding}
use Rattle.halting.specs.declared.ending.EndAt.{EndAt}
use Rattle.lock_calls.specs.Releases.{IsInRelease}
use Rattle.lock_calls.specs.Takes.{IsInTake}
use Rattle.lock_calls.specs.Tries.{IsInTry}
use Rattle.lock_floor.specs.Floors.{Floor, Pass}
use Rattle.lock_floor.specs.Marks.{with_marks}
use Rattle.lock_floor.specs.Passes.{IsAtRest, IsOf, IsFinished, IsReady}
use Rattle.floor_calls.specs.Room.{KeepsRoom}
use Rattle.floor_calls.specs.Waits.{IsGivingUp, IsTakingBack, IsToGiveUp, KnowsIts}
use Rattle.floor_calls.specs.declared.stages.Stage.{Stage}
use Rattle.floor_calls.specs.declared.stages.Stage.TheVariants.{AtRest, Takes, Tries, Releases, ComesToWake, Wakes, Waits, ComesToGiveUp, GivesUp, TakesBack, Ends, Ended}

-- which floor it is a thread of, its pass there, and its stage
pub record Thread : Type 0 where
  pub floor : Floor Description
  pub pass : Pass Knowledge
  pub stage : Stage

-- the thread of a floor that stands at that stage with that pass
abbrev pub thread_at : Floor Description → Stage → Pass Knowledge → Thread
thread_at floor stage pass = record { floor = floor; pass = pass; stage = stage }

-- it is in the middle of its end, stands there, and takes no lock
pub record IsEndingAt (f : Floor Description) (at : EndAt) (p : Pass Knowledge) : Type 0 where
  pub own : IsOf f p
  pub there : IsEnding f.description at p.view
  pub takes_nothing : p.view.share.doing.taking ≡ None

-- At rest its pass is ready; in the middle of a call it is the floor's, and stands in that call: with a wake that it is
-- to begin again it is ready and may begin it, and with those whom it has yet to wake it is at rest but for them; in a
-- wait it stands there, or gives its lock up or takes it back; and behind its end it is finished
abbrev pub IsAt : Floor Description → Stage → Pass Knowledge → Type 0
IsAt f AtRest p = IsReady f p
IsAt f Takes p = IsOf f p × IsInTake f.description p
IsAt f Tries p = IsOf f p × IsInTry f.description p
IsAt f Releases p = IsOf f p × IsInRelease f.description p
IsAt f (ComesToWake c all) p = IsReady f p × MayWakeUp f.description c.0 p.view
IsAt f Wakes p = IsOf f p × IsAtRest f.description (with_marks p.view [])
IsAt f (Waits on at) p =
    IsOf f p × IsWaiting f.description on.c at p.view × KnowsIts f.description on at p.view
IsAt f (ComesToGiveUp on) p = IsOf f p × IsToGiveUp f.description on p.view
IsAt f (GivesUp on at) p = IsOf f p × IsGivingUp f.description on at p.view
IsAt f (TakesBack on aborted at) p = IsOf f p × IsTakingBack f.description on aborted at p.view
IsAt f (Ends at) p = IsEndingAt f at p
IsAt f Ended p = IsFinished f p

-- so a thread stands between two calls, and its log keeps room
pub record Stands (f : Floor Description) (stage : Stage) (p : Pass Knowledge) : Type 0 where
  pub at : IsAt f stage p
  pub room : KeepsRoom stage p
