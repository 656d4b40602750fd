-- What is so of a thread in the middle of a wait: of the lock of the wait, and while it gives that up and takes it
-- back.
use Rattle.std.specs.Prelude.{◌≡◌, ◌≢◌, ◌<◌, Bool, length}
use Rattle.cond_vars.specs.Parts.{IsToRelease, IsToTakeBack}
use Rattle.cond_vars.specs.Waits.{lock_of}
use Rattle.cond_vars.specs.declared.parts.WaitAt.{WaitAt}
use Rattle.cond_vars.specs.declared.parts.WaitAt.TheVariants.{ComesTo, ComesIn, Parks, Halts, Sleeps, Notes}
use Rattle.floor_table.specs.Descriptions.{config_in}
use Rattle.floor_table.specs.Views.{Knowledge}
use Rattle.floor_table.specs.declared.description.Description.{Description}
use Rattle.lock_calls.specs.Releases.{IsReleasing, once_released}
use Rattle.lock_calls.specs.Takes.{IsUnderAcquiring, kept_at}
use Rattle.lock_calls.specs.Waiting.{kept_of}
use Rattle.lock_floor.specs.Resumes.{cause_of}
use Rattle.lock_floor.specs.declared.calls.ReleaseAt.{ReleaseAt}
use Rattle.lock_floor.specs.declared.calls.ReleaseAt.TheVariants as places
use Rattle.lock_floor.specs.declared.calls.TakeAt.{TakeAt}
use Rattle.lock_floor.specs.declared.calls.TakeAt.TheVariants.{Checks}
use Rattle.lock_model.specs.History.{left_in}
use Rattle.lock_model.specs.Holds.{Holds}
use Rattle.lock_model.specs.Operations.{hold_in}
use Rattle.floor_calls.specs.declared.waits.WaitOn.{WaitOn}

-- the lock of the wait is that of what it waits on, and the thread holds it in that mode
pub record HoldsIts (floor : Description) (on : WaitOn) (v : Knowledge) : Type 0 where
  pub lock : on.l.0 ≡ lock_of floor on.c.0
  pub held : hold_in v.share.held on.l.0 ≡ Holds on.mode

-- or by its log it has left the section of that lock in that mode
pub record HasLeftIts (floor : Description) (on : WaitOn) (v : Knowledge) : Type 0 where
  pub lock : on.l.0 ≡ lock_of floor on.c.0
  pub of_floor : on.l.0 < length floor.locks
  pub left : left_in (config_in floor) v.share.log v.thread on.l.0 ≡ Holds on.mode

-- so at each place of the wait
abbrev pub KnowsIts : Description → WaitOn → WaitAt → Knowledge → Type 0
KnowsIts floor on ComesTo v = HoldsIts floor on v
KnowsIts floor on ComesIn v = HoldsIts floor on v
KnowsIts floor on Parks v = HasLeftIts floor on v
KnowsIts floor on (Halts there) v = HasLeftIts floor on v
KnowsIts floor on Sleeps v = HasLeftIts floor on v
KnowsIts floor on (Notes aborted) v = Unit {0}

-- it stands on the queue of what it waits on, and may give its lock up
pub record IsToGiveUp (floor : Description) (on : WaitOn) (v : Knowledge) : Type 0 where
  pub release : IsToRelease floor on.c v
  pub its : HoldsIts floor on v
  pub of_floor : on.l.0 < length floor.locks

-- Since it was to give its lock up it does so, by a release that stands there: what it knows once that is done stays
pub record IsGivingUp (floor : Description) (on : WaitOn) (at : ReleaseAt) (v : Knowledge) : Type 0
  where
    pub begun : Knowledge
    pub first : IsToGiveUp floor on begun
    pub there : IsReleasing floor on.l.0 on.mode at v
    pub kept : once_released on.l.0 at v ≡ once_released on.l.0 places.ComesTo begun

-- Since it was woken, by an abort or not, it takes its lock back, and stands there: what stays through a take stays
pub record IsTakingBack (floor : Description) (on : WaitOn) (aborted : Bool) (at : TakeAt)
    (v : Knowledge) : Type 0 where
  pub begun : Knowledge
  pub first : IsToTakeBack floor on.c (cause_of aborted) begun
  pub its : HasLeftIts floor on begun
  pub unchecked : at ≢ Checks
  pub under : IsUnderAcquiring floor on.l on.mode at v
  pub kept : kept_at at v ≡ kept_of begun
