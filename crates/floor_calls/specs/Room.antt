-- The room that a thread's log keeps: for a release of each lock that the thread holds, and for the call that it is in
-- the middle of.
use Rattle.std.specs.Prelude.{◌≡◌, ℕ, ◌+◌, ◌≤◌, length}
use Rattle.cond_vars.specs.declared.parts.WaitAt.{WaitAt}
use Rattle.cond_vars.specs.declared.parts.WaitAt.TheVariants.{ComesTo, ComesIn, Parks, Halts, Sleeps, Notes}
use Rattle.floor_table.specs.Views.{Knowledge}
use Rattle.lock_calls.specs.Releases.{once_released}
use Rattle.lock_floor.specs.Floors.{Pass}
use Rattle.lock_floor.specs.declared.calls.Call.TheVariants as calls
use Rattle.lock_floor.specs.declared.calls.ReleaseAt.{ReleaseAt}
use Rattle.lock_model.specs.declared.numbers.LockNo.{LockNo}
use Rattle.lock_model.specs.declared.plan.Mode.{Mode}
use Rattle.floor_calls.specs.declared.stages.Stage.{Stage}
use Rattle.floor_calls.specs.declared.stages.Stage.TheVariants.{AtRest, Takes, Tries, Releases, ComesToWake, Wakes, Waits, ComesToGiveUp, GivesUp, TakesBack, Ends, Ended}

-- beside an entry for a release of each lock that the thread holds its log has room for so many more
abbrev pub HasRoomFor : ℕ → Knowledge → Type 0
HasRoomFor more v = length v.share.held + more ≤ v.spare

-- once the release that the pass is in the middle of is done
pub record HasRoomOnceReleased (more : ℕ) (p : Pass Knowledge) : Type 0 where
  pub l : LockNo
  pub mode : Mode
  pub at : ReleaseAt
  pub call : p.call ≡ calls.Release l mode at
  pub room : HasRoomFor more (once_released l.0 at p.view)

-- What a wait may still need at its places: its two entries; or, behind the release of its lock, its second one and
-- that of another release of it, since it takes it back; or its second one alone
abbrev pub needed_in_wait : WaitAt → ℕ
needed_in_wait ComesTo = 2
needed_in_wait ComesIn = 2
needed_in_wait Parks = 2
needed_in_wait (Halts there) = 2
needed_in_wait Sleeps = 2
needed_in_wait (Notes aborted) = 1

-- A thread's log keeps room for a release of each lock that the thread holds, and for what its call may still need:
-- of a take, a try or the taking back within a wait its entry, and one of a release of what it gains; of a release
-- nothing more, which was noted at its begin; of a wake that is to begin again its entry
abbrev pub KeepsRoom : Stage → Pass Knowledge → Type 0
KeepsRoom AtRest p = HasRoomFor 0 p.view
KeepsRoom Takes p = HasRoomFor 2 p.view
KeepsRoom Tries p = HasRoomFor 2 p.view
KeepsRoom Releases p = HasRoomOnceReleased 0 p
KeepsRoom (ComesToWake c all) p = HasRoomFor 1 p.view
KeepsRoom Wakes p = HasRoomFor 0 p.view
KeepsRoom (Waits on at) p = HasRoomFor (needed_in_wait at) p.view
KeepsRoom (ComesToGiveUp on) p = HasRoomFor 1 p.view
KeepsRoom (GivesUp on at) p = HasRoomFor 2 (once_released on.l.0 at p.view)
KeepsRoom (TakesBack on aborted at) p = HasRoomFor 2 p.view
KeepsRoom (Ends at) p = HasRoomFor 0 p.view
KeepsRoom Ended p = HasRoomFor 0 p.view
