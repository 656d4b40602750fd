-- What may stand against a call of a thread, and when the call may be made.
use Rattle.std.specs.Prelude.{◌≡◌, ◌≢◌, ℕ, ◌+◌, ◌<◌, ◌≤◌, true, false, List, [], ◌∷◌, length}
use Rattle.std.specs.List.{Any}
use Rattle.lock_model.specs.Holds.{NotHeld, Holds}
use Rattle.lock_model.specs.Limits.{most_held}
use Rattle.lock_model.specs.Operations.{hold_in, is_last}
use Rattle.lock_model.specs.Words.{is_turnstile}
use Rattle.lock_model.specs.declared.event.Held.{Held as HeldLock}
use Rattle.lock_model.specs.declared.numbers.LockNo.{LockNo}
use Rattle.lock_model.specs.declared.plan.Kind.TheVariants.{Mtx, Sx}
use Rattle.lock_model.specs.declared.plan.Mode.{Mode}
use Rattle.lock_model.specs.declared.plan.Mode.TheVariants.{Excl, Shared}
use Rattle.cond_vars.specs.Waits.{MayWait, lock_of}
use Rattle.cond_vars.specs.Wakes.{MayWakeUp}
use Rattle.floor_table.specs.Descriptions.{config_in}
use Rattle.floor_table.specs.Views.{Knowledge}
use Rattle.floor_table.specs.declared.description.Description.{Description}
use Rattle.lock_calls.specs.Steps.{MayTake, MayRelease}
use Rattle.lock_floor.specs.Cells.{IsCellOf}
use Rattle.lock_floor.specs.declared.tables.TableCell.{TableCell}
use Rattle.floor_calls.specs.Room.{HasRoomFor}
use Rattle.floor_calls.specs.Stages.{IsInCall}
use Rattle.floor_calls.specs.Threads.{Thread}
use Rattle.floor_calls.specs.declared.requests.Cause.{Cause}
use Rattle.floor_calls.specs.declared.requests.Cause.TheVariants.{Ended, InCall, AtRest, NoLock, NoMode, NoChan, NoCell, Held, HoldsUnsleepable, NotLast, HoldsOthers, NotHeld, Unheld, HoldsMost, HoldsMore, HoldsSome, Spent, Short}
use Rattle.floor_calls.specs.declared.requests.Request.{Request}
use Rattle.floor_calls.specs.declared.requests.Request.TheVariants.{Take, Try, Release, Edit, Read, SetBase, Show, WakeUp, Wait, End, GoOn}
use Rattle.floor_calls.specs.declared.stages.Stage.TheVariants as stages

-- the locks that a thread holds
abbrev pub held_by : Thread → List HeldLock
held_by x = x.pass.view.share.held

-- it holds a mutex or a reader-writer lock
abbrev pub HoldsMutexOrRw : Thread → Type 0
HoldsMutexOrRw x =
    Any (λ h. is_turnstile ((config_in x.floor.description).kind h.l.0) ≡ true) (held_by x)

-- beside that lock it holds one
abbrev pub HoldsOtherThan : ℕ → Thread → Type 0
HoldsOtherThan l x =
    Any (λ h. (is_turnstile ((config_in x.floor.description).kind h.l.0) ≡ true) × (h.l.0 ≢ l))
    (held_by x)

-- 1. What may stand against a call

-- What each cause says of a thread. Its log keeps room for a release of each lock that it holds: it is spent where it
-- has none for an entry beside these, and short where it has none for two
abbrev pub Says : Cause → Thread → Type 0
Says Ended x = x.stage ≡ stages.Ended
Says InCall x = IsInCall x.stage
Says AtRest x = x.stage ≡ stages.AtRest
Says (NoLock l) x = length x.floor.description.locks ≤ l.0
Says (NoMode l mode) x =
    (l.0 < length x.floor.description.locks) × ((config_in x.floor.description).kind l.0 ≡ Mtx)
    × (mode ≡ Shared)
Says (NoChan c) x = length x.floor.description.chans ≤ c.0
Says (NoCell cell) x = IsCellOf x.floor.description cell → ⊥
Says (Held l) x = (mode : Mode) × (hold_in (held_by x) l.0 ≡ Holds mode)
Says (HoldsUnsleepable l) x =
    ((config_in x.floor.description).kind l.0 ≡ Sx) × HoldsMutexOrRw x
Says (NotLast c) x = is_last (lock_of x.floor.description c.0) (held_by x) ≡ false
Says (HoldsOthers c) x = HoldsOtherThan (lock_of x.floor.description c.0) x
Says (NotHeld l mode) x = hold_in (held_by x) l.0 ≢ Holds mode
Says (Unheld l) x = hold_in (held_by x) l.0 ≡ NotHeld
Says HoldsMost x = most_held ≤ length (held_by x)
Says HoldsMore x = most_held < length (held_by x)
Says HoldsSome x = held_by x ≢ []
Says Spent x = x.pass.view.spare ≤ length (held_by x)
Says Short x = x.pass.view.spare < length (held_by x) + 2

-- what may stand against each call, in the order in which it is tested
abbrev pub causes : Request → List Cause
causes (Take l mode) =
    Ended ∷ InCall ∷ NoLock l ∷ NoMode l mode ∷ Held l ∷ HoldsUnsleepable l ∷ HoldsMost
    ∷ Short ∷ []
causes (Try l mode) =
    Ended ∷ InCall ∷ NoLock l ∷ NoMode l mode ∷ Held l ∷ HoldsUnsleepable l ∷ HoldsMost
    ∷ Short ∷ []
causes (Release l mode) =
    Ended ∷ InCall ∷ NoLock l ∷ NoMode l mode ∷ NotHeld l mode ∷ []
causes (Edit cell change) =
    Ended ∷ InCall ∷ NoCell cell ∷ NotHeld cell.l Excl ∷ Spent ∷ []
causes (Read cell) = Ended ∷ InCall ∷ NoCell cell ∷ Unheld cell.l ∷ Spent ∷ []
causes (SetBase prio) = Ended ∷ InCall ∷ Spent ∷ []
causes Show = Ended ∷ InCall ∷ Spent ∷ []
causes (WakeUp c all) = Ended ∷ InCall ∷ NoChan c ∷ Spent ∷ []
causes (Wait c) =
    Ended ∷ InCall ∷ NoChan c ∷ NotLast c ∷ HoldsOthers c ∷ HoldsMore ∷ Short ∷ []
causes End = Ended ∷ InCall ∷ HoldsSome ∷ []
causes GoOn = Ended ∷ AtRest ∷ []

-- 2. When a call may be made

-- a thread that takes or tries an sx lock holds no mutex and no reader-writer lock: these may not be held over a sleep
-- without bound (locking(9))
abbrev pub MaySleepFor : Thread → LockNo → Type 0
MaySleepFor x l =
    (config_in x.floor.description).kind l.0 ≡ Sx → (k : ℕ)
    → is_turnstile ((config_in x.floor.description).kind k) ≡ true
    → hold_in (held_by x) k ≡ NotHeld

-- a thread may edit a cell: that is one of the floor's, and the thread holds its lock exclusively, and has room for an
-- entry beside those that are kept
pub record MayEdit (floor : Description) (cell : TableCell) (v : Knowledge) : Type 0 where
  pub of_floor : IsCellOf floor cell
  pub held : hold_in v.share.held cell.l.0 ≡ Holds Excl
  pub room : HasRoomFor 1 v

-- it may read it: it holds its lock, in either mode
pub record MayRead (floor : Description) (cell : TableCell) (v : Knowledge) : Type 0 where
  pub of_floor : IsCellOf floor cell
  pub held : hold_in v.share.held cell.l.0 ≢ NotHeld
  pub room : HasRoomFor 1 v

-- The crate of a lock's call says what it needs beside a thread at rest; an end needs that the thread holds nothing;
-- and a call is gone on with in its middle. Beside what is kept for releases a call that makes one entry has room
-- for that; a take or a try for a release of what it gains too; and a wait for its two. A release needs none: its
-- room was kept
abbrev pub MayCall : Request → Thread → Type 0
MayCall (Take l mode) x =
    (x.stage ≡ stages.AtRest) × MayTake x.floor.description l.0 mode x.pass.view × MaySleepFor x l
    × HasRoomFor 2 x.pass.view
MayCall (Try l mode) x =
    (x.stage ≡ stages.AtRest) × MayTake x.floor.description l.0 mode x.pass.view × MaySleepFor x l
    × HasRoomFor 2 x.pass.view
MayCall (Release l mode) x =
    (x.stage ≡ stages.AtRest) × MayRelease x.floor.description l.0 mode x.pass.view
MayCall (Edit cell change) x =
    (x.stage ≡ stages.AtRest) × MayEdit x.floor.description cell x.pass.view
MayCall (Read cell) x =
    (x.stage ≡ stages.AtRest) × MayRead x.floor.description cell x.pass.view
MayCall (SetBase prio) x = (x.stage ≡ stages.AtRest) × HasRoomFor 1 x.pass.view
MayCall Show x = (x.stage ≡ stages.AtRest) × HasRoomFor 1 x.pass.view
MayCall (WakeUp c all) x =
    (x.stage ≡ stages.AtRest) × MayWakeUp x.floor.description c.0 x.pass.view
    × HasRoomFor 1 x.pass.view
MayCall (Wait c) x =
    (x.stage ≡ stages.AtRest) × MayWait x.floor.description c.0 x.pass.view
    × HasRoomFor 2 x.pass.view
MayCall End x = (x.stage ≡ stages.AtRest) × (held_by x ≡ [])
MayCall GoOn x = IsInCall x.stage
