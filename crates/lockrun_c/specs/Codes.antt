-- The numbers by which C asks and is answered.
use Rattle.std.specs.Prelude.{ℕ, ◌==◌, nat_lt, true, false, if◌then◌else◌, Option, Some, None, Result, Ok, Err}
use Rattle.lock_model.specs.declared.numbers.ChanNo.{ChanNo}
use Rattle.lock_floor.specs.declared.tables.Change.TheVariants.{Set, Add}
use Rattle.lock_floor.specs.declared.tables.TableCell.{TableCell}
use Rattle.lock_model.specs.declared.numbers.LockNo.{LockNo}
use Rattle.lock_model.specs.declared.plan.Mode.TheVariants.{Excl, Shared}
use Rattle.floor_calls.specs.declared.requests.Cause.{Cause}
use Rattle.floor_calls.specs.declared.requests.Cause.TheVariants.{Ended, InCall, AtRest, NoLock, NoMode, NoChan, Held, HoldsUnsleepable, NotLast, HoldsOthers, NotHeld, HoldsMost, HoldsMore, HoldsSome, Spent, Short, NoCell, Unheld}
use Rattle.floor_calls.specs.declared.requests.Request.{Request}
use Rattle.floor_calls.specs.declared.requests.Request.TheVariants.{Take, Try, Release, Edit, Read, SetBase, Show, WakeUp, Wait, End, GoOn}
use Rattle.floor_calls.specs.declared.stages.Next.{Next}
use Rattle.floor_calls.specs.declared.stages.Next.TheVariants.{Done, Found, Shown, Again, Out, Sleep, Wake, Busy, Reversed, Halted}
use Rattle.lockrun_c.specs.declared.codes.Cell.{Cell}
use Rattle.lockrun_c.specs.declared.codes.Told.{Told}

-- 1. Requests

-- a lock's or channel's number: those from 255 on are as good as 255
abbrev pub byte_of : ℕ → ℕ
byte_of which = if nat_lt which 255 then which else 255

abbrev pub lock_of : ℕ → LockNo
lock_of which = record { 0 = byte_of which }

abbrev pub chan_of : ℕ → ChanNo
chan_of which = record { 0 = byte_of which }

abbrev pub cell_of : Cell → TableCell
cell_of cell = record { l = record { 0 = byte_of cell.lock }; key = cell.key; slot = cell.slot }

-- a base priority is a number up to 255
abbrev pub base_of : ℕ → Option Request
base_of n = if nat_lt n 256 then Some (SetBase (record { 0 = n })) else None

-- the request of that number, if it is a request's: of the lock or channel with the number
-- `which`, or of a cell, and with a number
unfoldable pub request_of : (what which number : ℕ) → Cell → Option Request
request_of what which number cell =
    if what == 0 then Some GoOn
    else (if what == 1 then Some End
    else (if what == 2 then Some (Take (lock_of which) Excl)
    else (if what == 3 then Some (Take (lock_of which) Shared)
    else (if what == 4 then Some (Try (lock_of which) Excl)
    else (if what == 5 then Some (Try (lock_of which) Shared)
    else (if what == 6 then Some (Release (lock_of which) Excl)
    else (if what == 7 then Some (Release (lock_of which) Shared)
    else (if what == 8 then Some (WakeUp (chan_of which) false)
    else (if what == 9 then Some (WakeUp (chan_of which) true)
    else (if what == 10 then Some (Wait (chan_of which))
    else (if what == 11 then Some (Edit (cell_of cell) (Set number))
    else (if what == 12 then Some (Edit (cell_of cell) (Add number))
    else (if what == 13 then Some (Read (cell_of cell))
    else (if what == 14 then base_of number
    else (if what == 15 then Some Show
    else None)))))))))))))))

-- 2. Answers

abbrev pub code_of_next : Next → ℕ
code_of_next Done = 0
code_of_next Again = 1
code_of_next Sleep = 2
code_of_next (Wake t) = 3
code_of_next (Busy seen) = 4
code_of_next (Reversed r) = 5
code_of_next Halted = 6
code_of_next (Found (Some value)) = 7
code_of_next (Found None) = 8
code_of_next (Shown base effective) = 9
code_of_next Out = 10

abbrev pub code_of_cause : Cause → ℕ
code_of_cause Ended = 32
code_of_cause InCall = 33
code_of_cause AtRest = 34
code_of_cause (NoLock l) = 35
code_of_cause (NoMode l mode) = 36
code_of_cause (NoChan c) = 37
code_of_cause (Held l) = 38
code_of_cause (HoldsUnsleepable l) = 39
code_of_cause (NotLast c) = 40
code_of_cause (HoldsOthers c) = 41
code_of_cause (NotHeld l mode) = 42
code_of_cause HoldsMost = 43
code_of_cause HoldsMore = 44
code_of_cause HoldsSome = 45
code_of_cause Spent = 46
code_of_cause Short = 47
code_of_cause (NoCell cell) = 48
code_of_cause (Unheld l) = 49

abbrev pub code_of : Result Next Cause → ℕ
code_of (Ok next) = code_of_next next
code_of (Err cause) = code_of_cause cause

-- where no call is made, and no cause of a thread's stands against it
abbrev pub not_open : ℕ
not_open = 17

abbrev pub no_request : ℕ
no_request = 19

-- 3. What is told beside

abbrev pub nothing_told : Told
nothing_told = record {
  word = 0;
  value = 0;
  thread = 0;
  held_class = 0;
  wanted_class = 0;
  base = 0;
  effective = 0;
}

-- what C has been told behind that: what it tells, or what C was told before, if it tells nothing
abbrev pub told_behind_next : Next → Told → Told
told_behind_next Done before = before
told_behind_next (Found (Some value)) before = record nothing_told { value = value }
told_behind_next (Found None) before = before
told_behind_next (Shown base effective) before =
    record nothing_told { base = base.0; effective = effective.0 }
told_behind_next Again before = before
told_behind_next Out before = before
told_behind_next Sleep before = before
told_behind_next (Wake t) before = record nothing_told { thread = t.0 }
told_behind_next (Busy seen) before = record nothing_told { word = seen }
told_behind_next (Reversed r) before =
    record nothing_told { held_class = r.held.0; wanted_class = r.wanted.0 }
told_behind_next Halted before = before

abbrev pub told_behind : Result Next Cause → Told → Told
told_behind (Ok next) before = told_behind_next next before
told_behind (Err cause) before = before
