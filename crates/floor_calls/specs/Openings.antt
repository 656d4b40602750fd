-- An open floor as its caller has it, and how it is opened.
use Rattle.std.specs.Prelude.{ℕ, Option, Some, None, Result, Ok, Err}
use Rattle.floor_table.specs.Views.{Knowledge}
use Rattle.floor_table.specs.declared.description.Description.{Description}
use Rattle.lock_floor.specs.Floors.{Floor, Keeper, Pass}
use Rattle.lock_floor.specs.Passes.{first_pass}
use Rattle.floor_calls.specs.Threads.{Thread, thread_at}
use Rattle.floor_calls.specs.declared.opening.NotOpened.{NotOpened}
use Rattle.floor_calls.specs.declared.opening.NotOpened.TheVariants.{NoMemory, Unfit as IsUnfit}
use Rattle.floor_calls.specs.declared.stages.Stage.TheVariants.{AtRest}
use Rattle.floor_calls.specs.declared.unfit.Unfit.{Unfit}

-- which floor it is, and its keeper
pub record Open : Type 0 where
  pub floor : Floor Description
  pub keeper : Keeper

-- the thread of a pass, in the middle of no call
abbrev pub thread_at_rest : Floor Description → Pass Knowledge → Thread
thread_at_rest floor pass = thread_at floor AtRest pass

-- a thread as the floor is opened: it has made no call
abbrev pub first_thread : Floor Description → ℕ → Thread
first_thread floor t = thread_at_rest floor (first_pass floor.table floor.description t)

-- what stands against the description, as an opening answers it: nothing where only memory was wanting
abbrev pub unfit_in : {A : Type 0} → Result A NotOpened → Option Unfit
unfit_in (Ok made) = None
unfit_in (Err NoMemory) = None
unfit_in (Err (IsUnfit why)) = Some why
