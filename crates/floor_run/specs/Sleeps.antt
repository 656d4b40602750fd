-- What a worker's wait and its wakings leave of its thread's log.
use Rattle.std.specs.Prelude.{ℕ}
use Rattle.lock_model.specs.Queues.{Cause}
use Rattle.lock_model.specs.declared.event.Event.TheVariants.{Sleeps, WokeOne, WokeAll}
use Rattle.lock_model.specs.declared.numbers.ChanNo.{ChanNo}
use Rattle.floor_table.specs.declared.description.Description.{Description}
use Rattle.floor_table.specs.Views.{Knowledge}
use Rattle.lock_floor.specs.Passes.{MakesEntry}
use Rattle.cond_vars.specs.Waits.{ended_by}

-- The thread slept on the channel, and its sleep was ended by that cause: it noted either by an entry. Then it holds
-- just what it held before, as it did when it noted that it sleeps
pub record HasSlept (floor : Description) (d : ChanNo) (cause : Cause) (old new : Knowledge) : Type 0
  where
    pub asleep : Knowledge
    pub slept : MakesEntry floor (Sleeps d) old.share.held old asleep
    pub ended : MakesEntry floor (ended_by cause d) old.share.held asleep new

-- the thread woke those that the entry names, one at most, or all, and holds what it held
abbrev pub HasWokenOne : Description → ChanNo → Knowledge → Knowledge → Type 0
HasWokenOne floor d old new = (woken : ℕ) × MakesEntry floor (WokeOne d woken) old.share.held old new

abbrev pub HasWokenAll : Description → ChanNo → Knowledge → Knowledge → Type 0
HasWokenAll floor d old new = (woken : ℕ) × MakesEntry floor (WokeAll d woken) old.share.held old new
