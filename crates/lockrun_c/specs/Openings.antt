-- What a floor is opened for by what C describes.
use Rattle.std.specs.Prelude.{◌≡◌, ℕ, ◌<◌, List, [], Option, Some, length, map, reverse, slice_index_or}
use Rattle.floor_calls.specs.First.{IsFirst}
use Rattle.floor_calls.specs.Fitting.{Spoils, all_unfit}
use Rattle.floor_calls.specs.Openings.{first_thread}
use Rattle.floor_calls.specs.Threads.{Thread}
use Rattle.floor_calls.specs.declared.opening.NotOpened.TheVariants.{NoMemory, Unfit as IsUnfit}
use Rattle.floor_calls.specs.declared.unfit.Unfit.{Unfit}
use Rattle.floor_table.specs.Descriptions.{lock_part}
use Rattle.floor_table.specs.declared.description.Description.{Description}
use Rattle.floor_table.specs.declared.description.ThreadPart.{ThreadPart}
use Rattle.lock_model.specs.declared.plan.Plan.{Plan}
use Rattle.lockrun_c.specs.Codes.{byte_of}
use Rattle.lockrun_c.specs.Naming.{IsNamedFor}
use Rattle.lockrun_c.specs.declared.content.Content.{Content}
use Rattle.lockrun_c.specs.declared.content.Content.TheVariants as content
use Rattle.lockrun_c.specs.declared.content.House.{House}
use Rattle.lockrun_c.specs.declared.misfits.Refused.{Refused}
use Rattle.lockrun_c.specs.declared.misfits.Refused.TheVariants.{Rows, Floor}
use Rattle.lockrun_c.specs.declared.rows.ChanRow.{ChanRow}
use Rattle.lockrun_c.specs.declared.rows.KeyRow.{KeyRow}
use Rattle.lockrun_c.specs.declared.rows.LockRow.{LockRow}
use Rattle.lockrun_c.specs.declared.rows.ThreadRow.{ThreadRow}

abbrev pub thread_part : ThreadRow → ThreadPart
thread_part row = record { base = record { 0 = row.base }; room = row.entries }

-- a key behind its lock
abbrev pub key_of : KeyRow → ℕ × ℕ
key_of row = (byte_of row.lock, row.key)

-- the locks and channels as they are named, with one chain of each sort
abbrev pub description_of : Plan → List ThreadRow → List KeyRow → Description
description_of names threads keys = record {
  threads = map thread_part threads;
  locks = map lock_part names.locks;
  chans = map (λ d. d.lock) names.chans;
  keys = map key_of keys;
  chains = 1;
}

-- a floor that was opened for these rows: no thread was taken in, and all are still to be handed out, each of which has
-- made no call
pub record IsHouseFor (threads : List ThreadRow) (locks : List LockRow) (chans : List ChanRow)
    (keys : List KeyRow) (house : House) : Type 0 where
  pub names : IsNamedFor threads locks chans house.names
  pub description : house.floor.floor.description ≡ description_of house.names threads keys
  pub none_gathered : house.floor.keeper.view.gathered ≡ []
  pub count : length house.waiting.items ≡ length threads
  pub waiting : (t : ℕ) (d : Thread) → t < length threads
      → slice_index_or (reverse house.waiting.items) t d ≡ first_thread house.floor.floor t

-- what the rows describe, and no floor is opened for it, for that reason, the first that is so
abbrev pub IsUnfitFor : List ThreadRow → List LockRow → List ChanRow → List KeyRow → Unfit → Type 0
IsUnfitFor threads locks chans keys why =
    (names : Plan) × IsNamedFor threads locks chans names
    × IsFirst (λ r. Spoils r (description_of names threads keys)) all_unfit (Some why)

-- of the rows, where they were refused by the floor itself
abbrev pub IsRefusedFor : List ThreadRow → List LockRow → List ChanRow → List KeyRow → Refused
    → Type 0
IsRefusedFor threads locks chans keys (Rows why) = Unit {0}
IsRefusedFor threads locks chans keys (Floor NoMemory) = Unit {0}
IsRefusedFor threads locks chans keys (Floor (IsUnfit why)) =
    IsUnfitFor threads locks chans keys why

abbrev pub IsOpenFor : List ThreadRow → List LockRow → List ChanRow → List KeyRow → Option Content
    → Type 0
IsOpenFor threads locks chans keys home =
    (house : House) × (home ≡ Some (content.Open house))
    × IsHouseFor threads locks chans keys house
