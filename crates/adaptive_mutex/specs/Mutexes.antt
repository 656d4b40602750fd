-- What the calls of mutexes need, and the steps that a try makes.
use Rattle.std.specs.Prelude.{◌≡◌, ℕ, ◌<◌, ◌≤◌, Bool, true, false, List, [], ◌∷◌, length, Some, None}
use Rattle.lock_model.specs.Holds.{NotHeld, Holds}
use Rattle.lock_model.specs.Limits.{most_held}
use Rattle.lock_model.specs.Operations.{hold_in}
use Rattle.lock_model.specs.Words.{word_of, IsWellFormed, is_free}
use Rattle.lock_model.specs.declared.event.Event.{Event}
use Rattle.lock_model.specs.declared.event.Held.{Held}
use Rattle.lock_model.specs.declared.numbers.LockNo.{LockNo}
use Rattle.lock_model.specs.declared.plan.Mode.TheVariants.{Excl}
use Rattle.lock_state.specs.Steps.{Step, Looks, Gains, Stamps}
use Rattle.floor_table.specs.declared.description.Description.{Description}
use Rattle.floor_table.specs.Steps.{Makes}
use Rattle.floor_table.specs.Views.{Knowledge}
pub use Rattle.lock_calls.specs.Steps.{IsMutex}

-- the thread may gain the mutex: it doesn't hold it, may hold one more lock, and has room for an entry
pub record MayAcquire (floor : Description) (l : ℕ) (v : Knowledge) : Type 0 where
  pub mutex : IsMutex floor l
  pub unheld : hold_in v.share.held l ≡ NotHeld
  pub few : length v.share.held < most_held
  pub room : 1 ≤ v.spare

-- it may release it: it holds it, and has room for an entry
pub record MayRelease (floor : Description) (l : ℕ) (v : Knowledge) : Type 0 where
  pub mutex : IsMutex floor l
  pub held : hold_in v.share.held l ≡ Holds Excl
  pub room : 1 ≤ v.spare

-- the mutex as it is held
abbrev pub as_held : LockNo → Bool → Held
as_held l by_try = record { l = l; mode = Excl; by_try = by_try }

-- a try gains by one exchange, and notes it
abbrev pub tries : ℕ → LockNo → List (List Step)
tries t l = (Gains t l.0 Excl true ∷ []) ∷ (Stamps t (Event.Tried l Excl) ∷ []) ∷ []

-- A try found the mutex held: its exchange failed, and so was a look that saw the word of a held mutex; it noted that
-- word, and nothing else.
pub record WasBusy (floor : Description) (t : ℕ) (l : LockNo) (seen : ℕ)
    (old new : Knowledge) : Type 0 where
  pub between : Knowledge
  pub look : Makes floor (Looks t l.0 true ∷ []) old between
  pub saw : between.share.doing.last_look ≡ Some (record { lock = l.0; word = word_of seen })
  pub note : Makes floor (Stamps t (Event.Busy l seen) ∷ []) between new
  pub well_formed : IsWellFormed (word_of seen)
  pub held : is_free (word_of seen).holder ≡ false
  pub looked : old.share.doing.looks_in_all < new.share.doing.looks_in_all
  pub no_last_look : new.share.doing.last_look ≡ None
