-- What the calls of reader-writer locks need.
use Rattle.std.specs.Prelude.{◌≡◌, ◌≢◌, ℕ, ◌<◌, ◌≤◌, length}
use Rattle.lock_model.specs.Holds.{NotHeld}
use Rattle.lock_model.specs.Limits.{most_held}
use Rattle.lock_model.specs.Operations.{hold_in}
use Rattle.lock_model.specs.declared.plan.Kind.TheVariants.{Rw}
use Rattle.floor_table.specs.Descriptions.{config_in}
use Rattle.floor_table.specs.declared.description.Description.{Description}
use Rattle.floor_table.specs.Views.{Knowledge}

-- the lock is one of the floor's reader-writer locks
pub record IsRwLock (floor : Description) (l : ℕ) : Type 0 where
  pub lock : l < length floor.locks
  pub kind : (config_in floor).kind l ≡ Rw

-- the thread may gain it, in either mode: it doesn't hold it, may hold one more lock, and has room for an entry
pub record MayAcquire (floor : Description) (l : ℕ) (v : Knowledge) : Type 0 where
  pub rw_lock : IsRwLock floor l
  pub unheld : hold_in v.share.held l ≡ NotHeld
  pub few : length v.share.held < most_held
  pub room : 1 ≤ v.spare

-- it may release it: it holds it, in some mode, and has room for an entry
pub record MayRelease (floor : Description) (l : ℕ) (v : Knowledge) : Type 0 where
  pub rw_lock : IsRwLock floor l
  pub held : hold_in v.share.held l ≢ NotHeld
  pub room : 1 ≤ v.spare
