-- What the calls of sx locks need.
use Rattle.std.specs.Prelude.{◌≡◌, ◌≢◌, ℕ, ◌<◌, ◌≤◌, true, length}
use Rattle.lock_model.specs.Holds.{NotHeld}
use Rattle.lock_model.specs.Limits.{most_held}
use Rattle.lock_model.specs.Operations.{hold_in}
use Rattle.lock_model.specs.Words.{is_turnstile}
use Rattle.lock_model.specs.declared.plan.Kind.TheVariants.{Sx}
use Rattle.floor_table.specs.Descriptions.{config_in}
use Rattle.floor_table.specs.declared.description.Description.{Description}
use Rattle.floor_table.specs.Views.{Knowledge}

-- the lock is one of the floor's sx locks
pub record IsSxLock (floor : Description) (l : ℕ) : Type 0 where
  pub lock : l < length floor.locks
  pub kind : (config_in floor).kind l ≡ Sx

-- The thread may gain it, in either mode: it doesn't hold it, may hold one more lock, and has room for an entry. It
-- holds no mutex and no reader-writer lock: these may not be held over a sleep without bound (locking(9))
pub record MayAcquire (floor : Description) (l : ℕ) (v : Knowledge) : Type 0 where
  pub sx_lock : IsSxLock floor l
  pub unheld : hold_in v.share.held l ≡ NotHeld
  pub few : length v.share.held < most_held
  pub room : 1 ≤ v.spare
  pub sleepable : (k : ℕ) → is_turnstile ((config_in floor).kind k) ≡ true
      → hold_in v.share.held k ≡ NotHeld

-- it may release it: it holds it, in some mode, and has room for an entry
pub record MayRelease (floor : Description) (l : ℕ) (v : Knowledge) : Type 0 where
  pub sx_lock : IsSxLock floor l
  pub held : hold_in v.share.held l ≢ NotHeld
  pub room : 1 ≤ v.spare
