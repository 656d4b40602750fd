-- An sx lock is one of the locks for which the calls of locks are there, in both modes.
use Rattle.std.proofs.Common.{◌≡◌, ℕ, refl, sym, ◌∙◌}
use Rattle.lock_model.specs.Holds.{Hold, NotHeld, Holds}
use Rattle.lock_model.specs.Operations.{hold_in}
use Rattle.lock_model.specs.declared.plan.Kind.TheVariants.{Mtx, Sx}
use Rattle.lock_model.specs.declared.plan.Mode.{Mode}
use Rattle.floor_table.specs.declared.description.Description.{Description}
use Rattle.floor_table.specs.Views.{Knowledge}
use Rattle.lock_calls.specs.Steps.{IsCovered}
use Rattle.lock_calls.specs.Steps as calls
use Rattle.sx_lock.specs.SxLocks.{IsSxLock, MayAcquire, MayRelease}

covered : (floor : Description) (l : ℕ) (mode : Mode) → IsSxLock floor l → IsCovered floor l mode
covered floor l mode m = record {
  lock = m.lock;
  mutex = λ e. absurd (let z : Sx ≡ Mtx = sym m.kind ∙ e in cc);
}

pub may_take : (floor : Description) (l : ℕ) (mode : Mode) (v : Knowledge) → MayAcquire floor l v
    → calls.MayTake floor l mode v
may_take floor l mode v m = assumption (covered floor l mode m.sx_lock, m)

pub may_release : (floor : Description) (l : ℕ) (mode : Mode) (v : Knowledge) → MayRelease floor l v
    → Holds mode ≡ hold_in v.share.held l → calls.MayRelease floor l mode v
may_release floor l mode v m is = assumption (covered floor l mode m.sx_lock, sym is, m)

-- so in some mode
pub may_release_held : (floor : Description) (l : ℕ) (v : Knowledge) → MayRelease floor l v
    → (mode : Mode) × calls.MayRelease floor l mode v
may_release_held floor l v m = go (hold_in v.share.held l) refl
  where
    go : (h : Hold) → hold_in v.share.held l ≡ h → (mode : Mode) × calls.MayRelease floor l mode v
    go NotHeld is = absurd (m.held is)
    go (Holds mode) is = (mode, may_release floor l mode v m (sym is))
