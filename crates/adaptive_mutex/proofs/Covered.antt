-- A mutex is one of the locks for which the calls of locks are there, exclusively.
use Rattle.std.proofs.Common.{◌≡◌, ℕ, true, refl, ap}
use Rattle.lock_model.specs.Words.{is_turnstile}
use Rattle.lock_model.specs.declared.plan.Mode.TheVariants.{Excl}
use Rattle.floor_table.specs.Descriptions.{config_in}
use Rattle.floor_table.specs.declared.description.Description.{Description}
use Rattle.floor_table.specs.Views.{Knowledge}
use Rattle.lock_calls.specs.Steps.{IsMutex, IsCovered}
use Rattle.lock_calls.specs.Steps as calls
use Rattle.adaptive_mutex.specs.Mutexes.{MayAcquire, MayRelease}

covered : (floor : Description) (l : ℕ) → IsMutex floor l → IsCovered floor l Excl
covered floor l m = record { lock = m.lock; mutex = λ e. refl }

pub may_take : (floor : Description) (l : ℕ) (v : Knowledge) → MayAcquire floor l v → calls.MayTake floor l Excl v
may_take floor l v m = assumption (covered floor l m.mutex, m)

pub may_release : (floor : Description) (l : ℕ) (v : Knowledge) → MayRelease floor l v
    → calls.MayRelease floor l Excl v
may_release floor l v m = assumption (covered floor l m.mutex, m)

pub has_turnstile : (floor : Description) (l : ℕ) → IsMutex floor l → is_turnstile ((config_in floor).kind l) ≡ true
has_turnstile floor l m = ap is_turnstile m.kind

-- what the calls of locks need, by what those of mutexes do
pub ruleset needs = (may_take, may_release, has_turnstile)
