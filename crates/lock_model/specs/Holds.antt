-- How a thread holds a lock.
use Rattle.std.specs.Prelude.{Bool, true, false}
use Rattle.lock_model.specs.declared.plan.Mode.{Mode}
use Rattle.lock_model.specs.declared.plan.Mode.TheVariants.{Excl, Shared}

-- not at all, or in a mode
pub data Hold : Type 0 where
  NotHeld : Hold
  Holds : Mode → Hold

-- whether a lock is not held
abbrev pub is_unheld : Hold → Bool
is_unheld NotHeld = true
is_unheld (Holds mode) = false

-- whether the lock is held exclusively
abbrev pub is_exclusive : Hold → Bool
is_exclusive NotHeld = false
is_exclusive (Holds Excl) = true
is_exclusive (Holds Shared) = false
