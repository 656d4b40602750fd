-- The keys of a lock's table that the operations of a plan name.
use Rattle.std.specs.Prelude.{ℕ, Bool, false, ◌&&◌, ◌==◌, Option, Some, None}
use Rattle.std.specs.List.{list_any}
use Rattle.lock_model.specs.declared.plan.Op.{Op}
use Rattle.lock_model.specs.Operations.{of_locks}
use Rattle.lock_model.specs.declared.plan.OfLocks.{OfLocks}
use Rattle.lock_model.specs.declared.plan.OfLocks.TheVariants.{NoLock, Acquires, ClosesBlock, Releases, EditsAt, ReadsAt, SleepsOn, WakesOn}
use Rattle.lock_model.specs.declared.plan.Plan.{Plan}

-- the lock and the key of its table that an operation sets, adds to or reads
abbrev pub place_at : OfLocks → Option (ℕ × ℕ)
place_at NoLock = None
place_at (Acquires h) = None
place_at ClosesBlock = None
place_at (Releases l) = None
place_at (EditsAt l key) = Some (l.0, key)
place_at (ReadsAt l key) = Some (l.0, key)
place_at (SleepsOn c) = None
place_at (WakesOn c) = None

abbrev pub place_of : Op → Option (ℕ × ℕ)
place_of op = place_at (of_locks op)

-- whether it is there, and of that lock and key
abbrev pub is_at : ℕ → ℕ → Option (ℕ × ℕ) → Bool
is_at l key None = false
is_at l key (Some place) = (place.0 == l) && (place.1 == key)

-- whether an operation names the key of the lock's table
abbrev pub op_names : ℕ → ℕ → Op → Bool
op_names l key op = is_at l key (place_of op)

-- whether some operation of the plan names it
abbrev pub plan_names : Plan → ℕ → ℕ → Bool
plan_names plan l key = list_any (λ d. list_any (op_names l key) d.ops) plan.threads
