-- Plans whose threads take their locks in the order in which these are declared. No take of them is refused, and their
-- runs are never stuck.
use Rattle.std.specs.Prelude.{◌≡◌, ℕ, ◌<◌, Bool, true, false, length, slice_get, Some}
use Rattle.std.specs.List.{All}
use Rattle.lock_model.specs.Plans.{operations_of, lock_class}
use Rattle.lock_model.specs.Operations.{of_locks, held_of}
use Rattle.lock_model.specs.declared.numbers.LockNo.{LockNo}
use Rattle.lock_model.specs.declared.plan.Mode.{Mode}
use Rattle.lock_model.specs.declared.plan.Op.{Op}
use Rattle.lock_model.specs.declared.plan.Op.TheVariants.{Take}
use Rattle.lock_model.specs.declared.plan.OfLocks.{OfLocks}
use Rattle.lock_model.specs.declared.plan.OfLocks.TheVariants.{NoLock, Acquires, ClosesBlock, Releases, EditsAt, ReadsAt, SleepsOn, WakesOn}
use Rattle.lock_model.specs.declared.plan.Plan.{Plan}

-- whether an operation is a wait or a try
abbrev pub sleeps_or_tries : OfLocks → Bool
sleeps_or_tries NoLock = false
sleeps_or_tries (Acquires h) = h.by_try
sleeps_or_tries ClosesBlock = false
sleeps_or_tries (Releases l) = false
sleeps_or_tries (EditsAt l key) = false
sleeps_or_tries (ReadsAt l key) = false
sleeps_or_tries (SleepsOn c) = true
sleeps_or_tries (WakesOn c) = false

abbrev pub waits_or_tries : Op → Bool
waits_or_tries op = sleeps_or_tries (of_locks op)

-- There is no wait and no try, each lock has a class of its own, and each take's lock is declared behind every lock
-- that its thread holds there.
pub record IsOrdered (plan : Plan) : Type 0 where
  pub no_wait_nor_try : (t n : ℕ) (op : Op) → slice_get (operations_of plan t) n ≡ Some op
      → waits_or_tries op ≡ false
  pub own_classes : (l k : ℕ) → l < length plan.locks → k < length plan.locks
      → lock_class plan l ≡ lock_class plan k → l ≡ k
  pub upward : (t n : ℕ) (l : LockNo) (mode : Mode)
      → slice_get (operations_of plan t) n ≡ Some (Take l mode)
      → All (λ h. h.l.0 < l.0) (held_of (operations_of plan t) n)
