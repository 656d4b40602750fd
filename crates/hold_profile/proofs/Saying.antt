-- What an event says of a lock, by what is counted of the lock.
use Rattle.std.proofs.Common.{◌≡◌, ℕ, ◌+◌, Bool, true, false, ◌&&◌, eqb, Option, Some, None, refl, sym, arith}
use Rattle.lock_model.specs.Counts.{one}
use Rattle.lock_model.specs.Events.{OfSection, NoSection, BeginsIn, EndsFrom, LeftFor, TakenBack, OfTake, NoTake, GainedBy, FoundBusy, HaltedFor, RefusedBy, facets, lock_facet, lock_missed, is_of_section, is_in_vain}
use Rattle.lock_model.specs.History.{ends, sleeps_with, is_ended, is_left}
use Rattle.lock_model.specs.Plans.{config_of}
use Rattle.lock_model.specs.declared.numbers.LockNo.{LockNo}
use Rattle.lock_model.specs.declared.event.Event.{Event}
use Rattle.lock_model.specs.declared.plan.Plan.{Plan}
use Rattle.lock_model.proofs.Facets.{agree}
use Rattle.hold_profile.specs.AtLocks.{at_lock, counted}
use Rattle.hold_profile.specs.Sections.{lock_begun, begins}
use Rattle.hold_profile.specs.Profiles.{is_busy, is_halted, finds_busy, is_halted_at}
use Rattle.hold_profile.specs.declared.events.AtLock.{AtLock}
use Rattle.hold_profile.specs.declared.events.AtLock.TheVariants.{Begins, Ends, Leaves, FindsBusy, IsHalted}
use Rattle.hold_profile.proofs.OpenLists.{is_at}

-- 1. What is asked of it

-- whether something is counted of the lock
abbrev pub hits : (AtLock → Bool) → Option (LockNo × AtLock) → ℕ → Bool
hits f None l = false
hits f (Some p) l = f p.1 && eqb p.0.0 l

abbrev pub it_begins : AtLock → Bool
it_begins Begins = true
it_begins Ends = false
it_begins Leaves = false
it_begins FindsBusy = false
it_begins IsHalted = false

abbrev pub it_ends : AtLock → Bool
it_ends Begins = false
it_ends Ends = true
it_ends Leaves = true
it_ends FindsBusy = false
it_ends IsHalted = false

abbrev pub it_leaves : AtLock → Bool
it_leaves Begins = false
it_leaves Ends = false
it_leaves Leaves = true
it_leaves FindsBusy = false
it_leaves IsHalted = false

abbrev pub it_is_busy : AtLock → Bool
it_is_busy Begins = false
it_is_busy Ends = false
it_is_busy Leaves = false
it_is_busy FindsBusy = true
it_is_busy IsHalted = false

abbrev pub it_is_halted : AtLock → Bool
it_is_halted Begins = false
it_is_halted Ends = false
it_is_halted Leaves = false
it_is_halted FindsBusy = false
it_is_halted IsHalted = true

-- what the definitions ask of an event, by what is counted
pub record Says (plan : Plan) (e : Event) (o : Option (LockNo × AtLock)) (l : ℕ) : Type 0 where
  pub begun : is_at (begins (config_of plan) e) l ≡ hits it_begins o l
  pub ended : ends (config_of plan) e l ≡ hits it_ends o l
  pub left : sleeps_with (config_of plan) e l ≡ hits it_leaves o l
  pub busy : finds_busy e l ≡ hits it_is_busy o l
  pub halted : is_halted_at e l ≡ hits it_is_halted o l

-- and of its section and its take
record Tells (plan : Plan) (x : OfSection) (y : OfTake) (o : Option (LockNo × AtLock)) (l : ℕ) : Type 0 where
  pub begun : is_at (lock_begun (config_of plan) x) l ≡ hits it_begins o l
  pub ended : is_ended (config_of plan) x l ≡ hits it_ends o l
  pub left : is_left (config_of plan) x l ≡ hits it_leaves o l
  pub busy : is_busy y l ≡ hits it_is_busy o l
  pub halted : is_halted y l ≡ hits it_is_halted o l

-- a take that gained its lock found none busy, and wasn't halted
quiet : (y : OfTake) (l : ℕ) → is_in_vain y ≡ false → (is_busy y l ≡ false) × (is_halted y l ≡ false)
quiet NoTake l h = (refl, refl)
quiet (GainedBy k by_try) l h = (refl, refl)
quiet (FoundBusy k seen) l h = absurd cc
quiet (HaltedFor k) l h = absurd cc
quiet (RefusedBy k class) l h = absurd cc

tells_missed : (plan : Plan) (y : OfTake) (l : ℕ) → Tells plan NoSection y (counted plan (lock_missed y)) l
tells_missed plan NoTake l = record { begun = refl; ended = refl; left = refl; busy = refl; halted = refl }
tells_missed plan (GainedBy k by_try) l = record { begun = refl; ended = refl; left = refl; busy = refl; halted = refl }
tells_missed plan (FoundBusy k seen) l = record { begun = refl; ended = refl; left = refl; busy = refl; halted = refl }
tells_missed plan (HaltedFor k) l = record { begun = refl; ended = refl; left = refl; busy = refl; halted = refl }
tells_missed plan (RefusedBy k class) l = record { begun = refl; ended = refl; left = refl; busy = refl; halted = refl }

tells : (plan : Plan) (x : OfSection) (y : OfTake) (l : ℕ) → (is_of_section x && is_in_vain y) ≡ false
    → Tells plan x y (counted plan (lock_facet x y)) l
tells plan NoSection y l h = tells_missed plan y l
tells plan (BeginsIn k mode) y l h =
    record { begun = refl; ended = refl; left = refl; busy = (quiet y l h).0; halted = (quiet y l h).1 }
tells plan (EndsFrom k mode) y l h =
    record { begun = refl; ended = refl; left = refl; busy = (quiet y l h).0; halted = (quiet y l h).1 }
tells plan (LeftFor d) y l h =
    record { begun = refl; ended = refl; left = refl; busy = (quiet y l h).0; halted = (quiet y l h).1 }
tells plan (TakenBack d) y l h =
    record { begun = refl; ended = refl; left = refl; busy = (quiet y l h).0; halted = (quiet y l h).1 }

-- an event that speaks of a section speaks of no take that gained nothing
one_of_both : (a b : Bool) (m n k : ℕ) → m + (n + (one a + (one b + k))) ≡ 1 → (a && b) ≡ false
one_of_both false b m n k h = refl
one_of_both true false m n k h = refl
one_of_both true true m n k h = absurd (omega (arith, h))

pub says_of : (plan : Plan) (e : Event) (l : ℕ) → Says plan e (at_lock plan e) l
says_of plan e l =
    let r = facets e in
    let told = tells plan r.section r.take l (one_of_both _ _ _ _ _ (agree e).matters) in
    record { begun = told.begun; ended = told.ended; left = told.left; busy = told.busy; halted = told.halted }

-- 2. Which section it begins

abbrev pub begun_in : LockNo → AtLock → Option ℕ
begun_in l Begins = Some l.0
begun_in l Ends = None
begun_in l Leaves = None
begun_in l FindsBusy = None
begun_in l IsHalted = None

abbrev pub begun_of : Option (LockNo × AtLock) → Option ℕ
begun_of None = None
begun_of (Some p) = begun_in p.0 p.1

begun_missed : (plan : Plan) (y : OfTake) → begun_of (counted plan (lock_missed y)) ≡ None
begun_missed plan NoTake = refl
begun_missed plan (GainedBy k by_try) = refl
begun_missed plan (FoundBusy k seen) = refl
begun_missed plan (HaltedFor k) = refl
begun_missed plan (RefusedBy k class) = refl

begun_told : (plan : Plan) (x : OfSection) (y : OfTake)
    → lock_begun (config_of plan) x ≡ begun_of (counted plan (lock_facet x y))
begun_told plan NoSection y = sym (begun_missed plan y)
begun_told plan (BeginsIn k mode) y = refl
begun_told plan (EndsFrom k mode) y = refl
begun_told plan (LeftFor d) y = refl
begun_told plan (TakenBack d) y = refl

pub begins_is : (plan : Plan) (e : Event) → begins (config_of plan) e ≡ begun_of (at_lock plan e)
begins_is plan e = begun_told plan (facets e).section (facets e).take
