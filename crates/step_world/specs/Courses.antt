-- A run under way, as the schedule keeps it.
use Rattle.std.specs.Prelude.{◌≡◌, ◌⊎◌, ℕ, ◌<◌, Bool, true, not, ◌&&◌, nat_lt, List, [], length, option_map, Option}
use Rattle.std.specs.List.{All}
use Rattle.lock_model.specs.Counts.{has_bit}
use Rattle.lock_model.specs.Operations.{IsProper}
use Rattle.lock_state.specs.Run as run
use Rattle.lock_state.specs.Run.{Run, has_ended}
use Rattle.lock_model.specs.declared.numbers.ThreadNo.{ThreadNo}
use Rattle.lock_model.specs.declared.plan.Plan.{Plan}
use Rattle.lock_model.specs.declared.turn.Turn.{Turn}
use Rattle.lock_model.specs.declared.turn.Turn.TheVariants.{Idle, Ended}
use Rattle.run_laws.specs.OnTrack.{IsSleeping}
use Rattle.step_world.specs.Sets.{members}
use Rattle.step_world.specs.Worlds.{World, Represents}

-- 1. What a course is seen as

-- its world, who still comes in the schedule or in this round, and whether this is a round whose turns were all idle so
-- far
pub record Course : Type 0 where
  pub world : World
  pub coming : List ℕ
  pub idle : Bool

-- It is the definition's: its world represents the run, and the same threads still come.
pub record IsCourse (course : Course) (k : run.Course) : Type 0 where
  pub shows : Represents course.world k.run
  pub coming : k.coming ≡ course.coming
  pub idle : k.idle ≡ course.idle

-- whether it is a thread of the plan that hasn't ended
abbrev pub is_going : Plan → Run → ℕ → Bool
is_going plan r t = nat_lt t (length plan.threads) && not (has_ended plan r t)

-- a thread of the plan that sleeps, in whatever run the world represents
pub record Sleeps (world : World) (t : ℕ) : Type 0 where
  pub thread : t < length world.plan.threads
  pub sleeping : (r : Run) → Represents world r → IsSleeping world.plan r t

-- What is true of each course: it is of some run of a proper plan; one set has who hasn't ended, and each of another
-- sleeps; the plan's threads come, and those of a round only once the schedule is through.
pub record IsSound (world : World) (schedule : List ThreadNo) (round going asleep : ℕ) : Type 0 where
  pub proper : IsProper world.plan
  pub run : (r : Run) × Represents world r
  pub going_are : (r : Run) (t : ℕ) → Represents world r
      → has_bit t going ≡ is_going world.plan r t
  pub sleep : (t : ℕ) → has_bit t asleep ≡ true → Sleeps world t
  pub scheduled : All (λ t. t.0 < length world.plan.threads) schedule
  pub threads : All (λ t. t < length world.plan.threads) (members round)
  pub in_turn : (members round ≡ []) ⊎ (schedule ≡ [])

-- 2. Turns

-- a turn that was made, as the definition has it
abbrev pub turn_seen : Option (ThreadNo × Turn) → Option (ℕ × Turn)
turn_seen = option_map (λ made. (made.0.0, made.1))

-- 3. What a call promises

-- whatever course of the definition it is, what is said of it is so
abbrev pub Tells : {A : Type 0} → Course → A → (Plan → run.Course → A) → Type 0
Tells course result f = (k : run.Course) → IsCourse course k → result ≡ f course.world.plan k

-- and it goes on to that one
abbrev pub GoesTo : Course → Course → (Plan → run.Course → run.Course) → Type 0
GoesTo old new f = (k : run.Course) → IsCourse old k → IsCourse new (f old.world.plan k)

-- where the turn's answer is that the thread is idle or has ended, the world has stayed as it is
abbrev pub KeepsWhereIdle : Turn → Course → Course → Type 0
KeepsWhereIdle answer old new = (answer ≡ Idle) ⊎ (answer ≡ Ended) → new.world ≡ old.world
