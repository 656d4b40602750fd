-- What a world is seen as, and which run of its plan it represents.
use Rattle.std.specs.Prelude.{ℕ, ◌≤◌, List, [], ◌∷◌, Option, Some, None}
use Rattle.lock_model.specs.Operations.{IsProper}
use Rattle.lock_model.specs.Queues.{Mark}
use Rattle.lock_state.specs.Run.{Run}
use Rattle.lock_model.specs.declared.plan.Plan.{Plan}
use Rattle.step_machine.specs.declared.machine.Machine.{Machine}
use Rattle.wait_objects.specs.Seen.{Place}
use Rattle.step_world.specs.Runs.{IsRunOf}

-- the plan that it runs, the number of chains, and its objects
pub record World : Type 0 where
  pub plan : Plan
  pub chains : ℕ
  pub machine : Machine

-- the world represents the run, which is on track: so its state is lawful
abbrev pub Represents : World → Run → Type 0
Represents w r = IsRunOf w.plan w.machine r

-- what is true of each world: its plan is proper, and it represents a run on track
pub record IsSound (w : World) : Type 0 where
  pub proper : IsProper w.plan
  pub some_chains : 1 ≤ w.chains
  pub few_chains : w.chains ≤ 64
  pub run : (r : Run) × Represents w r

-- the thread that is the first of a marked list
abbrev pub first_marked : List Mark → Option ℕ
first_marked [] = None
first_marked (m ∷ ms) = Some m.thread

-- and that of the first place
abbrev pub first_thread : List Place → Option ℕ
first_thread [] = None
first_thread (p ∷ ps) = Some p.thread
