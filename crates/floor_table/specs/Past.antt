-- The steps that the threads of a floor have made, the newest first, and how far back a seat has seen them.
use Rattle.std.specs.Prelude.{◌≡◌, ◌≢◌, ℕ, ◌<◌, ◌≤◌, List, [], ◌∷◌, ◌++◌}
use Rattle.std.specs.List.{All}
use Rattle.lock_state.specs.State.{State, start_state}
use Rattle.lock_state.specs.Steps.{Step, after, FitsFloor, KeepsToOrder, KeepsCount, maker}
use Rattle.floor_table.specs.Descriptions.{config_in}
use Rattle.floor_table.specs.declared.description.Description.{Description}
use Rattle.floor_table.specs.Represents.{keeper_in, thread_in}
use Rattle.floor_table.specs.Views.{Knowledge, OfThread}

-- what a floor asks of a step that one of its threads makes: what each running floor asks, and that the step keeps to
-- the order that was admitted and keeps the count of those that are awake
pub record IsAllowed (floor : Description) (s : State) (step : Step) : Type 0 where
  pub fits : FitsFloor floor.chains (config_in floor) s step
  pub keeps_order : KeepsToOrder (config_in floor) s step
  pub keeps_count : KeepsCount s step

-- The steps of threads of a floor that lead from the start to a state, the newest first. Each might be made where it
-- came.
pub data LeadsTo (floor : Description) : List Step → State → Type 0 where
  none : LeadsTo floor [] (start_state (config_in floor))
  more : {past : List Step} {s : State} (step : Step) → LeadsTo floor past s
      → IsAllowed floor s step
      → LeadsTo floor (step ∷ past) (after (config_in floor) s step)

-- the steps, and then those of a list, made in order
abbrev pub past_with : List Step → List Step → List Step
past_with past [] = past
past_with past (step ∷ steps) = past_with (step ∷ past) steps

-- the newest steps were made by others than a thread
abbrev pub AreOfOthers : ℕ → List Step → Type 0
AreOfOthers t steps = All (λ step. maker step ≢ t) steps

-- the steps that a seat has seen are the oldest of those that were made
pub record IsSeen (seen past : List Step) : Type 0 where
  pub later : List Step
  pub is : past ≡ later ++ seen

-- A thread has seen all steps up to its own last one: later ones are of others.
pub record IsSeenBy (t : ℕ) (seen past : List Step) : Type 0 where
  pub later : List Step
  pub is : past ≡ later ++ seen
  pub of_others : AreOfOthers t later

-- What seats have seen is of the one list of all steps: a thread's seat has seen all up to that thread's last one, and
-- the keeper's all up to the last one of each thread whose pass it took in. A thread whose pass isn't made yet has made
-- none.
pub record AreSeen (views : List Knowledge) (past : List Step) : Type 0 where
  pub keeper : IsSeen (keeper_in views).seen past
  pub thread : (t : ℕ) → (thread_in views t).role ≡ OfThread
      → IsSeenBy t (thread_in views t).seen past
  pub taken_in : (t : ℕ) → t < (keeper_in views).made → (thread_in views t).role ≢ OfThread
      → IsSeenBy t (keeper_in views).seen past
  pub unmade : (t : ℕ) → (keeper_in views).made ≤ t → AreOfOthers t past
