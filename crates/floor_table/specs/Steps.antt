-- What the threads of a floor do: each makes steps of `lock_state`, under what the floor asks beside.
use Rattle.std.specs.Prelude.{◌≡◌, ℕ, ◌<◌, List, [], ◌∷◌, length, Some}
use Rattle.std.specs.List.{All}
use mathlib.Core.Option.{some}
use Rattle.floor_table.specs.Descriptions.{config_in, IsSized}
use Rattle.floor_table.specs.declared.description.Description.{Description}
use Rattle.lock_state.specs.State.{State}
use Rattle.lock_state.specs.Facts.{LawfulFloor, Ordered, Taken, Counted, Explained}
use Rattle.lock_state.specs.Steps.{Step, EachStep, after_all, maker}
use Rattle.lock_state.specs.Steps.Items.{Item, item_with}
use Rattle.lock_laws.specs.Rounds.{LawfulRounds}
use Rattle.lock_laws.specs.Signals.{TurnstilesSignal}
use Rattle.sleep_laws.specs.Sleepers.{SleepersFit, by_chain}
use Rattle.busy_laws.specs.Holders.{BusyWordsFit}
use Rattle.floor_table.specs.declared.slot.Slot.{Slot}
use Rattle.floor_table.specs.Past.{LeadsTo, IsAllowed, IsSeenBy, past_with}
use Rattle.floor_table.specs.Places.{slot_of}
use Rattle.floor_table.specs.Shelves.{found}
use Rattle.floor_table.specs.Views.{OfThread, Knowledge}
use Rattle.floor_table.specs.Represents.{Board, RepresentsShare, IsPosed, IsOf, Represents, objects_in, thread_in}

-- what holds of a state between two steps of threads of a floor, to which these steps led
pub record IsSound (floor : Description) (past : List Step) (s : State) : Type 0 where
  pub reached : LeadsTo floor past s
  pub facts : LawfulFloor (config_in floor) s
  pub rounds : LawfulRounds floor.chains (config_in floor) s
  pub sleepers : SleepersFit (by_chain floor.chains s) (config_in floor) s
  pub turnstiles : TurnstilesSignal (config_in floor) s
  pub ordered : Ordered (config_in floor) s
  pub taken : Taken (config_in floor) s
  pub counted : Counted (config_in floor) s
  pub explained : Explained (config_in floor) s
  pub busy_words : BusyWordsFit (config_in floor) s

-- each of the steps may be made by a thread of a floor, where it comes
abbrev pub FitAll : Description → State → List Step → Type 0
FitAll floor s steps = EachStep (IsAllowed floor) (config_in floor) s steps

-- 1. What a thread knows of the state

-- it has out what its seat has, which says what the columns say, and nothing else
pub record HasJust (floor : Description) (out : List (ℕ × Slot)) (s : State) (t : ℕ) : Type 0 where
  pub each : (i : Item) (j : ℕ) (x : Slot) → slot_of floor i ≡ Some j → found j out ≡ some x
      → (item_with s i ≡ Some t) × IsOf floor (objects_in s) i x
  pub no_other : (i : Item) → item_with s i ≡ Some t
      → (j : ℕ) × (slot_of floor i ≡ Some j) × ((x : Slot) × (found j out ≡ some x))

-- The state is one of which a thread's seat may know what it knows: others' steps led to it from the one behind all
-- steps that the seat has seen. The floor fits a table.
pub record Fits (floor : Description) (v : Knowledge) (s : State) : Type 0 where
  pub sized : IsSized floor
  pub past : List Step
  pub sound : IsSound floor past s
  pub seen : IsSeenBy v.thread v.seen past
  pub thread : v.thread < length floor.threads
  pub share : RepresentsShare v.share s v.thread
  pub out : HasJust floor v.out s v.thread
  pub pose : IsPosed v.pose (s.wait v.thread) (s.blocked_on v.thread)

-- whatever the state is, if something holds of it, the thread may make the steps
abbrev pub MayMake : Description → Knowledge → (State → Type 0) → List Step → Type 0
MayMake floor v premise steps =
    (s : State) → Fits floor v s → premise s → FitAll floor s steps

-- 2. What it did

-- The thread made the steps, all its own, on the one table, of which all steps so far are `past`: the ones that its
-- seat had seen, and then others' steps. The table represented the state to which these lead, in which the thread may
-- make its steps, and then it represented the state behind them; the seat has seen them, and nobody made one in
-- between.
pub record Makes (floor : Description) (steps : List Step) (old new : Knowledge) : Type 0 where
  pub role : old.role ≡ OfThread
  pub role_behind : new.role ≡ OfThread
  pub past : List Step
  pub since : IsSeenBy old.thread old.seen past
  pub own : All (λ step. maker step ≡ old.thread) steps
  pub seen : new.seen ≡ past_with past steps
  pub before : Board
  pub behind : Board
  pub state : State
  pub sound : IsSound floor past state
  pub represents : Represents floor before state
  pub may : FitAll floor state steps
  pub represents_behind : Represents floor behind (after_all (config_in floor) state steps)
  pub was : thread_in before.views old.thread ≡ old
  pub is : thread_in behind.views old.thread ≡ new

-- The same of a call that makes several atomic steps, each on the table that it finds: in between other threads make
-- theirs. Of each atomic step it says which steps of `lock_state` that one is.
abbrev pub MakesEach : Description → List (List Step) → Knowledge → Knowledge → Type 0
MakesEach floor [] old new = old ≡ new
MakesEach floor (steps ∷ more) old new =
    (between : Knowledge) × Makes floor steps old between × MakesEach floor more between new
