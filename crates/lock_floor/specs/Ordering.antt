-- How the order of a lock is checked behind those that a thread holds: the thread takes the class graph, and gives it
-- back with the lock admitted, or refused.
use Rattle.std.specs.Prelude.{◌≡◌, ℕ, ◌<◌, false, List, [], ◌∷◌, length, Option, Some, None}
use Rattle.std.specs.declared.alloc.Global.{Global}
use Rattle.std.specs.declared.boxed.Box.{Box}
use Rattle.lock_model.specs.History.{open_in}
use Rattle.lock_model.specs.Holds.{Holds}
use Rattle.lock_model.specs.Limits.{most_held}
use Rattle.lock_model.specs.Operations.{hold_in}
use Rattle.lock_model.specs.Orders.{HaveSameEdges, IsAdmitted, IsFirstToForbid, edges_behind}
use Rattle.lock_model.specs.declared.plan.Mode.{Mode}
use Rattle.lock_state.specs.State.{Look, OrderRefused}
use Rattle.lock_state.specs.Steps.{Step, TakesItem, Admits, Refuses}
use Rattle.lock_state.specs.Steps.Items.{ClassGraph}
use Rattle.lock_state.specs.Steps.LockWords.{is_taking_back}
use Rattle.witness_orders.specs.Graph as orders
use Rattle.witness_orders.specs.declared.orders.Orders.{Orders}
use Rattle.floor_table.specs.Descriptions.{config_in}
use Rattle.floor_table.specs.Places.{graph_place}
use Rattle.floor_table.specs.Shares.{Doing}
use Rattle.floor_table.specs.Steps.{Makes, MakesEach}
use Rattle.floor_table.specs.Views.{Knowledge, Runs, seeing}
use Rattle.floor_table.specs.declared.description.Description.{Description}
use Rattle.floor_table.specs.declared.slot.Slot.TheVariants.{Graph}
use Rattle.lock_floor.specs.Passes.{IsGoing}

-- 1. What it needs

-- The thread may check the order of a lock by a blocking call: it runs and goes on, neither wants nor takes a lock, has
-- nothing to note, isn't in a wait, is in no round and may hold one more lock, and the sections of all locks that it
-- holds are open. Where it remembers a look, that is the first exchange of this call, which missed, and it holds
-- nothing
pub record MayOrder (floor : Description) (l : ℕ) (v : Knowledge) : Type 0 where
  pub runs : v.pose ≡ Runs
  pub going : IsGoing v
  pub wants_nothing : v.share.doing.wanted ≡ None
  pub takes_nothing : v.share.doing.taking ≡ None
  pub unnoted : v.share.doing.noted ≡ None
  pub no_wait : is_taking_back v.share.log ≡ false
  pub no_round : v.share.doing.round ≡ None
  pub few : length v.share.held < most_held
  pub sections : (k : ℕ) → open_in (config_in floor) v.share.log v.thread k ≡ hold_in v.share.held k
  pub missed : (look : Look) → v.share.doing.last_look ≡ Some look
      → (look.lock ≡ l) × (v.share.held ≡ [])

-- it has the class graph out, and nothing else, which has the class of each lock; and it holds locks of the floor
pub record HasGraph (floor : Description) (v : Knowledge) : Type 0 where
  pub graph : Box Orders Global
  pub out : v.out ≡ (graph_place floor, Graph graph) ∷ []
  pub classes : (k : ℕ) → k < length floor.locks → (config_in floor).class k < graph.value.classes
  pub locks : (k : ℕ) (mode : Mode) → hold_in v.share.held k ≡ Holds mode → k < length floor.locks

-- 2. What the graph says

-- by the graph no held class forbids the wanted one, and it learnt an edge from each to that; or the first held class
-- that forbids it is told, and the graph stayed
abbrev pub IsVerdict : List ℕ → ℕ → Option ℕ → orders.Graph → orders.Graph → Type 0
IsVerdict held wanted None old new =
    IsAdmitted old.edges held wanted × (new.classes ≡ old.classes)
    × HaveSameEdges new.edges (edges_behind old.edges held wanted)
IsVerdict held wanted (Some k) old new = IsFirstToForbid old.edges held wanted k × (new ≡ old)

-- 3. What it leaves

-- the step by which the class graph goes home: the lock is admitted, or that class forbids it
abbrev pub settles : ℕ → ℕ → Option ℕ → Step
settles t l None = Admits t l
settles t l (Some k) = Refuses t l k

-- then the lock is wanted and being taken, or its refusal is to be noted
abbrev pub doing_settled : Doing → ℕ → Option ℕ → Doing
doing_settled x l None = record x { wanted = Some l; taking = Some l }
doing_settled x l (Some k) = record x { noted = Some (OrderRefused l k) }

abbrev pub settled : Knowledge → ℕ → Option ℕ → Knowledge
settled v l against =
    let after : Doing = doing_settled v.share.doing l against in
    record v { share = record v.share { doing = after } }

-- the thread gave the class graph back so, and has nothing out then
pub record Settles (floor : Description) (l : ℕ) (against : Option ℕ) (old new : Knowledge) :
    Type 0 where
  pub view : new ≡ seeing new.seen (record (settled old l against) { out = [] })
  pub step : Makes floor (settles old.thread l against ∷ []) old new

-- the atomic steps of a check
abbrev pub checks : ℕ → ℕ → Option ℕ → List (List Step)
checks t l against = (TakesItem t ClassGraph ∷ []) ∷ (settles t l against ∷ []) ∷ []

-- the thread took the class graph, and gave it back so
pub record ChecksOrder (floor : Description) (l : ℕ) (against : Option ℕ) (old new : Knowledge) :
    Type 0 where
  pub view : new ≡ seeing new.seen (settled old l against)
  pub steps : MakesEach floor (checks old.thread l against) old new
