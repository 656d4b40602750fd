-- Passes as calls need them and give them.
use Rattle.std.specs.Prelude.{◌≡◌, ◌≢◌, ◌⊎◌, ℕ, ◌+◌, Bool, true, false, List, [], ◌∷◌, Option, None}
use Rattle.atomic_table.specs.Seated.{TableId}
use Rattle.lock_model.specs.Holds.{NotHeld}
use Rattle.lock_model.specs.History.{open_in}
use Rattle.lock_model.specs.Operations.{hold_in}
use Rattle.lock_model.specs.declared.event.Event.{Event}
use Rattle.lock_model.specs.declared.event.Held.{Held}
use Rattle.lock_model.specs.declared.plan.QueueName.{QueueName}
use Rattle.lock_state.specs.State.{NoWalk, Phase, Awake, Wake}
use Rattle.lock_state.specs.Steps.{Step, TakesItem, Stamps, GivesItem}
use Rattle.lock_state.specs.Steps.Items.{Item}
use Rattle.lock_state.specs.Steps.LockWords.{is_taking_back}
use Rattle.floor_table.specs.Descriptions.{config_in}
use Rattle.floor_table.specs.declared.description.Description.{Description}
use Rattle.floor_table.specs.Shares.{is_among}
use Rattle.floor_table.specs.Steps.{Makes}
use Rattle.floor_table.specs.Views.{Pose, Runs, StandsOn, Knowledge, first_view}
use Rattle.lock_floor.specs.declared.calls.Call.TheVariants as call
use Rattle.lock_floor.specs.Floors.{Floor, Pass, Keeper}
use Rattle.lock_floor.specs.Views.{entry_by}

-- the pass was made with the floor, and is not finished
pub record IsOf (f : Floor Description) (p : Pass Knowledge) : Type 0 where
  pub table : p.table ≡ f.table
  pub description : p.view.description ≡ f.description
  pub unfinished : p.finished ≡ false

-- the pass was made with the floor, and is finished
pub record IsFinished (f : Floor Description) (p : Pass Knowledge) : Type 0 where
  pub table : p.table ≡ f.table
  pub description : p.view.description ≡ f.description
  pub finished : p.finished ≡ true

-- the keeper was made with the floor
pub record IsKeeperOf (f : Floor Description) (k : Keeper) : Type 0 where
  pub table : k.table ≡ f.table
  pub description : k.view.description ≡ f.description

-- the pass of a thread as it is made: the thread holds nothing and is about nothing, and has room for its entries
abbrev pub first_pass : TableId → Description → ℕ → Pass Knowledge
first_pass table floor t =
    record { table = table; view = first_view floor t; finished = false; call = call.None }

-- awake, not ended, and with no wake to note
pub record CanStep (phase : Phase) (has_ended : Bool) (unstamped : Option Wake) : Type 0 where
  pub awake : phase ≡ Awake
  pub unended : has_ended ≡ false
  pub stamped : unstamped ≡ None

-- the thread is so
abbrev pub IsGoing : Knowledge → Type 0
IsGoing v = CanStep v.share.doing.phase v.share.doing.has_ended v.share.doing.unstamped

-- where a thread isn't on its way to a queue: it runs, or came to stand on one
abbrev pub IsOffTheWay : Pose → Type 0
IsOffTheWay p = (p ≡ Runs) ⊎ ((q : QueueName) × (p ≡ StandsOn q))

-- A thread at rest: it runs, is awake and has nothing out, no walk and nobody to mark or counted in, wants no lock and
-- seeks none, remembers no look, has nothing to note and doesn't sleep in its log; the sections open in its log are of
-- just the locks that it holds, in their modes, and each began since its lock was gained.
pub record IsAtRest (floor : Description) (v : Knowledge) : Type 0 where
  pub runs : v.pose ≡ Runs
  pub nothing_out : v.out ≡ []
  pub no_walk : v.share.doing.walk ≡ NoWalk
  pub unmarked : v.share.doing.marked ≡ []
  pub uncounted : v.share.doing.counting ≡ None
  pub wants_nothing : v.share.doing.wanted ≡ None
  pub takes_nothing : v.share.doing.taking ≡ None
  pub no_round : v.share.doing.round ≡ None
  pub no_looks : v.share.doing.looks ≡ 0
  pub no_last_look : v.share.doing.last_look ≡ None
  pub unnoted : v.share.doing.noted ≡ None
  pub going : IsGoing v
  pub no_wait : is_taking_back v.share.log ≡ false
  pub sections : (l : ℕ) → open_in (config_in floor) v.share.log v.thread l ≡ hold_in v.share.held l
  pub begun : (l : ℕ) → hold_in v.share.held l ≢ NotHeld → is_among l v.share.begun ≡ true

-- A pass as most calls need it and leave it: it was made with the floor, is not finished, and its thread is at rest.
pub record IsReady (f : Floor Description) (p : Pass Knowledge) : Type 0 where
  pub own : IsOf f p
  pub rest : IsAtRest f.description p.view

-- The thread's log has one entry more, of that event, which an atomic step made, and the thread holds these locks then.
pub record MakesEntry (floor : Description) (e : Event) (locks : List Held)
    (old new : Knowledge) : Type 0 where
  pub ticket : ℕ
  pub log : new.share.log ≡ entry_by old.thread ticket e ∷ old.share.log
  pub held : new.share.held ≡ locks
  pub spare : new.spare + 1 ≡ old.spare
  pub thread : new.thread ≡ old.thread
  pub before : Knowledge
  pub behind : Knowledge
  pub of : before.thread ≡ old.thread
  pub step : Makes floor (Stamps old.thread e ∷ []) before behind
  pub log_before : before.share.log ≡ old.share.log
  pub log_behind : behind.share.log ≡ new.share.log

-- the atomic steps of an entry about an item: it is taken, used, and given back
abbrev pub with_item : ℕ → Item → Event → List (List Step)
with_item t i e = (TakesItem t i ∷ []) ∷ (Stamps t e ∷ []) ∷ (GivesItem t i ∷ []) ∷ []
