-- What the floor is made for, and what each thread knows between two parts.
use Rattle.std.specs.Prelude.{◌≡◌, ℕ, ◌≤◌, ◌<◌, false, [], ◌∷◌, length}
use Rattle.lock_model.specs.Operations.{without_lock}
use Rattle.lock_model.specs.declared.numbers.LockNo.{LockNo}
use Rattle.floor_table.specs.Descriptions.{IsSized, room_for}
use Rattle.floor_table.specs.declared.description.Description.{Description}
use Rattle.floor_table.specs.Views.{Knowledge}
use Rattle.lock_floor.specs.declared.calls.ReleaseAt.TheVariants.{Wakes}
use Rattle.lock_floor.specs.Floors.{Floor, Pass}
use Rattle.lock_floor.specs.Passes.{IsOf, IsReady}
use Rattle.lock_calls.specs.declared.answers.Next.{Next}
use Rattle.lock_calls.specs.declared.answers.Next.TheVariants.{Done, Again, Sleep, Wake, Reversed, Halted}
use Rattle.lock_calls.specs.Releases.{IsInRelease}
use Rattle.lock_calls.specs.Takes.{IsInTake}
use Rattle.adaptive_mutex.specs.Mutexes.{IsMutex, as_held}
use Rattle.example_parts.specs.declared.Stage.{Stage}
use Rattle.example_parts.specs.declared.Stage.TheVariants.{Begins, Takes, Works, Releases, Rests}
use Rattle.example_parts.specs.declared.Thread.{Thread}

-- two threads with room for two entries each, a mutex, and one chain of each sort
pub record IsForTwo (floor : Description) : Type 0 where
  pub sized : IsSized floor
  pub threads : length floor.threads ≡ 2
  pub room : (t : ℕ) → t < 2 → room_for floor t ≡ 2
  pub mutex : IsMutex floor 0
  pub one_chain : floor.chains ≡ 1

abbrev pub the_mutex : LockNo
the_mutex = record { 0 = 0 }

-- a thread that is yet to take the mutex holds nothing, and has room for its entries
pub record IsBeginning (f : Floor Description) (p : Pass Knowledge) : Type 0 where
  pub ready : IsReady f p
  pub unheld : p.view.share.held ≡ []
  pub room : 2 ≤ p.view.spare

-- so does one that is in the middle of the take
pub record IsTaking (f : Floor Description) (p : Pass Knowledge) : Type 0 where
  pub own : IsOf f p
  pub under_way : IsInTake f.description p
  pub lock : under_way.l ≡ the_mutex
  pub unheld : p.view.share.held ≡ []
  pub room : 2 ≤ p.view.spare

-- one that works holds the mutex alone, and has room for an entry
pub record IsWorking (f : Floor Description) (p : Pass Knowledge) : Type 0 where
  pub ready : IsReady f p
  pub held : p.view.share.held ≡ as_held the_mutex false ∷ []
  pub room : 1 ≤ p.view.spare

-- one in the middle of the release holds nothing but the mutex, and nothing once that is free
pub record IsReleasing (f : Floor Description) (p : Pass Knowledge) : Type 0 where
  pub own : IsOf f p
  pub under_way : IsInRelease f.description p
  pub lock : under_way.l ≡ the_mutex
  pub alone : without_lock 0 p.view.share.held ≡ []
  pub gone : under_way.at ≡ Wakes → p.view.share.held ≡ []

-- one that rests holds nothing
pub record IsResting (f : Floor Description) (p : Pass Knowledge) : Type 0 where
  pub ready : IsReady f p
  pub unheld : p.view.share.held ≡ []

-- so by its stage
abbrev pub Knows : Floor Description → Stage → Pass Knowledge → Type 0
Knows f Begins p = IsBeginning f p
Knows f Takes p = IsTaking f p
Knows f (Works left) p = IsWorking f p
Knows f Releases p = IsReleasing f p
Knows f Rests p = IsResting f p

abbrev pub IsThread : Floor Description → Thread → Type 0
IsThread f thread = Knows f thread.stage thread.pass

-- an answer that refuses nothing: a thread that holds nothing gets no other of a mutex
abbrev pub IsAdmitted : Next → Type 0
IsAdmitted Done = Unit {0}
IsAdmitted Again = Unit {0}
IsAdmitted Sleep = Unit {0}
IsAdmitted (Wake t) = Unit {0}
IsAdmitted (Reversed r) = ⊥
IsAdmitted Halted = ⊥

-- the stage behind a part: on, unless the call is done. A take that was refused or halted would be done too
abbrev pub behind : Next → Stage → Stage → Stage
behind Done on done = done
behind Again on done = on
behind Sleep on done = on
behind (Wake t) on done = on
behind (Reversed r) on done = done
behind Halted on done = done
