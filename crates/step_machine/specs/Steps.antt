-- What a method of a machine promises: where the objects represent a lawful state in which a step may be made, they
-- represent the state behind it.
use Rattle.std.specs.Prelude.{◌≡◌, ℕ, ◌<◌, ◌==◌, if◌then◌else◌, List, [], ◌∷◌, length, slice_get, option_map, Option, IfSome}
use Rattle.lock_model.specs.Config.{Config}
use Rattle.lock_state.specs.State.{State}
use Rattle.lock_state.specs.Facts.{Lawful}
use Rattle.lock_model.specs.Holds.{Hold, NotHeld, Holds}
use Rattle.lock_model.specs.Operations.{hold_in, without_lock}
use Rattle.lock_model.specs.Words.{is_turnstile}
use Rattle.lock_state.specs.Steps.{Step, Stamps, Enters, EntersSleepQueue, Opens, OpensSleepQueue, Refuses, May as MayMake, MayAll, after, after_all}
use Rattle.lock_state.specs.Steps.Orders.{classes_held}
use Rattle.witness_orders.specs.Graph.{numbers_of}
use Rattle.lock_model.specs.declared.numbers.ClassNo.{ClassNo}
use Rattle.lock_model.specs.declared.numbers.LockNo.{LockNo}
use Rattle.lock_model.specs.declared.plan.Kind.{Kind}
use Rattle.lock_model.specs.declared.plan.Mode.{Mode}
use Rattle.lock_model.specs.declared.event.Event.{Event}
use Rattle.lock_model.specs.declared.event.Event.TheVariants.{Reversed}
use Rattle.lock_model.specs.declared.event.Held.{Held}
use Rattle.step_machine.specs.declared.thread.Thread.{Thread}
use Rattle.lock_history.specs.Books.{HasRoom}
use Rattle.step_machine.specs.declared.machine.Machine.{Machine}
use Rattle.step_machine.specs.Represents.{Represents}

-- 1. Steps

-- the machine represents a lawful state in which the step may be made
abbrev pub May : Machine → (Config → State → Type 0) → Type 0
May m guard = (c : Config) × (s : State) × Represents c m s × Lawful c s × guard c s

-- whatever lawful state it represented in which the step may be made, it represents the state behind it
abbrev pub Makes : Machine → Machine → Step → Type 0
Makes old new step = (c : Config) (s : State) → Represents c old s → Lawful c s
    → MayMake c s step → Represents c new (after c s step)

-- the same where something holds of the configuration and the state
abbrev pub MakesWhere : (Config → State → Type 0) → Machine → Machine → Step → Type 0
MakesWhere premise old new step = (c : Config) (s : State) → premise c s → Represents c old s
    → Lawful c s → MayMake c s step → Represents c new (after c s step)

-- the same of steps in a row, where something holds of the configuration
abbrev pub MakesAllWhere : (Config → Type 0) → Machine → Machine → List Step → Type 0
MakesAllWhere premise old new steps = (c : Config) (s : State) → premise c → Represents c old s
    → Lawful c s → MayAll c s steps → Represents c new (after_all c s steps)

-- the step by which a thread goes to stand on the queue of a lock of that kind, with its own object x,
abbrev pub enters : Kind → ℕ → ℕ → Mode → ℕ → Step
enters kind t l mode x =
    if is_turnstile kind then Enters t l mode x else EntersSleepQueue t l mode x

-- and the one by which it opens such a lock
abbrev pub opens : Kind → ℕ → ℕ → Mode → Step
opens kind t l mode =
    if is_turnstile kind then Opens t l mode else OpensSleepQueue t l mode

-- the steps by which a lock is refused to a thread, for the class of one that it holds
abbrev pub refuses : ℕ → LockNo → ClassNo → List Step
refuses t l held = Refuses t l.0 held.0 ∷ Stamps t (Reversed l held) ∷ []

-- the classes of the locks that a thread holds, in order of acquisition, and that of the lock
pub record AreClasses (c : Config) (held : List ClassNo) (class : ClassNo) (s : State) (t l : ℕ) : Type 0
  where
    pub held_are : numbers_of held ≡ classes_held c s t
    pub class_is : class.0 ≡ c.class l

-- 2. What no column tells: each thread's next operation, the list of what it holds in order of acquisition, and the
-- mode in which it held the lock that it released last

pub record Progress : Type 0 where
  pub next_op : ℕ
  pub held : List Held
  pub left : Mode

abbrev pub progress_of : Thread → Progress
progress_of th = record { next_op = th.next_op; held = th.held.items; left = th.left }

-- of one thread
abbrev pub progress : Machine → ℕ → Option Progress
progress m t = option_map progress_of (slice_get m.threads.items t)

-- this of all threads stays
abbrev pub KeepsProgress : Machine → Machine → Type 0
KeepsProgress old new = (u : ℕ) → progress new u ≡ progress old u

-- that of one thread changes, and that of the others stays
abbrev pub ChangesProgress : Machine → Machine → ℕ → (Progress → Progress) → Type 0
ChangesProgress old new t f = (u : ℕ)
    → progress new u ≡ (if u == t then option_map f (progress old u) else progress old u)

-- the mode that is left by the release of a lock that is held so
abbrev pub mode_left : Hold → Mode → Mode
mode_left NotHeld left = left
mode_left (Holds mode) left = mode

-- it has released the lock
abbrev pub with_released : ℕ → Progress → Progress
with_released l a = record a {
  held = without_lock l a.held;
  left = mode_left (hold_in a.held l) a.left;
}

-- fewer locks than a thread may hold
abbrev pub HoldsFew : Machine → ℕ → Type 0
HoldsFew m t = IfSome (progress m t) (λ a. length a.held < 8)

-- 3. Room

-- no entry is made, and no table changes
pub record KeepsBooks (old new : Machine) : Type 0 where
  pub log : new.log ≡ old.log
  pub tables : new.tables ≡ old.tables

-- there is room for the key that an event edits
abbrev pub HasKey : Machine → Event → Type 0
HasKey m event = HasRoom m.tables.places event
