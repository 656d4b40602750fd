-- Runs of ordered plans: each take is of a lock that is declared behind all that its thread holds, and nobody sleeps
-- on a channel.
use Rattle.std.specs.Prelude.{◌≡◌, ℕ, ◌<◌, Bool, true, false, ◌&&◌, ◌||◌, ◌==◌, List, [], ◌∷◌, Option, Some}
use Rattle.lock_model.specs.Config.{Config}
use Rattle.lock_model.specs.Counts.{any_below}
use Rattle.lock_model.specs.Events.{of_sleep, is_falling}
use Rattle.lock_model.specs.Holds.{Holds}
use Rattle.lock_model.specs.Orders.{IsEdge}
use Rattle.lock_model.specs.Takes.{has_reversal}
use Rattle.lock_model.specs.declared.numbers.ChanNo.{ChanNo}
use Rattle.lock_model.specs.declared.plan.Mode.{Mode}
use Rattle.lock_model.specs.declared.event.Event.TheVariants.{Sleeps}
use Rattle.lock_model.specs.declared.event.Entry.{Entry}
use Rattle.lock_state.specs.State.{State, Note, OrderRefused}
use Rattle.lock_state.specs.Steps.{Step, Stamps, Admits, Refuses}

-- 1. What is asked of locks and steps

-- each lock has a class of its own
abbrev pub HaveOwnClasses : Config → Type 0
HaveOwnClasses c =
    (l k : ℕ) → l < c.locks → k < c.locks → c.class l ≡ c.class k → l ≡ k

-- each lock that the thread holds is declared before the lock
abbrev pub HoldsBelow : State → ℕ → ℕ → Type 0
HoldsBelow s t l = (k : ℕ) (mode : Mode) → s.held t k ≡ Holds mode → k < l

-- a step checks the order of a lock for its thread
pub data Checks : Step → ℕ → ℕ → Type 0 where
  admits : (t l : ℕ) → Checks (Admits t l) t l
  refuses : (t l k : ℕ) → Checks (Refuses t l k) t l

-- a step is one of a thread of an ordered plan: it takes upward, and doesn't go to sleep
pub record IsOfOrderedPlan (s : State) (step : Step) : Type 0 where
  pub upward : (t l : ℕ) → Checks step t l → HoldsBelow s t l
  pub stays_awake : (t : ℕ) (d : ChanNo) → step ≡ Stamps t (Sleeps d) → ⊥

-- 2. The facts

-- whether the one class is that of a lock, and the other that of a lock declared behind it
abbrev pub goes_up : Config → ℕ → ℕ → Bool
goes_up c a b =
    any_below c.locks (λ l. c.class l == b && any_below l (λ k. c.class k == a))

-- so does each edge of the class graph
unfoldable pub EdgesGoUp : Config → List (ℕ × ℕ) → Type 0
EdgesGoUp c edges = (a b : ℕ) → IsEdge edges a b → goes_up c a b ≡ true

-- no refusal is still to be noted
unfoldable pub NothingIsRefused : (ℕ → Option Note) → Type 0
NothingIsRefused noted = (t l k : ℕ) → noted t ≡ Some (OrderRefused l k) → ⊥

-- whether an entry begins a sleep on a channel
abbrev pub has_sleep : List Entry → Bool
has_sleep [] = false
has_sleep (e ∷ es) = is_falling (of_sleep e.event) || has_sleep es

-- a state whose threads took upward and never slept: no take was refused
pub record IsUpward (c : Config) (s : State) : Type 0 where
  pub edges_go_up : EdgesGoUp c s.edges
  pub nothing_is_refused : NothingIsRefused s.noted
  pub unrefused : has_reversal s.history ≡ false
  pub unslept : has_sleep s.history ≡ false
