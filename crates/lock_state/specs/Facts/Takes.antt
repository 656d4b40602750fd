-- Facts of takes: the class graph has the edges of those that are noted and of those that are in progress, and no
-- others; and each refusal has its cause.
use Rattle.std.specs.Prelude.{◌≡◌, ℕ, ◌<◌, Bool, true, false, not, ◌&&◌, ◌||◌, ◌==◌, List, Option, Some, None}
use Rattle.lock_model.specs.Config.{Config}
use Rattle.lock_model.specs.Counts.{any_below}
use Rattle.lock_model.specs.Holds.{Hold, Holds, is_unheld}
use Rattle.lock_model.specs.History.{open_in}
use Rattle.lock_model.specs.Orders.{is_edge, IsEdge, forbids}
use Rattle.lock_model.specs.Takes.{take_edges, has_open}
use Rattle.lock_state.specs.State.{Note, OrderRefused}
use Rattle.lock_state.specs.Steps.LockWords.{is_taking_back}
use Rattle.lock_model.specs.declared.plan.Mode.{Mode}
use Rattle.lock_model.specs.declared.event.Entry.{Entry}

-- only the plan's locks are held
unfoldable pub OnlyLocksAreHeld : Config → (ℕ → ℕ → Hold) → Type 0
OnlyLocksAreHeld c held = (t l : ℕ) (mode : Mode) → held t l ≡ Holds mode → l < c.locks

-- whether a thread's take, that is in progress, gave the edge: it isn't one back after a wait, and leads from another
-- lock that the thread holds
abbrev pub gives_edge : Config → Option ℕ → Bool → (ℕ → Hold) → ℕ → ℕ → Bool
gives_edge c None back held a b = false
gives_edge c (Some l) back held a b =
    c.class l == b && (not back
    && any_below c.locks (λ k. c.class k == a && (not (is_unheld (held k)) && not (k == l))))

-- the same of some thread
abbrev pub in_progress : Config → (ℕ → Option ℕ) → (ℕ → List Entry) → (ℕ → ℕ → Hold) → ℕ → ℕ
    → Bool
in_progress c taking log held a b =
    any_below c.threads (λ t. gives_edge c (taking t) (is_taking_back (log t)) (held t) a b)

-- each edge is of a take that is noted or in progress
unfoldable pub EdgesAreOfTakes : Config → List (ℕ × ℕ) → (ℕ → Option ℕ) → (ℕ → List Entry)
    → (ℕ → ℕ → Hold) → List Entry → Type 0
EdgesAreOfTakes c edges taking log held history =
    (a b : ℕ) → IsEdge edges a b
    → (is_edge (take_edges c history) a b || in_progress c taking log held a b) ≡ true

-- while a take is in progress the sections of all other held locks are open
unfoldable pub TakersAreOpen : Config → (ℕ → Option ℕ) → (ℕ → List Entry) → (ℕ → ℕ → Hold)
    → List Entry → Type 0
TakersAreOpen c taking log held history =
    (t l : ℕ) → taking t ≡ Some l → is_taking_back (log t) ≡ false
    → (k : ℕ) (mode : Mode) → held t k ≡ Holds mode → (k ≡ l → ⊥)
    → open_in c history t k ≡ Holds mode

-- a refusal that is to be noted names a class of which its thread has an open section, and which forbids that of the
-- lock
unfoldable pub RefusalsHaveCause : Config → (ℕ → Option Note) → List (ℕ × ℕ) → List Entry → Type 0
RefusalsHaveCause c noted edges history =
    (t l k : ℕ) → noted t ≡ Some (OrderRefused l k)
    → (has_open c history t k ≡ true) × (forbids edges k (c.class l) ≡ true)
