-- The takes of a history: the edges that they gave the graph of lock orders, and the part of the law that speaks of
-- them. That part is true of whole histories, in which each take has come to its end.
use Rattle.std.specs.Prelude.{◌≡◌, ℕ, zero, suc, Bool, true, false, not, ◌&&◌, ◌||◌, ◌==◌, if◌then◌else◌, List, [], ◌∷◌, Option, Some, None, is_some, ⊤}
use Rattle.lock_model.specs.Config.{Config}
use Rattle.lock_model.specs.Counts.{any_below}
use Rattle.lock_model.specs.Holds.{is_unheld}
use Rattle.lock_model.specs.History.{open_in}
use Rattle.lock_model.specs.Orders.{HasNoCycle, edges_behind, forbids}
use Rattle.lock_model.specs.declared.event.Event.{Event}
use Rattle.lock_model.specs.Events.{OfEnd, NoEnd, EndsTakeOf, EndsWaitOn, OfTake, NoTake, GainedBy, FoundBusy, HaltedFor, RefusedBy, facets}
use Rattle.lock_model.specs.declared.event.Entry.{Entry}

-- 1. Edges

-- the lock of the take that ended with the event: it was gained, or a halt ended the wait for it
abbrev pub taken : OfEnd → Option ℕ
taken NoEnd = None
taken (EndsTakeOf l) = Some l
taken (EndsWaitOn d) = None

abbrev pub taken_by : Event → Option ℕ
taken_by e = taken (facets e).end

-- the classes of the locks below n of which the thread has an open section
unfoldable pub classes_open : Config → List Entry → ℕ → ℕ → List ℕ
classes_open c es t zero = []
classes_open c es t (suc n) =
    if is_unheld (open_in c es t n) then classes_open c es t n
    else c.class n ∷ classes_open c es t n

-- the edges with those of a take, where an event ended one
abbrev pub edges_by : Config → Option ℕ → List Entry → ℕ → List (ℕ × ℕ) → List (ℕ × ℕ)
edges_by c None es t edges = edges
edges_by c (Some l) es t edges = edges_behind edges (classes_open c es t c.locks) (c.class l)

-- the edges of a history's takes
unfoldable pub take_edges : Config → List Entry → List (ℕ × ℕ)
take_edges c [] = []
take_edges c (e ∷ es) = edges_by c (taken_by e.event) es e.thread.0 (take_edges c es)

-- 2. Refusals

-- the lock that an event refuses, and the class that forbids it
abbrev pub refused : OfTake → Option (ℕ × ℕ)
refused NoTake = None
refused (GainedBy l by_try) = None
refused (FoundBusy l seen) = None
refused (HaltedFor l) = None
refused (RefusedBy l class) = Some (l, class)

-- whether an event is one: a take was refused, and its thread cut
abbrev pub is_refused : OfTake → Bool
is_refused o = is_some (refused o)

abbrev pub is_reversal : Event → Bool
is_reversal e = is_refused (facets e).take

-- whether one stands among entries
abbrev pub has_reversal : List Entry → Bool
has_reversal [] = false
has_reversal (e ∷ es) = is_reversal e.event || has_reversal es

-- whether the thread has an open section of a lock of the class
abbrev pub has_open : Config → List Entry → ℕ → ℕ → Bool
has_open c es t k =
    any_below c.locks (λ l. (c.class l == k) && not (is_unheld (open_in c es t l)))

-- a Reversed entry names a class of which its thread has an open section, and which forbids that of the lock
abbrev pub RefusalHasCause : Config → List (ℕ × ℕ) → OfTake → List Entry → ℕ → Type 0
RefusalHasCause c edges NoTake es t = ⊤
RefusalHasCause c edges (GainedBy l by_try) es t = ⊤
RefusalHasCause c edges (FoundBusy l seen) es t = ⊤
RefusalHasCause c edges (HaltedFor l) es t = ⊤
RefusalHasCause c edges (RefusedBy l class) es t =
    (has_open c es t class ≡ true) × (forbids edges class (c.class l) ≡ true)

abbrev pub ReversalHasCause : Config → List (ℕ × ℕ) → Event → List Entry → ℕ → Type 0
ReversalHasCause c edges e es t = RefusalHasCause c edges (facets e).take es t

unfoldable pub ReversalsHaveCause : Config → List (ℕ × ℕ) → List Entry → Type 0
ReversalsHaveCause c edges [] = ⊤
ReversalsHaveCause c edges (e ∷ es) =
    ReversalHasCause c edges e.event es e.thread.0 × ReversalsHaveCause c edges es

-- 3. The law: the edges of the takes have no cycle, and each refusal is by them

pub record OrdersAreLegal (c : Config) (history : List Entry) : Type 0 where
  pub no_cycle : HasNoCycle (take_edges c history)
  pub reversals_have_cause : ReversalsHaveCause c (take_edges c history) history
