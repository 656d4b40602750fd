-- Facts of lock orders: the class graph has no cycle, and has an edge to each lock that a thread takes, waits for or
-- may take back from each other lock that it holds.
use Rattle.std.specs.Prelude.{◌≡◌, ℕ, false, List, [], ◌∷◌, Option, Some, ⊤}
use Rattle.lock_model.specs.Config.{Config}
use Rattle.lock_model.specs.Holds.{Hold, Holds}
use Rattle.lock_model.specs.History.{open_in}
use Rattle.lock_model.specs.Orders.{IsEdge}
use Rattle.lock_model.specs.Queues.{Cause, ByAbort, lock_queue, chan_queue}
use Rattle.lock_state.specs.State.{HeldLock, Wait, Woken, Note, SleepHalted}
use Rattle.lock_model.specs.declared.plan.Mode.{Mode}
use Rattle.lock_model.specs.declared.plan.QueueName.{QueueName}
use Rattle.lock_model.specs.declared.event.Event.{Event}
use Rattle.lock_model.specs.Events.{OfEnd, NoEnd, EndsTakeOf, EndsWaitOn, facets}
use Rattle.lock_model.specs.declared.event.Entry.{Entry}

-- 1. Locks that are held and one that is taken

-- an edge leads from the class of each held lock to that of the lock
abbrev pub LeadTo : Config → List (ℕ × ℕ) → (ℕ → Hold) → ℕ → Type 0
LeadTo c edges held l =
    (k : ℕ) (mode : Mode) → held k ≡ Holds mode → IsEdge edges (c.class k) (c.class l)

-- the same, but for the lock itself
abbrev pub OthersLeadTo : Config → List (ℕ × ℕ) → (ℕ → Hold) → ℕ → Type 0
OthersLeadTo c edges held l =
    (k : ℕ) (mode : Mode) → held k ≡ Holds mode → (k ≡ l → ⊥)
    → IsEdge edges (c.class k) (c.class l)

-- an edge leads to the class from that of each lock of a list
abbrev pub EachLeads : Config → List (ℕ × ℕ) → List HeldLock → ℕ → Type 0
EachLeads c edges [] wanted = ⊤
EachLeads c edges (h ∷ hs) wanted =
    IsEdge edges (c.class h.lock) wanted × EachLeads c edges hs wanted

-- held locks, the one gained last first: an edge leads to each that no try gained from those that were gained before
abbrev pub AreOrdered : Config → List (ℕ × ℕ) → List HeldLock → Type 0
AreOrdered c edges [] = ⊤
AreOrdered c edges (h ∷ hs) =
    (h.by_try ≡ false → EachLeads c edges hs (c.class h.lock)) × AreOrdered c edges hs

-- 2. What threads want and hold

-- where a thread wants a lock, each lock that it holds leads there
unfoldable pub WantsAreOrdered : Config → (ℕ → Option ℕ) → (ℕ → ℕ → Hold) → List (ℕ × ℕ) → Type 0
WantsAreOrdered c wanted held edges = (t l : ℕ) → wanted t ≡ Some l → LeadTo c edges (held t) l

-- the locks that a thread holds are ordered as it gained them
unfoldable pub HoldsAreOrdered : Config → (ℕ → List HeldLock) → List (ℕ × ℕ) → Type 0
HoldsAreOrdered c held_locks edges = (t : ℕ) → AreOrdered c edges (held_locks t)

-- a thread that sleeps on a channel may take the lock of its wait back behind all others that it holds
unfoldable pub SleepersAreOrdered : Config → (ℕ → Option QueueName) → (ℕ → ℕ → Hold)
    → List (ℕ × ℕ) → Type 0
SleepersAreOrdered c blocked_on held edges =
    (t d : ℕ) → blocked_on t ≡ Some (chan_queue d)
    → OthersLeadTo c edges (held t) (c.chan_lock d)

-- so may one that was woken from there
unfoldable pub WokenAreOrdered : Config → (ℕ → Wait) → (ℕ → ℕ → Hold) → List (ℕ × ℕ) → Type 0
WokenAreOrdered c wait held edges =
    (t d : ℕ) (cause : Cause) → wait t ≡ Woken (chan_queue d) cause
    → OthersLeadTo c edges (held t) (c.chan_lock d)

-- a thread that an abort woke from a lock's queue still wants the lock
unfoldable pub AbortedWant : (ℕ → Wait) → (ℕ → Option ℕ) → Type 0
AbortedWant wait wanted = (t l : ℕ) → wait t ≡ Woken (lock_queue l) ByAbort → wanted t ≡ Some l

-- where a thread has the halt of a take to note, each lock that it holds leads to the lock of that take
unfoldable pub HaltsAreOrdered : Config → (ℕ → Option Note) → (ℕ → ℕ → Hold) → List (ℕ × ℕ)
    → Type 0
HaltsAreOrdered c noted held edges =
    (t l : ℕ) → noted t ≡ Some (SleepHalted (lock_queue l)) → LeadTo c edges (held t) l

-- 3. What is noted

-- where a take ends, each lock of which its thread has an open section leads to the lock of the take
abbrev pub EndIsInGraph : Config → List (ℕ × ℕ) → OfEnd → List Entry → ℕ → Type 0
EndIsInGraph c edges NoEnd es t = ⊤
EndIsInGraph c edges (EndsTakeOf l) es t = LeadTo c edges (open_in c es t) l
EndIsInGraph c edges (EndsWaitOn d) es t = ⊤

-- so it is of an entry that ends a take
abbrev pub TakeIsInGraph : Config → List (ℕ × ℕ) → Event → List Entry → ℕ → Type 0
TakeIsInGraph c edges e es t = EndIsInGraph c edges (facets e).end es t

-- each take of a history is in the graph
unfoldable pub TakesAreInGraph : Config → List (ℕ × ℕ) → List Entry → Type 0
TakesAreInGraph c edges [] = ⊤
TakesAreInGraph c edges (e ∷ es) =
    TakeIsInGraph c edges e.event es e.thread.0 × TakesAreInGraph c edges es
