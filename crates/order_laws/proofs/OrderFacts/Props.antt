-- The facts of orders hold in one way, so a ghost field or a model's invariant may keep them.
use Rattle.order_laws.proofs.Names
use Names.{ℕ, List, [], props, Config, HasNoCycle, State, HeldLock, Ordered, WantsAreOrdered, HoldsAreOrdered}
use Names.{SleepersAreOrdered, WokenAreOrdered, AbortedWant, HaltsAreOrdered, TakesAreInGraph, EachLeads, AreOrdered}
use Names.{TakeIsInGraph, Event, Locked, HaltedLock, Entry}
use Rattle.std.proofs.Common.{◌∷◌}

EachLeads-prop : (c : Config) (es : List (ℕ × ℕ)) (hs : List HeldLock) (w : ℕ) → IsProp (EachLeads c es hs w)
EachLeads-prop c es [] w = hlevel
EachLeads-prop c es (h ∷ hs) w = hlevel (props, EachLeads-prop c es hs w)

AreOrdered-prop : (c : Config) (es : List (ℕ × ℕ)) (hs : List HeldLock) → IsProp (AreOrdered c es hs)
AreOrdered-prop c es [] = hlevel
AreOrdered-prop c es (h ∷ hs) = hlevel (props, EachLeads-prop, AreOrdered-prop c es hs)

TakeIsInGraph-prop : (c : Config) (es : List (ℕ × ℕ)) (e : Event) (history : List Entry) (t : ℕ)
    → IsProp (TakeIsInGraph c es e history t)
TakeIsInGraph-prop c es (Locked l m) history t = hlevel props
TakeIsInGraph-prop c es (HaltedLock l) history t = hlevel props
TakeIsInGraph-prop c es other history t = hlevel

takes : (c : Config) (es : List (ℕ × ℕ)) (history : List Entry) → IsProp (TakesAreInGraph c es history)
unfolding TakesAreInGraph
takes c es [] = hlevel
takes c es (e ∷ history) = hlevel (TakeIsInGraph-prop c es e.event history e.thread.0, takes c es history)

pub Ordered-prop : (c : Config) (s : State) → IsProp (Ordered c s)
unfolding HasNoCycle WantsAreOrdered HoldsAreOrdered SleepersAreOrdered WokenAreOrdered AbortedWant HaltsAreOrdered
Ordered-prop c s = hlevel (props, AreOrdered-prop, takes)
