-- The facts of takes hold in one way, so a ghost field or a model's invariant may keep them.
use Rattle.order_laws.proofs.Names
use Names.{ℕ, List, [], props, Config, ReversalHasCause, State, Taken, OnlyLocksAreHeld, EdgesAreOfTakes, TakersAreOpen}
use Names.{RefusalsHaveCause, ReversalsHaveCause, Event, Reversed, Entry}
use Rattle.std.proofs.Common.{◌∷◌}

ReversalHasCause-prop : (c : Config) (es : List (ℕ × ℕ)) (e : Event) (history : List Entry) (t : ℕ)
    → IsProp (ReversalHasCause c es e history t)
ReversalHasCause-prop c es (Reversed l held) history t = hlevel props
ReversalHasCause-prop c es other history t = hlevel

reversals : (c : Config) (es : List (ℕ × ℕ)) (history : List Entry) → IsProp (ReversalsHaveCause c es history)
unfolding ReversalsHaveCause
reversals c es [] = hlevel
reversals c es (e ∷ history) = hlevel (ReversalHasCause-prop c es e.event history e.thread.0, reversals c es history)

pub Taken-prop : (c : Config) (s : State) → IsProp (Taken c s)
unfolding OnlyLocksAreHeld EdgesAreOfTakes TakersAreOpen RefusalsHaveCause
Taken-prop c s = hlevel (props, reversals)
