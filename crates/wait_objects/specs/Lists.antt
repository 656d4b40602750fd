-- The nodes that were taken off an object, in order, each with the object that it takes back. Who gets which one is
-- told by the lists of a queue in lock_model.
use Rattle.std.specs.Prelude.{◌≡◌, ℕ, List, [], ◌∷◌, Option, None, Some, IsSome}
use Rattle.lock_model.specs.Queues.{Waiter as Waiting}
use Rattle.wait_objects.specs.Seen.{Place}

-- a waiter and the object that it takes back
abbrev pub place : Waiting × Option ℕ → Place
place d = record { thread = d.0.thread; kept = d.0.kept; object = d.1 }

-- the last waiter with an object
abbrev pub with_last : ℕ → List Place → List Place
with_last n [] = []
with_last n (p ∷ []) = record p { object = Some n } ∷ []
with_last n (p ∷ q ∷ ps) = p ∷ with_last n (q ∷ ps)

-- there is a last waiter, and it has no object
abbrev pub LastHasNone : List Place → Type 0
LastHasNone [] = ⊥
LastHasNone (p ∷ []) = p.object ≡ None
LastHasNone (p ∷ q ∷ ps) = LastHasNone (q ∷ ps)

-- each waiter but the last has an object
abbrev pub AllButLastHold : List Place → Type 0
AllButLastHold [] = Unit {0}
AllButLastHold (p ∷ []) = Unit {0}
AllButLastHold (p ∷ q ∷ ps) = IsSome p.object × AllButLastHold (q ∷ ps)
