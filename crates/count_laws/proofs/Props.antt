-- The facts of counting and of halts hold in one way, so a ghost field or a model's invariant may keep them.
use Rattle.std.proofs.Common.{ℕ, List, [], ◌∷◌}
use Rattle.std.proofs.Props.{props}
use Rattle.lock_model.specs.Config.{Config}
use Rattle.lock_model.specs.Halts.{HaltsComeSince}
use Rattle.lock_model.specs.Queues.{Mark}
use Rattle.lock_model.specs.declared.event.Entry.{Entry}
use Rattle.lock_state.specs.State.{State}
use Rattle.lock_state.specs.Steps.Counting.{IsFirst}
use Rattle.lock_state.specs.Facts.{Counted, AwakeIsCounted, TermsFitParking, CountedInIsNextMarked, ParkedHasNoWalk, RestingHasNoMarks, ParkedHasNothingOut, RestingStands, SelfAbortedIsWoken, EndedRuns, EndedIsBare, EndedIsCounted, FinderIsAlone, Explained, StandersAreOpen, RestingHasReleased, SleepersTakeNothing, UnhaltedBefore, HaltedSince, HaltsHaveCauses}
use Rattle.lock_state.specs.Facts.Halts.{NobodyIsHalted}
use Rattle.order_laws.proofs.WantFacts.{WantsFitTakes-prop}

IsFirst-prop : (u : ℕ) (ms : List Mark) → IsProp (IsFirst u ms)
IsFirst-prop u [] = hlevel
IsFirst-prop u (m ∷ ms) = hlevel props

since : (c : Config) (p : ℕ) (es : List Entry) → IsProp (HaltsComeSince c p es)
unfolding HaltsComeSince
since c p [] = hlevel
since c p (e ∷ es) = hlevel (props, since c p es)

nobody : (c : Config) (es : List Entry) → IsProp (NobodyIsHalted c es)
unfolding NobodyIsHalted
nobody c [] = hlevel
nobody c (e ∷ es) = hlevel (props, nobody c es)

pub Counted-prop : (c : Config) (s : State) → IsProp (Counted c s)
unfolding AwakeIsCounted TermsFitParking CountedInIsNextMarked ParkedHasNoWalk RestingHasNoMarks ParkedHasNothingOut
    RestingStands SelfAbortedIsWoken EndedRuns EndedIsBare EndedIsCounted FinderIsAlone
Counted-prop c s = hlevel (props, IsFirst-prop)

pub Explained-prop : (c : Config) (s : State) → IsProp (Explained c s)
unfolding StandersAreOpen RestingHasReleased SleepersTakeNothing UnhaltedBefore HaltedSince HaltsHaveCauses
Explained-prop c s = hlevel (props, since, nobody, WantsFitTakes-prop)
