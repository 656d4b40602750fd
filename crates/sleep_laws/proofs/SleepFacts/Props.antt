-- The facts of sleepers hold in one way, so a ghost field or a model's invariant may keep them.
use Rattle.sleep_laws.proofs.Names
use Names.{ℕ, Bool, true, false, List, [], Option, props, Config, FitsSleepers, WakingsNameSleepers, Waiter, Mark}
use Names.{Event, Woke, HaltedChan, WokeOne, WokeAll, Entry, State, AreSignals, InOrder, LeavesNobodyBefore}
use Names.{SleepersFit, NamedAreWoken, MarksAreSignals, WokenBySignal, NoSleepIsHalted, SleepersSlept, WokenSlept}
use Names.{ResumedSlept, SleepersWantNothing, SleepersAreUnwoken, AsleepStandThere, AsleepAreOnTheirWay}
use Names.{SleepersInOrder, LatecomersAreLater, SleepersKeepBase, SleepersAreExclusive, UnnotedAreMarked}
use Names.{UnnotedIsAtWork, UnnotedIsFair, AbortedSleep, SleepersAreUnhalted, PassedOverAreAborted, Each-prop}
use Rattle.std.proofs.Common.{◌∷◌}

AreSignals-prop : (ms : List Mark) → IsProp (AreSignals ms)
AreSignals-prop [] = hlevel
AreSignals-prop (m ∷ ms) = hlevel (props, AreSignals-prop ms)

InOrder-prop : (es : List Entry) (ws : List Waiter) → IsProp (InOrder es ws)
InOrder-prop es [] = hlevel
InOrder-prop es (w ∷ ws) = hlevel (props, Each-prop, InOrder-prop es ws)

LeavesNobodyBefore-prop : (c : Config) (es : List Entry) (all : Bool) (us : List ℕ) (ws : List Waiter)
    → IsProp (LeavesNobodyBefore c es all us ws)
LeavesNobodyBefore-prop c es true us ws = hlevel props
LeavesNobodyBefore-prop c es false [] ws = hlevel props
LeavesNobodyBefore-prop c es false (u ∷ us) ws = hlevel (props, Each-prop)

FitsSleepers-prop : (e : Event) (es : List Entry) (t : ℕ) → IsProp (FitsSleepers e es t)
FitsSleepers-prop (WokeOne d woken) es t = hlevel props
FitsSleepers-prop (WokeAll d woken) es t = hlevel props
FitsSleepers-prop (Woke d) es t = hlevel props
FitsSleepers-prop (HaltedChan d) es t = hlevel props
FitsSleepers-prop other es t = hlevel

wakings : (c : Config) (es : List Entry) → IsProp (WakingsNameSleepers c es)
unfolding WakingsNameSleepers
wakings c [] = hlevel
wakings c (e ∷ es) = hlevel (props, FitsSleepers-prop e.event es e.thread.0, wakings c es)

pub SleepersFit-prop : (at_work : ℕ → Option ℕ) (c : Config) (s : State) → IsProp (SleepersFit at_work c s)
unfolding NamedAreWoken MarksAreSignals WokenBySignal NoSleepIsHalted SleepersSlept WokenSlept ResumedSlept
    SleepersWantNothing SleepersAreUnwoken AsleepStandThere AsleepAreOnTheirWay SleepersInOrder LatecomersAreLater
    SleepersKeepBase SleepersAreExclusive UnnotedAreMarked UnnotedIsAtWork UnnotedIsFair AbortedSleep
    SleepersAreUnhalted PassedOverAreAborted
SleepersFit-prop at_work c s =
    hlevel (props, AreSignals-prop, InOrder-prop, Each-prop, LeavesNobodyBefore-prop, wakings)
