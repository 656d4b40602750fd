-- A state is lawful in one way, so a ghost field or a model's invariant may keep it.
use Rattle.lock_laws.proofs.Names
use Names.{ℕ, List, [], props, Config, State, Waiter, IsAlone, IsInSection, IsReplayed, IsShown, Lawful}
use Names.{OneTurnstileEach, OneSleepQueueEach, OneNodeEach, TurnstileIsLent, SleepQueueIsLent, HeadsFitWaiters}
use Names.{BitsShowWaiters, ListsAscend, MutexWaitersAreExclusive, StandsOnce, OnlyThreadsStand, StandingIsQueued}
use Names.{StandingWants, WokenWants, CalledWants, StandingIsUncalled, WokenIsUncalled, FreeWordHasCalled}
use Names.{FreeMutexShowsNone, WordsMatchHolders, OnlyThreadsHold, HeldAreListed, EffectiveIsLeast, OwnersHold}
use Names.{ChannelsHaveNoOwner, LoansAreLeast, LoansAreWithOwners, LoansAreOnHeads, KeptIsEffective, EffectiveIsKnown}
use Names.{LoansAreKnown, KeptIsKnown, NextIsNew, LogsAreParts, TablesReplay, BasesReplay, SectionsAreHeld, OutIsNarrow}
use Names.{TicketsRun, SectionsExclude, EditsInSections, ReadsReplay, ShownIsExplained, Each, Mode, Excl, Shared, Event}
use Names.{Set, Added, Got, Shown, Entry}
use Rattle.std.proofs.Common.{◌∷◌}
use Rattle.lock_state.specs.Facts.Queues.{Ascends}

-- 1. Lists

Ascends-prop : (ws : List Waiter) → IsProp (Ascends ws)
Ascends-prop [] = hlevel
Ascends-prop (w ∷ []) = hlevel
Ascends-prop (w ∷ v ∷ ws) = hlevel (props, Ascends-prop (v ∷ ws))

pub Each-prop : (P : Waiter → Type 0) → ((w : Waiter) → IsProp (P w)) → (ws : List Waiter) → IsProp (Each P ws)
Each-prop P p [] = hlevel
Each-prop P p (w ∷ ws) = hlevel (p, Each-prop P p ws)

-- 2. The law of a history

IsAlone-prop : (c : Config) (es : List Entry) (l : ℕ) (mode : Mode) → IsProp (IsAlone c es l mode)
IsAlone-prop c es l Excl = hlevel props
IsAlone-prop c es l Shared = hlevel props

IsInSection-prop : (c : Config) (e : Event) (es : List Entry) (t : ℕ) → IsProp (IsInSection c e es t)
IsInSection-prop c (Set l k v) es t = hlevel props
IsInSection-prop c (Added l k n) es t = hlevel props
IsInSection-prop c (Got l k v) es t = hlevel props
IsInSection-prop c other es t = hlevel

IsReplayed-prop : (e : Event) (es : List Entry) → IsProp (IsReplayed e es)
IsReplayed-prop (Got l k v) es = hlevel props
IsReplayed-prop other es = hlevel

IsShown-prop : (c : Config) (e : Event) (es : List Entry) (t : ℕ) → IsProp (IsShown c e es t)
IsShown-prop c (Shown b e) es t = hlevel props
IsShown-prop c other es t = hlevel

tickets : (es : List Entry) → IsProp (TicketsRun es)
unfolding TicketsRun
tickets [] = hlevel
tickets (e ∷ es) = hlevel (props, tickets es)

sections : (c : Config) (es : List Entry) → IsProp (SectionsExclude c es)
unfolding SectionsExclude
sections c [] = hlevel
sections c (e ∷ es) = hlevel (props, IsAlone-prop, sections c es)

edits : (c : Config) (es : List Entry) → IsProp (EditsInSections c es)
unfolding EditsInSections
edits c [] = hlevel
edits c (e ∷ es) = hlevel (IsInSection-prop c e.event es e.thread.0, edits c es)

reads : (es : List Entry) → IsProp (ReadsReplay es)
unfolding ReadsReplay
reads [] = hlevel
reads (e ∷ es) = hlevel (IsReplayed-prop e.event es, reads es)

shown : (c : Config) (es : List Entry) → IsProp (ShownIsExplained c es)
unfolding ShownIsExplained
shown c [] = hlevel
shown c (e ∷ es) = hlevel (IsShown-prop c e.event es e.thread.0, shown c es)

-- 3. All facts

pub Lawful-prop : (c : Config) (s : State) → IsProp (Lawful c s)
unfolding OneTurnstileEach OneSleepQueueEach OneNodeEach TurnstileIsLent SleepQueueIsLent HeadsFitWaiters
    BitsShowWaiters ListsAscend MutexWaitersAreExclusive StandsOnce OnlyThreadsStand StandingIsQueued StandingWants
    WokenWants CalledWants StandingIsUncalled WokenIsUncalled FreeWordHasCalled FreeMutexShowsNone WordsMatchHolders
    OnlyThreadsHold HeldAreListed EffectiveIsLeast OwnersHold ChannelsHaveNoOwner LoansAreLeast LoansAreWithOwners
    LoansAreOnHeads KeptIsEffective EffectiveIsKnown LoansAreKnown KeptIsKnown NextIsNew LogsAreParts TablesReplay
    BasesReplay SectionsAreHeld OutIsNarrow
Lawful-prop c s = hlevel (props, Ascends-prop, Each-prop, tickets, sections, edits, reads, shown)
