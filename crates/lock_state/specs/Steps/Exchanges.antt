-- What a running floor asks of a thread's exchanges and looks beside the state's guards: what the thread must have
-- seen, in which round it acts, and which entry comes next.
use Rattle.std.specs.Prelude.{◌≡◌, ◌≢◌, ◌⊎◌, ℕ, Bool, true, false, not, ◌&&◌, ◌||◌, ◌==◌, [], Option, Some, None, ⊤}
use Rattle.lock_model.specs.Config.{Config}
use Rattle.lock_model.specs.Events.{OfEnd, NoEnd, EndsTakeOf, EndsWaitOn, OfTake, NoTake, GainedBy, FoundBusy, HaltedFor, RefusedBy, facets, of_sleep, is_waking_of, is_end}
use Rattle.lock_state.specs.State.{State, Look, Round, Phase, Awake, Asleep, Last, Halting, Aborting, SelfAborted}
use Rattle.lock_model.specs.Words.{Word, admits}
use Rattle.lock_state.specs.Steps.LockWords.{bound_to, IsActing, is_taking_back}
use Rattle.lock_state.specs.Steps.Items.{Item, item_with, is_chain, chain_of, HasItem}
use Rattle.lock_model.specs.Holds.{Hold, NotHeld, Holds}
use Rattle.lock_model.specs.declared.plan.Kind.TheVariants.{Mtx}
use Rattle.lock_model.specs.declared.plan.Mode.{Mode}
use Rattle.lock_model.specs.declared.event.Event.{Event}

-- Who halts others.

-- whether a thread is at halting others: its counting out left nobody awake, it counted itself in again, and has
-- neither resumed nor counted itself out since
abbrev pub is_halting : Phase → Bool
is_halting Awake = false
is_halting Asleep = false
is_halting Last = false
is_halting Halting = true
is_halting Aborting = true
is_halting SelfAborted = true

-- a thread at halting others (a finder, also once it has aborted), though it has ended or stands on a queue
abbrev pub IsHalting : State → ℕ → Type 0
IsHalting s t = is_halting (s.phase t) ≡ true

-- What the thread must have seen, and in which round it acts.

-- whether the option is the number
abbrev pub is_with : ℕ → Option ℕ → Bool
is_with n None = false
is_with n (Some k) = k == n

-- whether a round seeks the lock
abbrev pub seeks : ℕ → Option Round → Bool
seeks l None = false
seeks l (Some r) = r.lock == l

-- whether the lock isn't held
abbrev pub is_unheld : Hold → Bool
is_unheld NotHeld = true
is_unheld (Holds mode) = false

-- whether a look is at a lock that the thread doesn't hold, outside a round
abbrev pub is_first : Option Round → Hold → Bool
is_first None held = is_unheld held
is_first (Some r) held = false

-- A look counts in an acquiring round of the lock, and where it is a call's first exchange that missed: both outside
-- the lock's chain
abbrev pub counts_as_look : ℕ → Config → State → ℕ → ℕ → Bool
counts_as_look chains c s t l =
    (seeks l (s.round t) || is_first (s.round t) (s.held t l))
    && not (is_with t (item_with s (chain_of chains c l)))

-- A gain in a round is of the round's lock and in its way. Outside a round it is a try's: a blocking call begins its
-- round in the same atomic step, also where it gains by its first exchange.
abbrev pub FitsRound : Option Round → ℕ → Bool → Type 0
FitsRound None l by_try = by_try ≡ true
FitsRound (Some r) l by_try = (r.lock ≡ l) × (r.by_try ≡ by_try)

-- in an acquiring round the one entry is that of a try which found the round's lock busy
abbrev pub IsBusyTry : OfTake → Round → Type 0
IsBusyTry NoTake r = ⊥
IsBusyTry (GainedBy l by_try) r = ⊥
IsBusyTry (FoundBusy l seen) r = (r.lock ≡ l) × (r.by_try ≡ true)
IsBusyTry (HaltedFor l) r = ⊥
IsBusyTry (RefusedBy l class) r = ⊥

abbrev pub NotesInRound : Option Round → Event → Type 0
NotesInRound None e = ⊤
NotesInRound (Some r) e = IsBusyTry (facets e).take r

-- whether an event ends a sleep
abbrev pub ends_sleep : Event → Bool
ends_sleep e = is_end (of_sleep e)

-- whether an event is a waking
abbrev pub is_waking : Event → Bool
is_waking e = is_waking_of (of_sleep e)

-- an entry ends the take of a lock that is under way; or else, where the thread is in a wait, the wait with it
abbrev pub EndsTakeOrWait : Config → Bool → OfEnd → ℕ → Type 0
EndsTakeOrWait c back NoEnd l = ⊥
EndsTakeOrWait c back (EndsTakeOf k) l = (k ≡ l) × (back ≡ false)
EndsTakeOrWait c back (EndsWaitOn d) l = (c.chan_lock d ≡ l) × (back ≡ true)

abbrev pub EndsTake : Config → Bool → Event → ℕ → Type 0
EndsTake c back e l = EndsTakeOrWait c back (facets e).end l

-- the next entry of a thread that takes a lock ends that take
abbrev pub EndsItsTake : Config → State → ℕ → Event → Type 0
EndsItsTake c s t e =
    (l : ℕ) → s.taking t ≡ Some l → EndsTake c (is_taking_back (s.log t)) e l

-- the thread takes no lock
abbrev pub TakesNothing : State → ℕ → Type 0
TakesNothing s t = s.taking t ≡ None

-- The next entry behind Sleeps ends that sleep, the next one behind a wake is its waking, and the next one of a take
-- ends it: so that behind a gain the section of its lock begins, also where no orders are checked. Admits and the round
-- of a blocking call set what is taken.
pub record IsNextEntry (c : Config) (s : State) (t : ℕ) (e : Event) : Type 0 where
  pub in_round : NotesInRound (s.round t) e
  pub asleep : is_taking_back (s.log t) ≡ true → ends_sleep e ≡ true
  pub wakes : s.unstamped t ≢ None → is_waking e ≡ true
  pub takes : EndsItsTake c s t e

-- A thread makes the first exchange of a call, outside a round: it acts, wants and takes nothing, has looked at no lock
-- since its last entry, gain or release, and none of its looks counts yet. It is the one exchange of a try, or the
-- first of a blocking call of a thread that holds nothing.
pub record IsFirstExchange (s : State) (t : ℕ) : Type 0 where
  pub acting : IsActing s t
  pub wants : s.wanted t ≡ None
  pub takes : TakesNothing s t
  pub unseen : s.last_look t ≡ None
  pub first : s.looks t ≡ 0

-- A blocking call of a thread that holds nothing makes one exchange more outside a round, of a lock that is no mutex:
-- behind its first one, which missed that lock and is the one look that counts yet. It goes from the word that was
-- found: so readers gain a lock that others share.
pub record IsSecondExchange (c : Config) (s : State) (t l : ℕ) : Type 0 where
  pub kind : c.kind l ≢ Mtx
  pub acting : IsActing s t
  pub wants : s.wanted t ≡ None
  pub takes : TakesNothing s t
  pub bare : s.held_locks t ≡ []
  pub behind : (look : Look) × (s.last_look t ≡ Some look) × (look.lock ≡ l)
  pub once : s.looks t ≡ 1

-- Behind first exchanges that missed, a blocking call of the same lock goes on where its thread holds nothing. A try
-- doesn't go on: its entry is next.
abbrev pub MayHaveMissed : State → ℕ → ℕ → Type 0
MayHaveMissed s t l =
    (look : Look) → s.last_look t ≡ Some look → (look.lock ≡ l) × (s.held_locks t ≡ [])

-- A round of a thread that wants nothing begins where no take is under way. A try's round begins with its first look,
-- and so does that of a blocking call of a thread that holds a lock.
pub record SeeksAnew (s : State) (t l : ℕ) (by_try : Bool) : Type 0 where
  pub takes : s.wanted t ≡ None → TakesNothing s t
  pub tries : by_try ≡ true → s.last_look t ≡ None
  pub blocks : MayHaveMissed s t l

-- the order of a lock is checked outside the thread's rounds, and by a blocking call
pub record ChecksOutsideRounds (s : State) (t l : ℕ) : Type 0 where
  pub no_round : s.round t ≡ None
  pub blocks : MayHaveMissed s t l

-- what the thread saw last at the lock under the chain that it has out admits the mode
abbrev pub SawAdmitting : ℕ → Config → State → ℕ → ℕ → Mode → Type 0
SawAdmitting chains c s t l mode =
    (w : Word) → HasItem s t (chain_of chains c l)
    → s.seen_in_section t ≡ Some (record { lock = l; word = w }) → admits (c.kind l) w mode ≡ true

-- under the lock's chain a gain is of a round
abbrev pub IsInRound : ℕ → Config → State → ℕ → ℕ → Type 0
IsInRound chains c s t l = s.round t ≡ None → HasItem s t (chain_of chains c l) → ⊥

-- What a gain needs to have seen, and its round. Outside a round it is a try's one exchange. A thread in the middle of
-- a take gains no other lock, and a blocking call gains the lock that is being taken, so that the entry of its gain
-- comes next.
pub record GainsFromLook (chains : ℕ) (c : Config) (s : State) (t l : ℕ) (mode : Mode)
    (by_try : Bool) : Type 0 where
  pub fits : FitsRound (s.round t) l by_try
  pub in_round : IsInRound chains c s t l
  pub saw : SawAdmitting chains c s t l mode
  pub outside_first : s.round t ≡ None → IsFirstExchange s t
  pub others : (k : ℕ) → s.taking t ≡ Some k → k ≡ l
  pub takes : by_try ≡ false → s.taking t ≡ Some l

-- A look in a round is at the round's lock, and one under a chain at a lock whose queue stands in that chain: no
-- procedure looks elsewhere, and what was seen of the round's lock stays (this project's rule). Outside a round a
-- thread looks under a chain only at a lock that it holds, to release it, or at halting others: there at the lock
-- whose sleeper it aborts, under that lock's chain. But for that it takes nothing outside a round, and looks at a
-- lock that it doesn't hold only by a call's first exchange or the second one behind it, which missed.
pub record LooksInRound (chains : ℕ) (c : Config) (s : State) (t l : ℕ) (counted : Bool) : Type 0
  where
    pub counts : counted ≡ counts_as_look chains c s t l
    pub of_round : s.round t ≢ None → seeks l (s.round t) ≡ true
    pub in_chain : (i : Item) → is_chain i ≡ true → HasItem s t i → i ≡ chain_of chains c l
    pub outside : (i : Item) → s.round t ≡ None → is_chain i ≡ true → HasItem s t i
        → (s.held t l ≢ NotHeld) ⊎ IsHalting s t
    pub outside_takes : s.round t ≡ None → TakesNothing s t ⊎ IsHalting s t
    pub outside_first : s.round t ≡ None → s.held t l ≡ NotHeld
        → IsFirstExchange s t ⊎ (IsSecondExchange c s t l ⊎ IsHalting s t)
    pub halting : IsHalting s t → HasItem s t (chain_of chains c l)

-- a sleep on a channel begins outside the thread's rounds, with no wake to note and no halt
pub record SleepsOutsideRounds (s : State) (t : ℕ) : Type 0 where
  pub no_round : s.round t ≡ None
  pub stamped : s.unstamped t ≡ None
  pub unnoted : s.noted t ≡ None

-- an enter is an exchange from the word that the last look saw, in a blocking call's round that has taken the lock's
-- chain
pub record EntersFromLook (s : State) (t l : ℕ) : Type 0 where
  pub saw : s.last_look t ≡ Some (record { lock = l; word = s.word l })
  pub round : s.round t ≡ Some (bound_to l)
