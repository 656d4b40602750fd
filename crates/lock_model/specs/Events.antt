-- What each event says, one row an event: of a lock's table, of sections, of priorities, how a take came out, what the
-- event ends, and of sleepers. What stands elsewhere of events reads these facets; which operation gives an event
-- (`Law`) and the words of events (`Text`) are tables of their own. What code asks of a facet is declared beside
-- `Event`.
use Rattle.std.specs.Prelude.{ℕ, ◌+◌, Bool, true, false, ◌==◌, if◌then◌else◌, Option, Some, None, is_some}
use Rattle.lock_model.specs.Counts.{one}
use Rattle.lock_model.specs.declared.plan.Mode.{Mode}
use Rattle.lock_model.specs.declared.event.Event.{Event}
use Rattle.lock_model.specs.declared.event.LockFacet.{LockFacet}
use Rattle.lock_model.specs.declared.event.LockFacet.TheVariants as lock
use Rattle.lock_model.specs.declared.event.OfTable.{OfTable}
use Rattle.lock_model.specs.declared.event.OfTable.TheVariants.{NoTable, SetsTo, AddsTo, Reads}
use Rattle.lock_model.specs.declared.event.Event.TheVariants.{Locked, Tried, Busy, Unlocked, Set, Added, Got, Base, Shown, Sleeps, Woke, HaltedChan, HaltedLock, WokeOne, WokeAll, Reversed}

-- 1. Facets

-- what it says of sleepers
pub data OfSleep : Type 0 where
  -- nothing
  NoSleep : OfSleep
  -- its thread goes to sleep on the channel, was woken there, or its sleep there was ended by a halt
  FallsAsleep : ℕ → OfSleep
  WakesUp : ℕ → OfSleep
  IsHalted : ℕ → OfSleep
  -- its thread's sleep on the lock's queue was ended by a halt
  IsHaltedAtLock : ℕ → OfSleep
  -- its thread wakes one sleeper of the channel, or all: those whose bits are set
  WakesOne : ℕ → ℕ → OfSleep
  WakesAll : ℕ → ℕ → OfSleep

-- which section of its thread it begins or ends: one of a lock, in a mode, or that of a channel's lock, which ends
-- with a sleep and begins again behind it
pub data OfSection : Type 0 where
  NoSection : OfSection
  BeginsIn : ℕ → Mode → OfSection
  EndsFrom : ℕ → Mode → OfSection
  LeftFor : ℕ → OfSection
  TakenBack : ℕ → OfSection

-- what it says of its thread's priorities: a new base, or the base and the effective one that it shows
pub data OfPrio : Type 0 where
  NoPrio : OfPrio
  NewBase : ℕ → OfPrio
  ShowsPrios : ℕ → ℕ → OfPrio

-- how a take or a try of a lock came out: gained, and whether by a try; found busy, with the word seen; ended by a
-- halt; or refused, for a class
pub data OfTake : Type 0 where
  NoTake : OfTake
  GainedBy : ℕ → Bool → OfTake
  FoundBusy : ℕ → ℕ → OfTake
  HaltedFor : ℕ → OfTake
  RefusedBy : ℕ → ℕ → OfTake

-- what it ends: the take of a lock, or a wait on a channel. A refusal ends no take: none had begun
pub data OfEnd : Type 0 where
  NoEnd : OfEnd
  EndsTakeOf : ℕ → OfEnd
  EndsWaitOn : ℕ → OfEnd

-- 2. Rows

-- all that an event says
pub record Facets : Type 0 where
  -- what it does at a key of a lock's table
  pub table : OfTable
  -- the section that it begins or ends
  pub section : OfSection
  -- what it says of its thread's priorities
  pub prio : OfPrio
  -- how a take or a try came out
  pub take : OfTake
  -- the take or the wait that it ends
  pub end : OfEnd
  -- what it says of sleepers
  pub sleep : OfSleep

-- a row, with each facet written: an event says of all of them what it does, or that it does nothing
abbrev pub says : OfTable → OfSection → OfPrio → OfTake → OfEnd → OfSleep → Facets
says table section prio take ended sleep = record {
  table = table;
  section = section;
  prio = prio;
  take = take;
  end = ended;
  sleep = sleep;
}

-- the row of each event
abbrev pub facets : Event → Facets
facets (Locked l mode) =
    says NoTable (BeginsIn l.0 mode) NoPrio (GainedBy l.0 false) (EndsTakeOf l.0) NoSleep
facets (Tried l mode) = says NoTable (BeginsIn l.0 mode) NoPrio (GainedBy l.0 true) NoEnd NoSleep
facets (Busy l seen) = says NoTable NoSection NoPrio (FoundBusy l.0 seen) NoEnd NoSleep
facets (Unlocked l mode) = says NoTable (EndsFrom l.0 mode) NoPrio NoTake NoEnd NoSleep
facets (Set l k v) = says (SetsTo l k v) NoSection NoPrio NoTake NoEnd NoSleep
facets (Added l k n) = says (AddsTo l k n) NoSection NoPrio NoTake NoEnd NoSleep
facets (Got l k found) = says (Reads l k found) NoSection NoPrio NoTake NoEnd NoSleep
facets (Base p) = says NoTable NoSection (NewBase p.0) NoTake NoEnd NoSleep
facets (Shown b e) = says NoTable NoSection (ShowsPrios b.0 e.0) NoTake NoEnd NoSleep
facets (Sleeps d) = says NoTable (LeftFor d.0) NoPrio NoTake NoEnd (FallsAsleep d.0)
facets (Woke d) = says NoTable (TakenBack d.0) NoPrio NoTake (EndsWaitOn d.0) (WakesUp d.0)
facets (HaltedChan d) = says NoTable (TakenBack d.0) NoPrio NoTake (EndsWaitOn d.0) (IsHalted d.0)
facets (HaltedLock l) =
    says NoTable NoSection NoPrio (HaltedFor l.0) (EndsTakeOf l.0) (IsHaltedAtLock l.0)
facets (WokeOne d woken) = says NoTable NoSection NoPrio NoTake NoEnd (WakesOne d.0 woken)
facets (WokeAll d woken) = says NoTable NoSection NoPrio NoTake NoEnd (WakesAll d.0 woken)
facets (Reversed l held) = says NoTable NoSection NoPrio (RefusedBy l.0 held.0) NoEnd NoSleep

-- 3. What is asked of a facet

-- what an event says of sleepers
abbrev pub of_sleep : Event → OfSleep
of_sleep e = (facets e).sleep

-- the base priority that its thread has from there on, where it gives it one
abbrev pub base_given : OfPrio → Option ℕ
base_given NoPrio = None
base_given (NewBase p) = Some p
base_given (ShowsPrios b e) = None

abbrev pub new_base : Event → Option ℕ
new_base e = base_given (facets e).prio

-- whether its thread goes to sleep on the channel
abbrev pub begins_sleep : OfSleep → ℕ → Bool
begins_sleep NoSleep k = false
begins_sleep (FallsAsleep d) k = d == k
begins_sleep (WakesUp d) k = false
begins_sleep (IsHalted d) k = false
begins_sleep (IsHaltedAtLock l) k = false
begins_sleep (WakesOne d woken) k = false
begins_sleep (WakesAll d woken) k = false

abbrev pub sleeps_on : Event → ℕ → Bool
sleeps_on e k = begins_sleep (of_sleep e) k

-- the channel on which its thread goes to sleep
abbrev pub fell_asleep : OfSleep → Option ℕ
fell_asleep NoSleep = None
fell_asleep (FallsAsleep d) = Some d
fell_asleep (WakesUp d) = None
fell_asleep (IsHalted d) = None
fell_asleep (IsHaltedAtLock l) = None
fell_asleep (WakesOne d woken) = None
fell_asleep (WakesAll d woken) = None

-- whether its thread goes to sleep on some channel
abbrev pub is_falling : OfSleep → Bool
is_falling o = is_some (fell_asleep o)

-- whether a halt ended its thread's sleep on a channel
abbrev pub ends_by_halt : OfSleep → Bool
ends_by_halt NoSleep = false
ends_by_halt (FallsAsleep d) = false
ends_by_halt (WakesUp d) = false
ends_by_halt (IsHalted d) = true
ends_by_halt (IsHaltedAtLock l) = false
ends_by_halt (WakesOne d woken) = false
ends_by_halt (WakesAll d woken) = false

-- whether a halt ended its thread's sleep on a channel or at a lock
abbrev pub is_by_halt : OfSleep → Bool
is_by_halt NoSleep = false
is_by_halt (FallsAsleep d) = false
is_by_halt (WakesUp d) = false
is_by_halt (IsHalted d) = true
is_by_halt (IsHaltedAtLock l) = true
is_by_halt (WakesOne d woken) = false
is_by_halt (WakesAll d woken) = false

-- whether its thread's sleep on a channel has ended
abbrev pub is_end : OfSleep → Bool
is_end NoSleep = false
is_end (FallsAsleep d) = false
is_end (WakesUp d) = true
is_end (IsHalted d) = true
is_end (IsHaltedAtLock l) = false
is_end (WakesOne d woken) = false
is_end (WakesAll d woken) = false

-- the channel whose sleepers its thread wakes
abbrev pub woken_chan : OfSleep → Option ℕ
woken_chan NoSleep = None
woken_chan (FallsAsleep d) = None
woken_chan (WakesUp d) = None
woken_chan (IsHalted d) = None
woken_chan (IsHaltedAtLock l) = None
woken_chan (WakesOne d woken) = Some d
woken_chan (WakesAll d woken) = Some d

-- whether its thread wakes others
abbrev pub is_waking_of : OfSleep → Bool
is_waking_of o = is_some (woken_chan o)

-- whether it is a waking that found nobody asleep
abbrev pub is_for_nobody : OfSleep → Bool
is_for_nobody NoSleep = false
is_for_nobody (FallsAsleep d) = false
is_for_nobody (WakesUp d) = false
is_for_nobody (IsHalted d) = false
is_for_nobody (IsHaltedAtLock l) = false
is_for_nobody (WakesOne d woken) = woken == 0
is_for_nobody (WakesAll d woken) = woken == 0

abbrev pub wakes_nobody : Event → Bool
wakes_nobody e = is_for_nobody (of_sleep e)

-- what a take or a try says of its lock where it gained nothing. A gain is told by the section that begins with it
abbrev pub lock_missed : OfTake → LockFacet
lock_missed NoTake = lock.NoLock
lock_missed (GainedBy l by_try) = lock.NoLock
lock_missed (FoundBusy l seen) = lock.FindsBusy (record { 0 = l }) seen
lock_missed (HaltedFor l) = lock.IsHalted (record { 0 = l })
lock_missed (RefusedBy l class) = lock.IsRefused (record { 0 = l }) (record { 0 = class })

-- what it says of a lock: which section of it begins or ends, or how a take of it failed
abbrev pub lock_facet : OfSection → OfTake → LockFacet
lock_facet NoSection take = lock_missed take
lock_facet (BeginsIn l mode) take = lock.Begins (record { 0 = l }) mode
lock_facet (EndsFrom l mode) take = lock.Ends (record { 0 = l }) mode
lock_facet (LeftFor d) take = lock.Leaves (record { 0 = d })
lock_facet (TakenBack d) take = lock.TakesBack (record { 0 = d })

-- 4. What facets tell of each other

-- the lock that a take or a try gained, and that of a section that begins with a gain
abbrev pub lock_gained : OfTake → Option ℕ
lock_gained NoTake = None
lock_gained (GainedBy l by_try) = Some l
lock_gained (FoundBusy l seen) = None
lock_gained (HaltedFor l) = None
lock_gained (RefusedBy l class) = None

abbrev pub section_gained : OfSection → Option ℕ
section_gained NoSection = None
section_gained (BeginsIn l mode) = Some l
section_gained (EndsFrom l mode) = None
section_gained (LeftFor d) = None
section_gained (TakenBack d) = None

-- what ends where a section begins: the wait behind which it is taken back
abbrev pub wait_ended : OfSection → OfEnd
wait_ended NoSection = NoEnd
wait_ended (BeginsIn l mode) = NoEnd
wait_ended (EndsFrom l mode) = NoEnd
wait_ended (LeftFor d) = NoEnd
wait_ended (TakenBack d) = EndsWaitOn d

-- what ends: a take that gained its lock, by no try, or that was halted; or such a wait
abbrev pub end_of : OfTake → OfSection → OfEnd
end_of NoTake of = wait_ended of
end_of (GainedBy l by_try) of = if by_try then wait_ended of else EndsTakeOf l
end_of (FoundBusy l seen) of = wait_ended of
end_of (HaltedFor l) of = EndsTakeOf l
end_of (RefusedBy l class) of = wait_ended of

-- the section that a sleep on a channel leaves, or that its end takes back,
abbrev pub section_slept : OfSleep → OfSection
section_slept NoSleep = NoSection
section_slept (FallsAsleep d) = LeftFor d
section_slept (WakesUp d) = TakenBack d
section_slept (IsHalted d) = TakenBack d
section_slept (IsHaltedAtLock l) = NoSection
section_slept (WakesOne d woken) = NoSection
section_slept (WakesAll d woken) = NoSection

-- and a section, if it is such a one
abbrev pub of_channel : OfSection → OfSection
of_channel NoSection = NoSection
of_channel (BeginsIn l mode) = NoSection
of_channel (EndsFrom l mode) = NoSection
of_channel (LeftFor d) = LeftFor d
of_channel (TakenBack d) = TakenBack d

-- the lock of which a halt ended a take, and the one on whose queue it ended a sleep
abbrev pub take_halted : OfTake → Option ℕ
take_halted NoTake = None
take_halted (GainedBy l by_try) = None
take_halted (FoundBusy l seen) = None
take_halted (HaltedFor l) = Some l
take_halted (RefusedBy l class) = None

abbrev pub sleep_halted : OfSleep → Option ℕ
sleep_halted NoSleep = None
sleep_halted (FallsAsleep d) = None
sleep_halted (WakesUp d) = None
sleep_halted (IsHalted d) = None
sleep_halted (IsHaltedAtLock l) = Some l
sleep_halted (WakesOne d woken) = None
sleep_halted (WakesAll d woken) = None

-- whether it is about a table, about priorities, about a section, or about a take that gained nothing
abbrev pub is_of_table : OfTable → Bool
is_of_table NoTable = false
is_of_table (SetsTo l k v) = true
is_of_table (AddsTo l k n) = true
is_of_table (Reads l k found) = true

abbrev pub is_of_prio : OfPrio → Bool
is_of_prio NoPrio = false
is_of_prio (NewBase p) = true
is_of_prio (ShowsPrios b e) = true

abbrev pub is_of_section : OfSection → Bool
is_of_section NoSection = false
is_of_section (BeginsIn l mode) = true
is_of_section (EndsFrom l mode) = true
is_of_section (LeftFor d) = true
is_of_section (TakenBack d) = true

abbrev pub is_in_vain : OfTake → Bool
is_in_vain NoTake = false
is_in_vain (GainedBy l by_try) = false
is_in_vain (FoundBusy l seen) = true
is_in_vain (HaltedFor l) = true
is_in_vain (RefusedBy l class) = true

-- of how many matters it speaks: these, and whether its thread wakes others
abbrev pub matters : Facets → ℕ
matters row =
    one (is_of_table row.table) + (one (is_of_prio row.prio) + (one (is_of_section row.section)
    + (one (is_in_vain row.take) + one (is_waking_of row.sleep))))
