-- A halting as a call that stands at places: what the thread knows at each, what it does from one to the next, and what
-- the whole is.
use Rattle.std.specs.Prelude.{◌≡◌, ◌≢◌, ◌↔◌, ◌⊎◌, ℕ, ◌+◌, ◌<◌, Bool, true, false, ◌||◌, List, [], ◌∷◌, length, Option, Some, None, ⊤}
use Rattle.lock_model.specs.Config.{Config}
use Rattle.lock_model.specs.Operations.{hold_in}
use Rattle.lock_model.specs.Holds.{NotHeld}
use Rattle.lock_model.specs.Queues.{Mark, ByAbort, is_turnstile_queue}
use Rattle.lock_model.specs.declared.plan.Side.{Side}
use Rattle.lock_model.specs.declared.plan.QueueName.{QueueName}
use Rattle.lock_model.specs.declared.plan.QueueName.TheVariants.{Lock, Chan}
use Rattle.lock_model.specs.declared.event.Entry.{Entry}
use Rattle.lock_model.specs.declared.event.Held.{Held}
use Rattle.lock_state.specs.State.{Round, Note, Wake, Walk, NoWalk, Awake, Asleep, Last, SelfAborted}
use Rattle.lock_state.specs.Steps.{Step, TakesItem, GivesItem, Marks, CountsOut, CountsSelfIn, Halts, Aborts, is_halting, IsAtResume}
use Rattle.lock_state.specs.Steps.Items.{Item, RecordOf}
use Rattle.lock_state.specs.Steps.LockWords.{is_taking_back}
use Rattle.lock_state.specs.Steps.SleepQueues.{phase_aborting}
use Rattle.sleep_queues.specs.Seen.{SleepQueue}
use Rattle.floor_table.specs.Descriptions.{config_in}
use Rattle.floor_table.specs.declared.description.Description.{Description}
use Rattle.floor_table.specs.declared.slot.Slot.TheVariants.{SleepQueues}
use Rattle.floor_table.specs.Steps.{Makes, MakesEach}
use Rattle.floor_table.specs.Views.{Role, Pose, Runs, StandsOn, Knowledge, seeing}
use Rattle.lock_floor.specs.declared.halting.FirstSleeper.{FirstSleeper}
use Rattle.lock_floor.specs.declared.queues.HaltAt.{HaltAt}
use Rattle.lock_floor.specs.declared.queues.HaltAt.TheVariants as at
use Rattle.lock_floor.specs.Aborts.{HasSeenHalt}
use Rattle.lock_floor.specs.Ends.{FindsWhetherLeft}
use Rattle.lock_floor.specs.Halting.{NobodySleeps, SleepsFirst}
use Rattle.lock_floor.specs.Latches.{FindsOut}
use Rattle.lock_floor.specs.Marks.{wakes}
use Rattle.lock_floor.specs.Queues.{queue_at}
use Rattle.lock_floor.specs.Waits.{its_chain, chain_place}
use Rattle.halting.specs.declared.halting.Next.{Next}
use Rattle.halting.specs.declared.halting.Next.TheVariants as next

-- 1. What stays

-- what a thread knows that stays through a halting: all but its counting, whom it counted in or has to wake, what is
-- out, what it saw under a chain and its last look
pub record Kept : Type 0 where
  pub role : Role
  pub description : Description
  pub thread : ℕ
  pub spare : ℕ
  pub pose : Pose
  pub held : List Held
  pub begun : List ℕ
  pub log : List Entry
  pub wanted : Option ℕ
  pub taking : Option ℕ
  pub called : Option ℕ
  pub walk : Walk
  pub looks : ℕ
  pub looks_in_all : ℕ
  pub round : Option Round
  pub noted : Option Note
  pub woken_from : Option ℕ
  pub unstamped : Option Wake
  pub has_ended : Bool

abbrev pub kept_of : Knowledge → Kept
kept_of v = record {
  role = v.role;
  description = v.description;
  thread = v.thread;
  spare = v.spare;
  pose = v.pose;
  held = v.share.held;
  begun = v.share.begun;
  log = v.share.log;
  wanted = v.share.doing.wanted;
  taking = v.share.doing.taking;
  called = v.share.doing.called;
  walk = v.share.doing.walk;
  looks = v.share.doing.looks;
  looks_in_all = v.share.doing.looks_in_all;
  round = v.share.doing.round;
  noted = v.share.doing.noted;
  woken_from = v.share.doing.woken_from;
  unstamped = v.share.doing.unstamped;
  has_ended = v.share.doing.has_ended;
}

-- its last look is as it was, or it has none any more: by an abort a lock's word may have changed
abbrev pub HasNoNewLook : Knowledge → Knowledge → Type 0
HasNoNewLook old new =
    (new.share.doing.last_look ≡ old.share.doing.last_look) ⊎ (new.share.doing.last_look ≡ None)

-- 2. Where the thread is

-- a thread that stands on a channel's queue is in a wait, and has released the lock of its wait
abbrev pub HasLetGo : Config → Kept → QueueName → Type 0
HasLetGo c k (Lock l) = ⊤
HasLetGo c k (Chan d) =
    (hold_in k.held (c.chan_lock d.0) ≡ NotHeld) × (is_taking_back k.log ≡ true)

-- a thread counts itself out where it stands on a queue, or has ended
abbrev pub IsOut : Config → Kept → Type 0
IsOut c k =
    ((q : QueueName) × (k.pose ≡ StandsOn q) × HasLetGo c k q)
    ⊎ ((k.pose ≡ Runs) × (k.has_ended ≡ true))

-- there it is in no round and has no walk, and no wake to note
pub record IsAside (floor : Description) (k : Kept) : Type 0 where
  pub description : k.description ≡ floor
  pub is_out : IsOut (config_in floor) k
  pub no_round : k.round ≡ None
  pub no_walk : k.walk ≡ NoWalk
  pub stamped : k.unstamped ≡ None

-- it may count itself out: it is awake, and has nothing out and nobody to wake
pub record MayCountOut (floor : Description) (v : Knowledge) : Type 0 where
  pub aside : IsAside floor (kept_of v)
  pub uncounted : v.share.doing.counting ≡ None
  pub nothing_out : v.out ≡ []
  pub unmarked : v.share.doing.marked ≡ []
  pub awake : v.share.doing.phase ≡ Awake

-- its counting out left nobody awake
pub record IsLast (floor : Description) (v : Knowledge) : Type 0 where
  pub aside : IsAside floor (kept_of v)
  pub uncounted : v.share.doing.counting ≡ None
  pub nothing_out : v.out ≡ []
  pub unmarked : v.share.doing.marked ≡ []
  pub last : v.share.doing.phase ≡ Last

-- it is at halting others, has seen that the halt word was set, and aborted itself or not: who aborted itself stood on
-- a queue
pub record IsHalter (floor : Description) (itself : Bool) (v : Knowledge) : Type 0 where
  pub aside : IsAside floor (kept_of v)
  pub uncounted : v.share.doing.counting ≡ None
  pub halting : is_halting v.share.doing.phase ≡ true
  pub aborted : (itself ≡ true) ↔ (v.share.doing.phase ≡ SelfAborted)
  pub stood : itself ≡ true → (q : QueueName) × (v.pose ≡ StandsOn q)
  pub halted : HasSeenHalt v

-- threads sleep on the queue of that place, and its chain is out, and nothing else
pub record HasQueueOut (floor : Description) (place : ℕ) (v : Knowledge) : Type 0 where
  pub queue : QueueName
  pub there : queue_at floor place ≡ Some queue
  pub sleeps : is_turnstile_queue (config_in floor) queue ≡ false
  pub chain : List (QueueName × SleepQueue)
  pub out : v.out ≡ (chain_place floor queue, SleepQueues chain) ∷ []

-- one was taken off that queue, by an abort, and is to be woken
pub record HasTakenOff (floor : Description) (queue : QueueName) (v : Knowledge) : Type 0 where
  pub mark : Mark
  pub marked : v.share.doing.marked ≡ mark ∷ []
  pub off : mark.queue ≡ queue
  pub by_abort : mark.cause ≡ ByAbort
  pub of_floor : mark.thread < length floor.threads

-- what it knows at each place
abbrev pub IsAt : Description → HaltAt → Knowledge → Type 0
IsAt floor at.Finds v = IsLast floor v
IsAt floor (at.Comes over itself) v =
    IsHalter floor itself v × (v.out ≡ []) × (v.share.doing.marked ≡ [])
IsAt floor (at.Aborts over itself) v =
    IsHalter floor itself v × HasQueueOut floor over v × (v.share.doing.marked ≡ [])
IsAt floor (at.Wakes over itself) v =
    IsHalter floor itself v × ((out : HasQueueOut floor over v) × HasTakenOff floor out.queue v)

-- 3. What it does from one place to the next

-- the thread itself is woken as another, but it isn't counted in once more
abbrev pub wakes_itself : ℕ → Mark → List (List Step)
wakes_itself t m =
    (TakesItem t (RecordOf m.thread) ∷ []) ∷ (Marks t m [] ∷ [])
    ∷ (GivesItem t (RecordOf m.thread) ∷ []) ∷ []

-- the chain of a queue is out, and nobody sleeps on the queue any more
pub record IsEmptied (floor : Description) (q : QueueName) (v : Knowledge) : Type 0 where
  pub chain : List (QueueName × SleepQueue)
  pub out : v.out ≡ (chain_place floor q, SleepQueues chain) ∷ []
  pub nobody : NobodySleeps q chain

-- the first sleeper of a queue was found in the chain, which is out
pub record FindsFirst (floor : Description) (q : QueueName) (x : FirstSleeper) (v : Knowledge)
    : Type 0 where
  pub sleeps : is_turnstile_queue (config_in floor) q ≡ false
  pub chain : List (QueueName × SleepQueue)
  pub out : v.out ≡ (chain_place floor q, SleepQueues chain) ∷ []
  pub first : SleepsFirst q x chain

-- that thread is this sleeper: the first on the exclusive side, or where nobody sleeps there, on the shared one
abbrev pub IsFirstOf : Description → QueueName → ℕ → Knowledge → Type 0
IsFirstOf floor q u v = (x : FirstSleeper) × FindsFirst floor q x v × (x.thread.0 ≡ u)

-- what it needs to go on from there: another thread may have it out
abbrev pub Awaits : Description → HaltAt → Knowledge → Item → Type 0
Awaits floor at.Finds v i = ⊥
Awaits floor (at.Comes over itself) v i =
    (q : QueueName) × (queue_at floor over ≡ Some q)
    × (is_turnstile_queue (config_in floor) q ≡ false) × (i ≡ its_chain floor q)
Awaits floor (at.Aborts over itself) v i = ⊥
Awaits floor (at.Wakes over itself) v i =
    (m : Mark) × (v.share.doing.marked ≡ m ∷ []) × (i ≡ RecordOf m.thread)

-- A thread is left that hasn't ended: it counts itself in and sets the halt word. It takes the chain of a sleep queue,
-- takes one sleeper off after the other, each time the first, by one abort, and wakes it; once nobody sleeps there it
-- gives the chain back and goes to the next queue. Behind the last one it counts itself out again, where it didn't
-- abort itself: it may be the last once more. Or it found out what it needs
pub data HaltLeg (floor : Description) : HaltAt → HaltAt → Knowledge → Knowledge → Type 0 where
  halts : {old mid new : Knowledge} → FindsWhetherLeft floor true old mid
      → MakesEach floor ((CountsSelfIn old.thread ∷ []) ∷ (Halts old.thread ∷ []) ∷ []) mid new
      → HaltLeg floor at.Finds (at.Comes 0 false) old new
  passes : {old new : Knowledge} (over : ℕ) (itself : Bool) (q : QueueName)
      → queue_at floor over ≡ Some q → is_turnstile_queue (config_in floor) q ≡ true → new ≡ old
      → HaltLeg floor (at.Comes over itself) (at.Comes (over + 1) itself) old new
  takes_chain : {old new : Knowledge} (over : ℕ) (itself : Bool) (q : QueueName)
      → queue_at floor over ≡ Some q → is_turnstile_queue (config_in floor) q ≡ false
      → Makes floor (TakesItem old.thread (its_chain floor q) ∷ []) old new
      → HaltLeg floor (at.Comes over itself) (at.Aborts over itself) old new
  aborts : {old new : Knowledge} (over : ℕ) (itself : Bool) (q : QueueName) (side : Side) (m : Mark)
      → queue_at floor over ≡ Some q → IsFirstOf floor q m.thread old
      → new.share.doing.marked ≡ m ∷ []
      → Makes floor (Aborts old.thread q side m.thread ∷ []) old new
      → HaltLeg floor (at.Aborts over itself) (at.Wakes over itself) old new
  wakes_other : {old new : Knowledge} (over : ℕ) (itself : Bool) (m : Mark)
      → old.share.doing.marked ≡ m ∷ [] → m.thread ≢ old.thread
      → MakesEach floor (wakes old.thread m []) old new
      → HaltLeg floor (at.Wakes over itself) (at.Aborts over itself) old new
  wakes_own : {old new : Knowledge} (over : ℕ) (itself : Bool) (m : Mark)
      → old.share.doing.marked ≡ m ∷ [] → m.thread ≡ old.thread
      → MakesEach floor (wakes_itself old.thread m) old new
      → HaltLeg floor (at.Wakes over itself) (at.Aborts over true) old new
  gives_chain : {old new : Knowledge} (over : ℕ) (itself : Bool) (q : QueueName)
      → queue_at floor over ≡ Some q → IsEmptied floor q old
      → Makes floor (GivesItem old.thread (its_chain floor q) ∷ []) old new
      → HaltLeg floor (at.Aborts over itself) (at.Comes (over + 1) itself) old new
  is_last : {old new : Knowledge} (over : ℕ) → queue_at floor over ≡ None
      → Makes floor (CountsOut old.thread ∷ []) old new → new.share.doing.phase ≡ Last
      → HaltLeg floor (at.Comes over false) at.Finds old new
  finds_out : {old new : Knowledge} (there : HaltAt) (i : Item) → Awaits floor there old i
      → new ≡ seeing new.seen old → FindsOut floor i old new → HaltLeg floor there there old new

-- it took that sleeper off the queue by an abort: in one step it is alone in its marked list, and nothing else is new
-- but the chain, where it is with its counting, and that it may have lost its last look
pub record TakesOff (floor : Description) (q : QueueName) (u : ℕ) (old new : Knowledge) : Type 0
  where
    pub side : Side
    pub kept : kept_of new ≡ kept_of old
    pub look : HasNoNewLook old new
    pub uncounted : new.share.doing.counting ≡ old.share.doing.counting
    pub phase : new.share.doing.phase ≡ phase_aborting old.share.doing.phase
    pub chain : List (QueueName × SleepQueue)
    pub out : new.out ≡ (chain_place floor q, SleepQueues chain) ∷ []
    pub step : Makes floor (Aborts old.thread q side u ∷ []) old new

-- 4. How it ends

-- Nobody is left; or it went over all queues, and aborted itself, or counted itself out again and left somebody awake
pub data HaltEnd (floor : Description) : HaltAt → Knowledge → Knowledge → Type 0 where
  all_ended : {old new : Knowledge} → FindsWhetherLeft floor false old new
      → new ≡ seeing new.seen old → HaltEnd floor at.Finds old new
  aborted_itself : {old new : Knowledge} (over : ℕ) → queue_at floor over ≡ None → new ≡ old
      → HaltEnd floor (at.Comes over true) old new
  others_awake : {old new : Knowledge} (over : ℕ) → queue_at floor over ≡ None
      → Makes floor (CountsOut old.thread ∷ []) old new → new.share.doing.phase ≡ Asleep
      → HaltEnd floor (at.Comes over false) old new

-- behind it the thread is parked, or aborted itself: it runs again where it was woken
pub record HasHalted (floor : Description) (old new : Knowledge) : Type 0 where
  pub kept : kept_of new ≡ kept_of old
  pub look : HasNoNewLook old new
  pub uncounted : new.share.doing.counting ≡ None
  pub nothing_out : new.out ≡ []
  pub unmarked : new.share.doing.marked ≡ []
  pub at_resume : IsAtResume new.share.doing.phase
  pub stood : new.share.doing.phase ≡ SelfAborted → (q : QueueName) × (new.pose ≡ StandsOn q)

-- 5. What its parts answer

-- it went on, and stands there
pub record HaltsOn (floor : Description) (there to : HaltAt) (old new : Knowledge) : Type 0 where
  pub at : IsAt floor to new
  pub kept : kept_of new ≡ kept_of old
  pub look : HasNoNewLook old new
  pub leg : HaltLeg floor there to old new

-- it is done
pub record EndsHalting (floor : Description) (there : HaltAt) (old new : Knowledge) : Type 0 where
  pub halted : HasHalted floor old new
  pub end : HaltEnd floor there old new

-- it woke that thread, another than itself, which it had taken off a queue
pub record WakesOther (t : ℕ) (old new : Knowledge) : Type 0 where
  pub mark : Mark
  pub marked : old.share.doing.marked ≡ mark ∷ []
  pub thread : mark.thread ≡ t
  pub other : t ≢ old.thread
  pub woken : new.share.doing.marked ≡ []

-- or no other
abbrev pub WakesNoOther : Knowledge → Knowledge → Type 0
WakesNoOther old new = (t : ℕ) → WakesOther t old new → ⊥

abbrev pub GoesOnHalting : Description → HaltAt → Next → Knowledge → Knowledge → Type 0
GoesOnHalting floor there next.Done old new = EndsHalting floor there old new
GoesOnHalting floor there (next.Again to) old new =
    HaltsOn floor there to old new × WakesNoOther old new
GoesOnHalting floor there (next.Wake t to) old new =
    HaltsOn floor there to old new × WakesOther t.0 old new

-- 6. The whole

-- it took sleepers off a queue, each time the first until nobody slept there any more, and woke each; whether it
-- aborted itself is told
pub data AbortsEach (floor : Description) (q : QueueName) : Bool → Knowledge → Knowledge → Type 0
  where
    nobody_else : {v : Knowledge} → IsEmptied floor q v → AbortsEach floor q false v v
    one_more : {old mid next new : Knowledge} (itself : Bool) (side : Side) (m : Mark)
        → IsFirstOf floor q m.thread old
        → Makes floor (Aborts old.thread q side m.thread ∷ []) old mid → m.thread ≢ old.thread
        → MakesEach floor (wakes old.thread m []) mid next
        → AbortsEach floor q itself next new → AbortsEach floor q itself old new
    itself_too : {old mid next new : Knowledge} (itself : Bool) (side : Side) (m : Mark)
        → IsFirstOf floor q m.thread old
        → Makes floor (Aborts old.thread q side m.thread ∷ []) old mid → m.thread ≡ old.thread
        → MakesEach floor (wakes_itself old.thread m) mid next
        → AbortsEach floor q itself next new → AbortsEach floor q true old new

-- it went over the queues from a place on
pub data Sweeps (floor : Description) : ℕ → Bool → Knowledge → Knowledge → Type 0 where
  over_all : {v : Knowledge} (k : ℕ) → queue_at floor k ≡ None → Sweeps floor k false v v
  passes_turnstile : {old new : Knowledge} (k : ℕ) (itself : Bool) (q : QueueName)
      → queue_at floor k ≡ Some q → is_turnstile_queue (config_in floor) q ≡ true
      → Sweeps floor (k + 1) itself old new → Sweeps floor k itself old new
  halts_queue : {old out left home new : Knowledge} (k : ℕ) (itself more : Bool) (q : QueueName)
      → queue_at floor k ≡ Some q → is_turnstile_queue (config_in floor) q ≡ false
      → Makes floor (TakesItem old.thread (its_chain floor q) ∷ []) old out
      → AbortsEach floor q itself out left
      → Makes floor (GivesItem old.thread (its_chain floor q) ∷ []) left home
      → Sweeps floor (k + 1) more home new → Sweeps floor k (itself || more) old new

-- A thread whose counting out left nobody awake halts others. Where all threads have ended there is nothing to do. Else
-- it counts itself in, sets the halt word and goes over all queues; and where it didn't abort itself, it counts itself
-- out again: it is done, or was the last once more
pub data HaltsOthers (floor : Description) : Knowledge → Knowledge → Type 0 where
  nobody_is_left : {old new : Knowledge} → FindsWhetherLeft floor false old new
      → new ≡ seeing new.seen old → HaltsOthers floor old new
  halts_itself_too : {old left set new : Knowledge} → FindsWhetherLeft floor true old left
      → MakesEach floor ((CountsSelfIn old.thread ∷ []) ∷ (Halts old.thread ∷ []) ∷ []) left set
      → Sweeps floor 0 true set new → HaltsOthers floor old new
  others_go_on : {old left set swept new : Knowledge} → FindsWhetherLeft floor true old left
      → MakesEach floor ((CountsSelfIn old.thread ∷ []) ∷ (Halts old.thread ∷ []) ∷ []) left set
      → Sweeps floor 0 false set swept → Makes floor (CountsOut old.thread ∷ []) swept new
      → new.share.doing.phase ≡ Asleep → HaltsOthers floor old new
  once_more : {old left set swept last new : Knowledge} → FindsWhetherLeft floor true old left
      → MakesEach floor ((CountsSelfIn old.thread ∷ []) ∷ (Halts old.thread ∷ []) ∷ []) left set
      → Sweeps floor 0 false set swept → Makes floor (CountsOut old.thread ∷ []) swept last
      → last.share.doing.phase ≡ Last → HaltsOthers floor last new → HaltsOthers floor old new

-- a thread counts itself out, and halts others where that left nobody awake
pub data CountsItselfOut (floor : Description) : Knowledge → Knowledge → Type 0 where
  somebody_is_awake : {old new : Knowledge} → Makes floor (CountsOut old.thread ∷ []) old new
      → new.share.doing.phase ≡ Asleep → CountsItselfOut floor old new
  nobody_is_awake : {old last new : Knowledge} → Makes floor (CountsOut old.thread ∷ []) old last
      → last.share.doing.phase ≡ Last → HaltsOthers floor last new → CountsItselfOut floor old new
