-- A take as a call that stands at places: what the thread knows at each, what it does from one to the next, and how the
-- take ends.
use Rattle.std.specs.Prelude.{◌≡◌, ◌≢◌, ℕ, ◌+◌, ◌-◌, ◌<◌, ◌≤◌, true, false, List, [], ◌∷◌, ◌++◌, length, Option, Some, None, ⊤}
use Rattle.lock_model.specs.Holds.{NotHeld}
use Rattle.lock_model.specs.Limits.{most_held}
use Rattle.lock_model.specs.Operations.{hold_in}
use Rattle.lock_model.specs.Queues.{Cause, ByAbort, Mark, lock_queue}
use Rattle.lock_model.specs.Words.{Word, word_of, is_turnstile}
use Rattle.lock_model.specs.declared.event.Event.{Event}
use Rattle.lock_model.specs.declared.numbers.LockNo.{LockNo}
use Rattle.lock_model.specs.declared.event.Reversal.{Reversal}
use Rattle.lock_model.specs.declared.event.Refused.{Refused}
use Rattle.lock_model.specs.declared.event.Refused.TheVariants as refused
use Rattle.lock_model.specs.declared.plan.Kind.{Kind}
use Rattle.lock_model.specs.declared.plan.Kind.TheVariants.{Mtx}
use Rattle.lock_model.specs.declared.plan.Mode.{Mode}
use Rattle.lock_objects.specs.Represents.{walk_of}
use Rattle.lock_laws.specs.Words.{CanBeSeen}
use Rattle.lock_state.specs.State.{NoWalk, Phase, Awake, Asleep}
use Rattle.lock_state.specs.Steps.{Step, Looks, Readies, CountsOut, Resumes, Stamps, TakesItem, IsAtResume}
use Rattle.lock_state.specs.Steps.Items.{Item, RecordOf, ClassGraph}
use Rattle.lock_state.specs.Steps.LockWords.{is_taking_back, bound_to}
use Rattle.prio_lending.specs.declared.walk.Walk.{Walk}
use Rattle.prio_lending.specs.declared.walk.Walk.TheVariants as walk
use Rattle.floor_table.specs.Descriptions.{config_in}
use Rattle.floor_table.specs.declared.description.Description.{Description}
use Rattle.floor_table.specs.declared.slot.Slot.{Slot}
use Rattle.floor_table.specs.Steps.{Makes, MakesEach}
use Rattle.floor_table.specs.Views.{Runs, StandsOn, Knowledge, seeing}
use Rattle.lock_floor.specs.declared.calls.Call.TheVariants as calls
use Rattle.lock_floor.specs.declared.calls.TakeAt.{TakeAt}
use Rattle.lock_floor.specs.declared.calls.TakeAt.TheVariants.{Checks, Spins, ComesIn, Contends, Walks, Hops, Halts, Sleeps}
use Rattle.lock_floor.specs.Floors.{Pass}
use Rattle.lock_floor.specs.Latches.{FindsOut, Takes}
use Rattle.lock_floor.specs.Passes.{IsAtRest, MakesEntry}
use Rattle.lock_floor.specs.Resumes.{FindsQueued}
use Rattle.lock_floor.specs.Waits.{its_chain, chain_place}
use Rattle.lock_floor.specs.Walks.{CanWalk, NeedsRecord, HasTurnstilesOut, HopsOn, turnstiles, turnstiles_place}
use Rattle.lock_floor.specs.declared.queues.HaltAt.{HaltAt}
use Rattle.lock_floor.specs.declared.queues.HaltAt.TheVariants as halts
use Rattle.halting.specs.Halts.{EndsHalting, HaltsOn, IsAt, IsLast, WakesNoOther, WakesOther}
use Rattle.lock_calls.specs.declared.answers.Next.{Next}
use Rattle.lock_calls.specs.declared.answers.Next.TheVariants.{Done, Again, Sleep, Wake, Reversed, Halted}
use Rattle.lock_calls.specs.declared.answers.TakeNext.{TakeNext}
use Rattle.lock_calls.specs.declared.answers.TakeNext.TheVariants as next
use Rattle.lock_calls.specs.Choices.{course}
use Rattle.lock_calls.specs.declared.courses.Course.TheVariants.{ByClaim}
use Rattle.lock_calls.specs.Steps.{IsCovered, IsGain, HasMissedFirst, GainsFirst, EndsAsleep, begins_round, as_taken, enters_by, gains_checked, gains_in_round, gives_both, refuses, runs_on}
use Rattle.lock_calls.specs.Rounds.{HasSeen, AsksOwner, LooksAgain, LooksOn}
use Rattle.lock_calls.specs.Sections.{IsItsChain}
use Rattle.lock_calls.specs.Waiting.{Kept, kept_of, HasGained, IsCalling, CanAcquire, IsChecking, IsSeeking, IsThere, Saw}

-- 1. What the thread knows at each place

-- it has the lock's chain out, in the round that took it
pub record HasChainOut (floor : Description) (l : ℕ) (v : Knowledge) : Type 0 where
  pub unheld : hold_in v.share.held l ≡ NotHeld
  pub few : length v.share.held < most_held
  pub wants : v.share.doing.wanted ≡ Some l
  pub takes : v.share.doing.taking ≡ Some l
  pub round : v.share.doing.round ≡ Some (bound_to l)
  pub no_walk : v.share.doing.walk ≡ NoWalk
  pub runs : v.pose ≡ Runs
  pub chain : Slot
  pub of_lock : IsItsChain floor l chain
  pub out : v.out ≡ (chain_place floor (lock_queue l), chain) ∷ []

-- it is in the section of the chain, and saw that word last, as others' locks have it
pub record IsContending (floor : Description) (l seen : ℕ) (v : Knowledge) : Type 0 where
  pub there : IsThere floor l v
  pub saw : Saw l (word_of seen) v
  pub seen_so : CanBeSeen ((config_in floor).kind l) (word_of seen)

-- it stands on the lock's queue, and its walk is there
pub record IsStanding (l : ℕ) (there : Walk) (v : Knowledge) : Type 0 where
  pub unheld : hold_in v.share.held l ≡ NotHeld
  pub few : length v.share.held < most_held
  pub wants : v.share.doing.wanted ≡ Some l
  pub takes : v.share.doing.taking ≡ Some l
  pub stands : v.pose ≡ StandsOn (lock_queue l)
  pub walk_is : walk_of there ≡ v.share.doing.walk

-- it has counted itself out there, which left nobody awake: its walk has ended, and it halts others
pub record IsHaltingThere (floor : Description) (l : ℕ) (at : HaltAt) (v : Knowledge) : Type 0 where
  pub standing : IsStanding l walk.None v
  pub halts : IsAt floor at v

-- it has counted itself out there: its walk has ended, it has nothing out, and is parked, or aborted itself
pub record IsParked (l : ℕ) (v : Knowledge) : Type 0 where
  pub standing : IsStanding l walk.None v
  pub nothing_out : v.out ≡ []
  pub unmarked : v.share.doing.marked ≡ []
  pub at_resume : IsAtResume v.share.doing.phase

-- So at each place. With twice as many looks as are still allowed, a round has at most 98: before it, two first
-- exchanges may have missed
abbrev pub IsTaking : Description → ℕ → TakeAt → Knowledge → Type 0
IsTaking floor l Checks v = IsChecking floor l v
IsTaking floor l (Spins left) v = IsSeeking l v × (v.share.doing.looks + (left + left) ≤ 98)
IsTaking floor l ComesIn v = HasChainOut floor l v
IsTaking floor l (Contends seen) v = IsContending floor l seen v
IsTaking floor l (Walks there) v = IsStanding l there v × CanWalk floor v
IsTaking floor l (Hops there) v =
    IsStanding l there v × HasTurnstilesOut floor v × (walk_of there ≢ NoWalk)
IsTaking floor l (Halts at) v = IsHaltingThere floor l at v
IsTaking floor l Sleeps v = IsParked l v

-- who has counted itself out isn't awake, and is once it runs again; while it halts others, it may have one to wake
abbrev pub phase_at : TakeAt → Phase → Phase
phase_at Checks phase = phase
phase_at (Spins left) phase = phase
phase_at ComesIn phase = phase
phase_at (Contends seen) phase = phase
phase_at (Walks there) phase = phase
phase_at (Hops there) phase = phase
phase_at (Halts at) phase = Awake
phase_at Sleeps phase = Awake

abbrev pub marked_at : TakeAt → List Mark → List Mark
marked_at Checks ms = ms
marked_at (Spins left) ms = ms
marked_at ComesIn ms = ms
marked_at (Contends seen) ms = ms
marked_at (Walks there) ms = ms
marked_at (Hops there) ms = ms
marked_at (Halts at) ms = []
marked_at Sleeps ms = ms

-- but for that, this stays from place to place
abbrev pub kept_at : TakeAt → Knowledge → Kept
kept_at at v = record (kept_of v) {
  phase = phase_at at v.share.doing.phase;
  marked = marked_at at v.share.doing.marked;
}

-- an acquiring of the lock in that mode is under way, by a take or within a wait, and stands there
pub record IsUnderAcquiring (floor : Description) (l : LockNo) (mode : Mode) (at : TakeAt)
    (v : Knowledge) : Type 0 where
  pub covered : IsCovered floor l.0 mode
  pub calling : CanAcquire floor (kept_at at v)
  pub there : IsTaking floor l.0 at v

-- a take of the lock in that mode is under way, and stands there
pub record IsUnderTake (floor : Description) (l : LockNo) (mode : Mode) (at : TakeAt)
    (v : Knowledge) : Type 0 where
  pub covered : IsCovered floor l.0 mode
  pub calling : IsCalling floor (kept_at at v)
  pub room : 1 ≤ v.spare
  pub there : IsTaking floor l.0 at v

-- it is behind the check of its order, and hasn't counted itself out, or halts others
abbrev pub IsBetween : TakeAt → Type 0
IsBetween Checks = ⊥
IsBetween (Spins left) = ⊤
IsBetween ComesIn = ⊤
IsBetween (Contends seen) = ⊤
IsBetween (Walks there) = ⊤
IsBetween (Hops there) = ⊤
IsBetween (Halts at) = ⊤
IsBetween Sleeps = ⊥

-- the call that the pass is in the middle of is a take
pub record IsInTake (floor : Description) (p : Pass Knowledge) : Type 0 where
  pub l : LockNo
  pub mode : Mode
  pub at : TakeAt
  pub call : p.call ≡ calls.Take l mode at
  pub there : IsUnderTake floor l mode at p.view

-- 2. What it does from one place to the next

-- So many looks are left of so many behind one that saw the word: one less where the thread may look again; and none
-- where the word lets it gain the lock by a claim alone, or of a mutex names an owner who is Queued
pub data LeavesLooks (floor : Description) (kind : Kind) (mode : Mode) (word : Word) (left : ℕ) : ℕ
    → Knowledge → Knowledge → Type 0 where
  again : {old new : Knowledge} → LooksAgain floor kind mode word old new
      → LeavesLooks floor kind mode word left (left - 1) old new
  for_claim : {v : Knowledge} → course kind word mode ≡ ByClaim
      → LeavesLooks floor kind mode word left 0 v v
  owner_queued : {old new : Knowledge} → kind ≡ Mtx → AsksOwner floor word true old new
      → LeavesLooks floor kind mode word left 0 old new

-- the item that a take needs to go on from there: another thread may have it out. What a halting needs, its own leg
-- tells
abbrev pub AwaitsInTake : Description → Knowledge → ℕ → TakeAt → Item → Type 0
AwaitsInTake floor v l Checks i = i ≡ ClassGraph
AwaitsInTake floor v l (Spins left) i = (left ≡ 0) × (i ≡ its_chain floor (lock_queue l))
AwaitsInTake floor v l ComesIn i = i ≡ RecordOf v.thread
AwaitsInTake floor v l (Contends seen) i = ⊥
AwaitsInTake floor v l (Walks there) i = (there ≢ walk.None) × (i ≡ turnstiles)
AwaitsInTake floor v l (Hops there) i = (o : ℕ) × NeedsRecord floor o v × (i ≡ RecordOf o)
AwaitsInTake floor v l (Halts at) i = ⊥
AwaitsInTake floor v l Sleeps i = ⊥

-- Once its lock's order was checked, its round begins with an exchange from the free word, which missed: a look. There
-- it looks, and tries where it saw that it can; and behind each look it asks whether the owner is queued whom the word
-- names that it saw last. Once no looks are left, it takes the chain, then its own record, is ready for the queue, and
-- looks. There an exchange that misses is a look, which saw another word; or it comes to stand on the queue. It makes
-- hop after hop of its walk, and counts itself out; where that left nobody awake, it halts others, part by part. Where
-- it was woken it begins another round: by a signal, or where it takes a lock back within a wait by an abort too. Or it
-- found out what it needs, or that it is queued still
pub data TakeLeg (floor : Description) (l : LockNo) (mode : Mode) : TakeAt → TakeAt → Knowledge
    → Knowledge → Type 0 where
  admitted : {old new : Knowledge} (seen : Knowledge) (left rest : ℕ) (found : Word)
      → left ≤ 49 → MakesEach floor (begins_round old.thread l.0) old seen
      → HasSeen l.0 found seen → found ≢ word_of 0
      → LeavesLooks floor ((config_in floor).kind l.0) mode found left rest seen new
      → TakeLeg floor l mode Checks (Spins rest) old new
  looks : {old new : Knowledge} (seen : Knowledge) (left n rest : ℕ) (word : Word)
      → 1 ≤ left → LooksOn floor l.0 mode n word old seen
      → LeavesLooks floor ((config_in floor).kind l.0) mode word left rest seen new
      → TakeLeg floor l mode (Spins left) (Spins rest) old new
  takes_chain : {old new : Knowledge}
      → Makes floor (TakesItem old.thread (its_chain floor (lock_queue l.0)) ∷ []) old new
      → TakeLeg floor l mode (Spins 0) ComesIn old new
  comes_in : {old new : Knowledge} (seen : ℕ)
      → MakesEach floor
      ((TakesItem old.thread (RecordOf old.thread) ∷ [])
      ∷ (Readies old.thread (lock_queue l.0) ∷ []) ∷ (Looks old.thread l.0 false ∷ []) ∷ [])
      old new
      → TakeLeg floor l mode ComesIn (Contends seen) old new
  looks_there : {old new : Knowledge} (seen found : ℕ) → found ≢ seen
      → Makes floor (Looks old.thread l.0 false ∷ []) old new
      → TakeLeg floor l mode (Contends seen) (Contends found) old new
  enters : {old new : Knowledge} (seen x : ℕ) (there : Walk)
      → MakesEach floor
      ((enters_by ((config_in floor).kind l.0) old.thread l.0 mode x ∷ [])
      ∷ gives_both floor old.thread l.0) old new
      → TakeLeg floor l mode (Contends seen) (Walks there) old new
  takes_turnstiles : {old new : Knowledge} (there : Walk)
      → Takes floor turnstiles (turnstiles_place floor) old new
      → TakeLeg floor l mode (Walks there) (Hops there) old new
  hops : {old new : Knowledge} (there to : Walk) → HopsOn floor (walk_of to) old new
      → TakeLeg floor l mode (Hops there) (Walks to) old new
  counts_out : {old new : Knowledge} → Makes floor (CountsOut old.thread ∷ []) old new
      → new.share.doing.phase ≡ Asleep → TakeLeg floor l mode (Walks walk.None) Sleeps old new
  is_last : {old new : Knowledge} → Makes floor (CountsOut old.thread ∷ []) old new
      → IsLast floor new → TakeLeg floor l mode (Walks walk.None) (Halts halts.Finds) old new
  halts_on : {old new : Knowledge} (at to : HaltAt) → HaltsOn floor at to old new
      → TakeLeg floor l mode (Halts at) (Halts to) old new
  has_halted : {old new : Knowledge} (at : HaltAt) → EndsHalting floor at old new
      → TakeLeg floor l mode (Halts at) Sleeps old new
  resumes : {old new : Knowledge} (left : ℕ) (cause : Cause) → left ≤ 48
      → (cause ≡ ByAbort → is_taking_back old.share.log ≡ true)
      → Makes floor (Resumes old.thread (lock_queue l.0) cause ∷ []) old new
      → TakeLeg floor l mode Sleeps (Spins left) old new
  finds_out : {old new : Knowledge} (at : TakeAt) (i : Item)
      → AwaitsInTake floor old l.0 at i → new ≡ seeing new.seen old
      → FindsOut floor i old new → TakeLeg floor l mode at at old new
  is_queued : {old new : Knowledge} → new ≡ seeing new.seen old → FindsQueued floor old new
      → TakeLeg floor l mode Sleeps Sleeps old new

-- the take went on, and stands there
pub record TakesOn (floor : Description) (l : LockNo) (mode : Mode) (at to : TakeAt)
    (old new : Knowledge) : Type 0 where
  pub there : IsTaking floor l.0 to new
  pub kept : kept_at to new ≡ kept_at at old
  pub leg : TakeLeg floor l mode at to old new

-- it went on so, and woke that thread of the floor
pub record WakesInTake (floor : Description) (l : LockNo) (mode : Mode) (at to : TakeAt) (t : ℕ)
    (old new : Knowledge) : Type 0 where
  pub on : TakesOn floor l mode at to old new
  pub wakes : WakesOther t old new
  pub of_floor : t < length floor.threads

-- 3. How it ends

-- the thread holds the lock, has noted that, and is at rest
pub record HasTaken (floor : Description) (l : LockNo) (mode : Mode) (old new : Knowledge) : Type 0
  where
    pub rest : IsAtRest floor new
    pub entry : MakesEntry floor (Event.Locked l mode)
        (old.share.held ++ as_taken l mode ∷ []) old new

-- How it gains the lock: its order was checked, and it gained it at once; or it saw in its round that it can, and
-- gained it; or it gained it in the section of the chain, and ran on
pub data TakeEnd (floor : Description) (l : LockNo) (mode : Mode) : TakeAt → Knowledge → Knowledge
    → Type 0 where
  at_check : {old new : Knowledge} → MakesEach floor (gains_checked old.thread l.0 mode) old new
      → TakeEnd floor l mode Checks old new
  in_round : {old new : Knowledge} (left : ℕ) → 1 ≤ left
      → MakesEach floor (gains_in_round old.thread l.0 mode) old new
      → TakeEnd floor l mode (Spins left) old new
  in_section : {old new : Knowledge} (seen : ℕ) (gain : Step)
      → IsGain old.thread l.0 mode false gain
      → MakesEach floor ((gain ∷ []) ∷ runs_on floor old.thread l.0) old new
      → TakeEnd floor l mode (Contends seen) old new

-- a take that stood there gained the lock so, and noted that
pub record TakeEnds (floor : Description) (l : LockNo) (mode : Mode) (at : TakeAt)
    (old new : Knowledge) : Type 0 where
  pub gained : Knowledge
  pub gains : TakeEnd floor l mode at old gained
  pub notes : Makes floor (Stamps old.thread (Event.Locked l mode) ∷ []) gained new

-- or it was refused: the lock's order was checked, and of the classes of the locks that the thread holds this is the
-- first that forbids the lock's. That is noted, nothing else of the thread is new, and it is at rest
pub record IsRefused (floor : Description) (l : LockNo) (r : Reversal) (old new : Knowledge) :
    Type 0 where
  pub wanted : r.wanted.0 ≡ (config_in floor).class l.0
  pub rest : IsAtRest floor new
  pub entry : MakesEntry floor (Event.Reversed l r.held) old.share.held old new
  pub steps : MakesEach floor (refuses old.thread l r.held) old new

-- Or its sleep was ended by an abort, as none on a turnstile is: the thread ran again, and noted that while the halt
-- word is 1; it holds what it held, and is at rest
pub record IsHalted (floor : Description) (l : LockNo) (at : TakeAt) (old new : Knowledge) : Type 0
  where
    pub sleeps : is_turnstile ((config_in floor).kind l.0) ≡ false
    pub slept : at ≡ Sleeps
    pub rest : IsAtRest floor new
    pub entry : MakesEntry floor (Event.HaltedLock l) old.share.held old new
    pub runs : Knowledge
    pub resumes : Makes floor (Resumes old.thread (lock_queue l.0) ByAbort ∷ []) old runs
    pub notes : Makes floor (Stamps old.thread (Event.HaltedLock l) ∷ []) runs new
    pub halt_word : notes.state.halted ≡ true

-- so a take that stood there wasn't granted
abbrev pub IsNotTaken : Description → LockNo → TakeAt → Refused → Knowledge → Knowledge → Type 0
IsNotTaken floor l at (refused.Reversal r) old new = (at ≡ Checks) × IsRefused floor l r old new
IsNotTaken floor l at (refused.Halted h) old new = IsHalted floor l at old new

-- where a take stands behind a part that wakes nobody
abbrev pub stands_at : Option TakeAt → TakeNext
stands_at None = next.Gained
stands_at (Some at) = next.At at

-- what the thread knows once it gained the lock by a part, and how it did
abbrev pub GainsByPart : Description → LockNo → Mode → TakeAt → Knowledge → Knowledge → Type 0
GainsByPart floor l mode at old new =
    HasGained l mode old new × TakeEnd floor l mode at old new

-- a part of a take from there: the lock is gained, which is still to be noted; or it stands somewhere, and woke no
-- other thread, or that one
abbrev pub TakesPart : Description → LockNo → Mode → TakeAt → TakeNext → Knowledge → Knowledge
    → Type 0
TakesPart floor l mode at next.Gained old new = GainsByPart floor l mode at old new
TakesPart floor l mode at (next.At to) old new =
    TakesOn floor l mode at to old new × WakesNoOther old new
TakesPart floor l mode at (next.Wake t to) old new = WakesInTake floor l mode at to t.0 old new

-- 4. What the calls promise

-- a take was ended in its sleep: it has noted that, holds what it held, and is at rest
pub record WasHalted (floor : Description) (l : LockNo) (mode : Mode) (old new : Knowledge) : Type 0
  where
    pub sleeps : is_turnstile ((config_in floor).kind l.0) ≡ false
    pub rest : IsAtRest floor new
    pub entry : MakesEntry floor (Event.HaltedLock l) old.share.held old new
    pub ends : EndsAsleep floor l mode old new

-- it wasn't the order that refused it
abbrev pub IsHalt : Refused → Type 0
IsHalt (refused.Reversal r) = ⊥
IsHalt (refused.Halted h) = ⊤

-- a take wasn't granted: by the order of locks, or since its sleep was ended
abbrev pub WasNotTaken : Description → LockNo → Mode → Refused → Knowledge → Knowledge → Type 0
WasNotTaken floor l mode (refused.Reversal r) old new = IsRefused floor l r old new
WasNotTaken floor l mode (refused.Halted h) old new = WasHalted floor l mode old new

-- what is to be done next, where a take stands there: to sleep where it has counted itself out, or else to go on
abbrev pub next_at : TakeAt → Next
next_at Checks = Again
next_at (Spins left) = Again
next_at ComesIn = Again
next_at (Contends seen) = Again
next_at (Walks there) = Again
next_at (Hops there) = Again
next_at (Halts at) = Again
next_at Sleeps = Sleep

-- the lock's order is to be checked; where the thread holds nothing, its first exchanges came before, and missed
pub record BeginsTake (floor : Description) (l : LockNo) (mode : Mode) (p q : Pass Knowledge) :
    Type 0 where
  pub call : q.call ≡ calls.Take l mode Checks
  pub there : IsUnderTake floor l mode Checks q.view
  pub kept : kept_of q.view ≡ kept_of p.view
  pub missed : ℕ
  pub first : HasMissedFirst floor l.0 mode missed p.view q.view

-- or one of these exchanges gained the lock, and that is noted
pub record TakesAtOnce (floor : Description) (l : LockNo) (mode : Mode) (p q : Pass Knowledge) :
    Type 0 where
  pub call : q.call ≡ calls.None
  pub bare : p.view.share.held ≡ []
  pub taken : HasTaken floor l mode p.view q.view
  pub gained : Knowledge
  pub gains : GainsFirst floor l.0 mode p.view gained
  pub notes : Makes floor (Stamps p.view.thread (Event.Locked l mode) ∷ []) gained q.view

-- a take has begun: it gained the lock at once, where its thread holds nothing, or is under way
abbrev pub HasBegunTake : Description → LockNo → Mode → Next → Pass Knowledge → Pass Knowledge
    → Type 0
HasBegunTake floor l mode Done p q = TakesAtOnce floor l mode p q
HasBegunTake floor l mode Again p q = BeginsTake floor l mode p q
HasBegunTake floor l mode Sleep p q = ⊥
HasBegunTake floor l mode (Wake t) p q = ⊥
HasBegunTake floor l mode (Reversed r) p q = ⊥
HasBegunTake floor l mode Halted p q = ⊥

-- the take went on from there, and stands somewhere; it woke no other thread
pub record StandsInTake (floor : Description) (l : LockNo) (mode : Mode) (at : TakeAt)
    (next : Next) (p q : Pass Knowledge) : Type 0 where
  pub to : TakeAt
  pub call : q.call ≡ calls.Take l mode to
  pub next_is : next_at to ≡ next
  pub on : TakesOn floor l mode at to p.view q.view
  pub wakes_no_other : WakesNoOther p.view q.view

-- or stands somewhere and woke that thread, whose sleep is to be ended
pub record StandsAndWakes (floor : Description) (l : LockNo) (mode : Mode) (at : TakeAt) (t : ℕ)
    (p q : Pass Knowledge) : Type 0 where
  pub to : TakeAt
  pub call : q.call ≡ calls.Take l mode to
  pub wakes : WakesInTake floor l mode at to t p.view q.view

-- a take that stood there was refused, and ended
pub record EndsRefused (floor : Description) (l : LockNo) (at : TakeAt) (r : Reversal)
    (p q : Pass Knowledge) : Type 0 where
  pub call : q.call ≡ calls.None
  pub at_check : at ≡ Checks
  pub refused : IsRefused floor l r p.view q.view

-- or was ended in its sleep
pub record EndsHalted (floor : Description) (l : LockNo) (at : TakeAt) (p q : Pass Knowledge) :
    Type 0 where
  pub call : q.call ≡ calls.None
  pub halted : IsHalted floor l at p.view q.view

-- a take that stood there went on: it ended, or stands somewhere, or was refused
abbrev pub GoesOnTaking : Description → LockNo → Mode → TakeAt → Next → Pass Knowledge
    → Pass Knowledge → Type 0
GoesOnTaking floor l mode at Done p q =
    (q.call ≡ calls.None) × HasTaken floor l mode p.view q.view
    × TakeEnds floor l mode at p.view q.view
GoesOnTaking floor l mode at Again p q = StandsInTake floor l mode at Again p q
GoesOnTaking floor l mode at Sleep p q = StandsInTake floor l mode at Sleep p q
GoesOnTaking floor l mode at (Wake t) p q = StandsAndWakes floor l mode at t.0 p q
GoesOnTaking floor l mode at (Reversed r) p q = EndsRefused floor l at r p q
GoesOnTaking floor l mode at Halted p q = EndsHalted floor l at p q
