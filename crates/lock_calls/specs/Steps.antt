-- Which locks the calls of this crate are for, and the steps that a take and a release make.
use Rattle.std.specs.Prelude.{◌≡◌, ◌≢◌, ◌⊎◌, ℕ, ◌+◌, ◌<◌, ◌≤◌, Bool, true, false, List, [], ◌∷◌, ◌++◌, length, replicate, Option, Some, None, ⊤}
use Rattle.lock_model.specs.Queues.{Cause, BySignal, ByAbort, Mark, lock_queue}
use Rattle.lock_model.specs.Holds.{NotHeld, Holds}
use Rattle.lock_model.specs.Limits.{most_held}
use Rattle.lock_model.specs.Operations.{hold_in}
use Rattle.lock_model.specs.Words.{Word, word_of}
use Rattle.lock_model.specs.declared.event.Event.{Event}
use Rattle.lock_model.specs.declared.event.Held.{Held}
use Rattle.lock_model.specs.declared.numbers.ClassNo.{ClassNo}
use Rattle.lock_model.specs.declared.numbers.LockNo.{LockNo}
use Rattle.lock_model.specs.declared.plan.Kind.{Kind}
use Rattle.lock_model.specs.declared.plan.Kind.TheVariants.{Mtx, Rw, Sx}
use Rattle.lock_model.specs.declared.plan.Mode.{Mode}
use Rattle.lock_model.specs.declared.plan.Mode.TheVariants.{Excl, Shared}
use Rattle.lock_state.specs.Steps.{Step, Seeks, Looks, Gains, Drops, Stamps, TakesItem, GivesItem, Readies, Unreadies, Enters, Opens, EntersSleepQueue, OpensSleepQueue, Claims, Resumes}
use Rattle.lock_state.specs.Steps.Items.{RecordOf}
use Rattle.floor_table.specs.Descriptions.{config_in}
use Rattle.floor_table.specs.declared.description.Description.{Description}
use Rattle.floor_table.specs.Steps.{Makes, MakesEach}
use Rattle.floor_table.specs.Views.{Knowledge}
use Rattle.lock_floor.specs.Marks.{marking}
use Rattle.lock_floor.specs.Ordering.{checks}
use Rattle.lock_floor.specs.Waits.{its_chain}
use Rattle.lock_floor.specs.Walks.{Walks}
use Rattle.halting.specs.Halts.{CountsItselfOut}
use Rattle.lock_calls.specs.Choices.{course}
use Rattle.lock_calls.specs.Rounds.{HasSeen, LooksAgain, LooksOn}
use Rattle.lock_calls.specs.declared.courses.Course.TheVariants.{Plainly}

-- 1. Which locks

-- the lock is one of the floor's mutexes
pub record IsMutex (floor : Description) (l : ℕ) : Type 0 where
  pub lock : l < length floor.locks
  pub kind : (config_in floor).kind l ≡ Mtx

-- the calls are there for the lock in that mode: it is one of the floor's locks, and a mutex only exclusively
pub record IsCovered (floor : Description) (l : ℕ) (mode : Mode) : Type 0 where
  pub lock : l < length floor.locks
  pub mutex : (config_in floor).kind l ≡ Mtx → mode ≡ Excl

-- the thread may take the lock in that mode: it doesn't hold it, may hold one more lock, and has room for an entry
pub record MayTake (floor : Description) (l : ℕ) (mode : Mode) (v : Knowledge) : Type 0 where
  pub covered : IsCovered floor l mode
  pub unheld : hold_in v.share.held l ≡ NotHeld
  pub few : length v.share.held < most_held
  pub room : 1 ≤ v.spare

-- it may release it: it holds it in that mode, and has room for an entry
pub record MayRelease (floor : Description) (l : ℕ) (mode : Mode) (v : Knowledge) : Type 0 where
  pub covered : IsCovered floor l mode
  pub held : hold_in v.share.held l ≡ Holds mode
  pub room : 1 ≤ v.spare

-- 2. A take

-- the lock as it is held then
abbrev pub as_taken : LockNo → Mode → Held
as_taken l mode = record { l = l; mode = mode; by_try = false }

-- The step by which a thread gains a lock in a mode, for a try or for a blocking call: it gains it plainly; or, where
-- the mode is exclusive, it claims it, and owns the turnstile h that stands there
abbrev pub IsGain : ℕ → ℕ → Mode → Bool → Step → Type 0
IsGain t l mode by_try step =
    (step ≡ Gains t l mode by_try) ⊎ ((mode ≡ Excl) × (h : ℕ) × (step ≡ Claims t l h by_try))

-- it gains by one exchange, which begins its round and ends it
abbrev pub gains_at_once : ℕ → ℕ → Mode → List Step
gains_at_once t l mode = Seeks t l false ∷ Gains t l mode false ∷ []

-- So many first exchanges of a call that holds nothing may miss before its lock's order is checked: of a mutex one, and
-- of a lock that can be shared a second
abbrev pub most_missed : Kind → ℕ
most_missed Mtx = 1
most_missed Rw = 2
most_missed Sx = 2

-- so many first exchanges of a call of a lock of that kind missed: one at least where its thread holds nothing, and
-- none where it holds a lock
abbrev pub FirstMisses : Kind → List Held → ℕ → Type 0
FirstMisses kind [] missed = (1 ≤ missed) × (missed ≤ most_missed kind)
FirstMisses kind (h ∷ hs) missed = missed ≡ 0

-- So many first exchanges of a call missed, one behind the other, outside a round, and the next would go from that
-- word: the first goes from the free word, and each other from the word that the one before it found, where that admits
-- the mode plainly. One that missed was a look, which saw another word than the one that it went from
pub data MissesFirst (floor : Description) (l : ℕ) (mode : Mode) : ℕ → Word → Knowledge → Knowledge
    → Type 0 where
  none_missed : {old : Knowledge} → MissesFirst floor l mode 0 (word_of 0) old old
  one_missed : {old mid new : Knowledge} (missed : ℕ) (from found : Word)
      → MissesFirst floor l mode missed from old mid
      → course ((config_in floor).kind l) from mode ≡ Plainly
      → Makes floor (Looks old.thread l true ∷ []) mid new
      → new.share.doing.last_look ≡ Some (record { lock = l; word = found }) → found ≢ from
      → MissesFirst floor l mode (missed + 1) found old new

-- A call's first exchanges missed, where its thread holds nothing, or it made none. It makes another where one more may
-- miss, and the word that was found admits the mode plainly
pub record HasMissedFirst (floor : Description) (l : ℕ) (mode : Mode) (missed : ℕ)
    (old new : Knowledge) : Type 0 where
  pub first : FirstMisses ((config_in floor).kind l) old.share.held missed
  pub next : Word
  pub misses : MissesFirst floor l mode missed next old new
  pub all : 1 ≤ missed → missed < most_missed ((config_in floor).kind l)
      → course ((config_in floor).kind l) next mode ≢ Plainly

-- or one of them gained the lock, behind those that missed, from a word that admits the mode plainly
pub record GainsFirst (floor : Description) (l : ℕ) (mode : Mode) (old new : Knowledge) : Type 0
  where
    pub missed : ℕ
    pub fewer : missed < most_missed ((config_in floor).kind l)
    pub next : Word
    pub between : Knowledge
    pub misses : MissesFirst floor l mode missed next old between
    pub plainly : course ((config_in floor).kind l) next mode ≡ Plainly
    pub gains : Makes floor (gains_at_once old.thread l mode) between new

-- its lock's order is checked, and then a round begins with a look
abbrev pub begins_round : ℕ → ℕ → List (List Step)
begins_round t l = checks t l None ++ (Seeks t l false ∷ Looks t l true ∷ []) ∷ []

-- or with the gain, which ends it
abbrev pub gains_checked : ℕ → ℕ → Mode → List (List Step)
gains_checked t l mode = checks t l None ++ gains_at_once t l mode ∷ []

-- in the round a look comes, and then the gain
abbrev pub gains_in_round : ℕ → ℕ → Mode → List (List Step)
gains_in_round t l mode = (Looks t l true ∷ []) ∷ (Gains t l mode false ∷ []) ∷ []

-- What a thread does in the section of the lock's chain.

-- it takes the chain and then its own record, and its wait word says that it is queued
abbrev pub comes_there : Description → ℕ → ℕ → List (List Step)
comes_there floor t l =
    (TakesItem t (its_chain floor (lock_queue l)) ∷ []) ∷ (TakesItem t (RecordOf t) ∷ [])
    ∷ (Readies t (lock_queue l) ∷ []) ∷ []

-- both go home again, the record first
abbrev pub gives_both : Description → ℕ → ℕ → List (List Step)
gives_both floor t l =
    (GivesItem t (RecordOf t) ∷ []) ∷ (GivesItem t (its_chain floor (lock_queue l)) ∷ []) ∷ []

-- its wait word says that it runs, and both go home
abbrev pub runs_on : Description → ℕ → ℕ → List (List Step)
runs_on floor t l = (Unreadies t (lock_queue l) ∷ []) ∷ gives_both floor t l

-- behind so many looks there, with the exchanges that missed, it gains the lock by that step, and runs on
abbrev pub gains_there : Description → ℕ → ℕ → Step → ℕ → List (List Step)
gains_there floor t l gain n =
    comes_there floor t l
    ++ ((replicate n (Looks t l false ∷ []) ++ (gain ∷ []) ∷ []) ++ runs_on floor t l)

-- The step by which it comes to stand on the queue of a lock of a kind, to which it lends x: that is its turnstile, or
-- for an sx lock its sleep queue
abbrev pub enters_by : Kind → ℕ → ℕ → Mode → ℕ → Step
enters_by Mtx t l mode x = Enters t l mode x
enters_by Rw t l mode x = Enters t l mode x
enters_by Sx t l mode x = EntersSleepQueue t l mode x

-- or it comes to stand on the lock's queue
abbrev pub enters_there : Description → ℕ → ℕ → Mode → ℕ → ℕ → List (List Step)
enters_there floor t l mode n x =
    comes_there floor t l
    ++ ((replicate n (Looks t l false ∷ [])
    ++ (enters_by ((config_in floor).kind l) t l mode x ∷ []) ∷ [])
    ++ gives_both floor t l)

-- A thread that stands there makes the hops of its walk, and counts itself out; where that left nobody awake, it halts
-- others. It sleeps until it is woken by that cause, and runs again. On a sleep queue its walk is over at once
pub record Sleeps (floor : Description) (l : ℕ) (cause : Cause) (old new : Knowledge) : Type 0 where
  pub walked : Knowledge
  pub walk : Walks floor old walked
  pub parked : Knowledge
  pub counts : CountsItselfOut floor walked parked
  pub resumes : Makes floor (Resumes old.thread (lock_queue l) cause ∷ []) parked new

-- How a thread is in an acquiring round of a lock: with so many looks since the begin or its last sleep, and with the
-- word that it saw last there, or none where it may look. A take comes to one once its lock's order was checked, by an
-- exchange from the free word, which missed; where its thread holds nothing it makes first exchanges before that,
-- outside the round, which missed. A wait that takes its lock back is in one from the begin, which its resume from the
-- channel began. In it the thread looks; and behind a look, which that exchange is too, it may look again, of a mutex
-- only where the owner isn't Queued. A round ends with an enter, behind at most 100 looks, with the exchanges that
-- missed; and behind the sleep another begins: of a take, where the thread was woken by a signal; of a taking back by
-- whatever woke it
pub data IsInRound (floor : Description) (l : ℕ) (mode : Mode) (back : Bool) : Option Word → ℕ
    → Knowledge → Knowledge → Type 0 where
  begins : {old u new : Knowledge} (missed : ℕ) (found : Word) → back ≡ false
      → HasMissedFirst floor l mode missed old u
      → MakesEach floor (begins_round old.thread l) u new → HasSeen l found new → found ≢ word_of 0
      → IsInRound floor l mode back (Some found) (missed + 1) old new
  is_in_one : {old : Knowledge} → back ≡ true → IsInRound floor l mode back None 0 old old
  looks_on : {old u new : Knowledge} (looks n : ℕ) (word : Word)
      → IsInRound floor l mode back None looks old u → LooksOn floor l mode n word u new
      → IsInRound floor l mode back (Some word) (looks + n) old new
  may_look_again : {old u new : Knowledge} (looks : ℕ) (word : Word)
      → IsInRound floor l mode back (Some word) looks old u
      → LooksAgain floor ((config_in floor).kind l) mode word u new
      → IsInRound floor l mode back None looks old new
  sleeps : {old u v new : Knowledge} (last : Option Word) (looks m x : ℕ) (cause : Cause)
      → IsInRound floor l mode back last looks old u → looks ≤ 100
      → MakesEach floor (enters_there floor old.thread l mode m x) u v
      → (back ≡ false → cause ≡ BySignal)
      → Sleeps floor l cause v new → IsInRound floor l mode back None 0 old new

-- How it gains: of a take by a first exchange of a thread that holds nothing, or by the first one of its round, once
-- its lock's order was checked; in a round, behind at most 100 looks; or in the section of the lock's chain, which it
-- takes behind at most 100 looks. So a chain that it took goes home only behind a gain or an enter
pub data Acquires (floor : Description) (l : ℕ) (mode : Mode) (back : Bool) : Knowledge → Knowledge
    → Type 0 where
  at_once : {old new : Knowledge} → back ≡ false → old.share.held ≡ []
      → GainsFirst floor l mode old new
      → Acquires floor l mode back old new
  checked : {old u new : Knowledge} (missed : ℕ) → back ≡ false
      → HasMissedFirst floor l mode missed old u
      → MakesEach floor (gains_checked old.thread l mode) u new
      → Acquires floor l mode back old new
  in_round : {old u new : Knowledge} (looks : ℕ)
      → IsInRound floor l mode back None looks old u → looks < 100
      → MakesEach floor (gains_in_round old.thread l mode) u new
      → Acquires floor l mode back old new
  in_section : {old u new : Knowledge} (last : Option Word) (looks m : ℕ) (gain : Step)
      → IsInRound floor l mode back last looks old u → looks ≤ 100
      → IsGain old.thread l mode false gain
      → MakesEach floor (gains_there floor old.thread l gain m) u new
      → Acquires floor l mode back old new

-- a wait takes its lock back so
abbrev pub TakesBackBy : Description → ℕ → Mode → Knowledge → Knowledge → Type 0
TakesBackBy floor l mode old new = Acquires floor l mode true old new

-- a take gains the lock, and notes it
pub record Locks (floor : Description) (l : LockNo) (mode : Mode) (old new : Knowledge) : Type 0
  where
    pub gained : Knowledge
    pub gains : Acquires floor l.0 mode false old gained
    pub notes : Makes floor (Stamps old.thread (Event.Locked l mode) ∷ []) gained new

-- Or it came to stand on the lock's queue, its sleep was ended by an abort, and it notes that, while the halt word is 1
pub record EndsAsleep (floor : Description) (l : LockNo) (mode : Mode) (old new : Knowledge) :
    Type 0 where
  pub last : Option Word
  pub looks : ℕ
  pub looked : Knowledge
  pub rounds : IsInRound floor l.0 mode false last looks old looked
  pub few : looks ≤ 100
  pub m : ℕ
  pub x : ℕ
  pub stands : Knowledge
  pub enters : MakesEach floor (enters_there floor old.thread l.0 mode m x) looked stands
  pub runs : Knowledge
  pub sleeps : Sleeps floor l.0 ByAbort stands runs
  pub notes : Makes floor (Stamps old.thread (Event.HaltedLock l) ∷ []) runs new
  pub halt_word : notes.state.halted ≡ true

-- the atomic steps of a refusal: the lock's order is checked, this class forbids the lock's, and that is noted
abbrev pub refuses : ℕ → LockNo → ClassNo → List (List Step)
refuses t l class = checks t l.0 (Some class.0) ++ (Stamps t (Event.Reversed l class) ∷ []) ∷ []

-- 3. A release

-- How it puts the lock down, behind so many exchanges that missed: by one that hits, a drop; or in the section of the
-- lock's chain behind so many looks there: by an open, which takes those who wait off the queue, or else by a
-- drop. Then it wakes whom it took off.
pub data Release : Type 0 where
  ByDrop : ℕ → Release
  InSection : ℕ → ℕ → Bool → List Mark → Release

-- Of a lock that is held exclusively one exchange is made outside the section: where it missed, waiters are shown. Of
-- one that is held shared others may come and go: it tries again from the word that it found, where that may be dropped
abbrev pub IsReleaseIn : Mode → Release → Type 0
IsReleaseIn Excl (ByDrop k) = k ≡ 0
IsReleaseIn Excl (InSection k n opens ms) = k ≡ 1
IsReleaseIn Shared (ByDrop k) = ⊤
IsReleaseIn Shared (InSection k n opens ms) = 1 ≤ k

-- the step by which the last holder of a lock of a kind takes those who wait off its turnstile, or off the sleep queue
-- of an sx lock
abbrev pub opens_by : Kind → ℕ → ℕ → Mode → Step
opens_by Mtx t l mode = Opens t l mode
opens_by Rw t l mode = Opens t l mode
opens_by Sx t l mode = OpensSleepQueue t l mode

-- the step by which the thread lets the lock go
abbrev pub frees : Kind → ℕ → ℕ → Mode → Bool → Step
frees kind t l mode false = Drops t l mode
frees kind t l mode true = opens_by kind t l mode

-- the thread takes the chain and then its own record; behind the looks there it lets the lock go, gives both back, and
-- wakes those of a list
abbrev pub releases_there : Description → ℕ → ℕ → Mode → ℕ → Bool → List Mark → List (List Step)
releases_there floor t l mode n opens ms =
    (TakesItem t (its_chain floor (lock_queue l)) ∷ []) ∷ (TakesItem t (RecordOf t) ∷ [])
    ∷ ((replicate n (Looks t l false ∷ [])
    ++ (frees ((config_in floor).kind l) t l mode opens ∷ []) ∷ [])
    ++ (gives_both floor t l ++ marking t ms))

abbrev pub releases_by : Description → ℕ → ℕ → Mode → Release → List (List Step)
releases_by floor t l mode (ByDrop k) =
    replicate k (Looks t l false ∷ []) ++ (Drops t l mode ∷ []) ∷ []
releases_by floor t l mode (InSection k n opens ms) =
    replicate k (Looks t l false ∷ []) ++ releases_there floor t l mode n opens ms

-- Within a wait a release isn't noted, and begins with a look outside the section. Of a lock that is held exclusively
-- one exchange is made there at most, from the word that the look saw
abbrev pub IsGivingUpIn : Mode → Release → Type 0
IsGivingUpIn Excl (ByDrop k) = k ≡ 1
IsGivingUpIn Excl (InSection k n opens ms) = (1 ≤ k) × (k ≤ 2)
IsGivingUpIn Shared (ByDrop k) = 1 ≤ k
IsGivingUpIn Shared (InSection k n opens ms) = 1 ≤ k

-- so the thread gives a lock up that it held in some mode
abbrev pub GivesUpBy : Description → ℕ → Knowledge → Knowledge → Type 0
GivesUpBy floor l old new =
    (mode : Mode) × (hold_in old.share.held l ≡ Holds mode) × (how : Release)
    × IsGivingUpIn mode how
    × MakesEach floor (releases_by floor old.thread l mode how) old new

-- a release is noted first
abbrev pub unlocks : Description → ℕ → LockNo → Mode → Release → List (List Step)
unlocks floor t l mode how =
    (Stamps t (Event.Unlocked l mode) ∷ []) ∷ releases_by floor t l.0 mode how
