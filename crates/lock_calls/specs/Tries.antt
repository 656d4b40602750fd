-- A try of a lock in a mode: the steps by which it gains the lock, or sees a word that doesn't
-- admit the mode. And the try as a call that stands at places: what the thread knows at each, what
-- it does from one to the next, and how the try ends.
use Rattle.std.specs.Prelude.{◌≡◌, ◌≢◌, ℕ, ◌-◌, ◌+◌, ◌<◌, ◌≤◌, true, false, List, [], ◌∷◌, ◌++◌, length, replicate, Option, Some, None}
use Rattle.lock_model.specs.Holds.{NotHeld}
use Rattle.lock_model.specs.Limits.{most_held}
use Rattle.lock_model.specs.Operations.{hold_in}
use Rattle.lock_model.specs.Queues.{lock_queue}
use Rattle.lock_model.specs.Words.{Word, word_of, IsWellFormed, admits, is_free}
use Rattle.lock_model.specs.declared.event.Event.{Event}
use Rattle.lock_model.specs.declared.event.Held.{Held}
use Rattle.lock_model.specs.declared.numbers.LockNo.{LockNo}
use Rattle.lock_model.specs.declared.plan.Kind.{Kind}
use Rattle.lock_model.specs.declared.plan.Mode.{Mode}
use Rattle.lock_laws.specs.Words.{CanBeSeen}
use Rattle.lock_state.specs.State.{Round, Walk, NoWalk}
use Rattle.lock_state.specs.Steps.{Step, Seeks, Looks, Gains, Stamps, TakesItem}
use Rattle.lock_state.specs.Steps.Items.{Item, RecordOf}
use Rattle.lock_state.specs.Steps.LockWords.{round_of}
use Rattle.floor_table.specs.Descriptions.{config_in}
use Rattle.floor_table.specs.declared.description.Description.{Description}
use Rattle.floor_table.specs.declared.slot.Slot.{Slot}
use Rattle.floor_table.specs.Steps.{Makes, MakesEach}
use Rattle.floor_table.specs.Views.{Pose, Runs, Knowledge, seeing}
use Rattle.lock_floor.specs.declared.calls.Call.TheVariants as calls
use Rattle.lock_floor.specs.declared.calls.TryAt.{TryAt}
use Rattle.lock_floor.specs.declared.calls.TryAt.TheVariants.{Tries, ComesIn, Decides}
use Rattle.lock_floor.specs.Floors.{Pass}
use Rattle.lock_floor.specs.Latches.{FindsOut}
use Rattle.lock_floor.specs.Passes.{IsAtRest, MakesEntry}
use Rattle.lock_floor.specs.Views.{gained}
use Rattle.lock_floor.specs.Waits.{its_chain, chain_place}
use Rattle.lock_calls.specs.Choices.{course}
use Rattle.lock_calls.specs.declared.courses.Course.{Course}
use Rattle.lock_calls.specs.declared.courses.Course.TheVariants.{Plainly, ByClaim, MustWait}
use Rattle.lock_calls.specs.declared.trying.TryNext.{TryNext}
use Rattle.lock_calls.specs.declared.trying.TryNext.TheVariants.{Gained, Busy, Again}
use Rattle.lock_calls.specs.Sections.{IsItsChain, HasRecordAndChain}
use Rattle.lock_calls.specs.Steps.{IsCovered, IsGain, gives_both}
use Rattle.lock_calls.specs.Rounds.{LooksOn, HasSeen}
use Rattle.lock_calls.specs.Waiting.{kept_of, IsCalling, Saw}

-- 1. The steps of a try

-- the lock as it is held then
abbrev pub as_tried : LockNo → Mode → Held
as_tried l mode = record { l = l; mode = mode; by_try = true }

-- A try's round begins with its first exchange, which missed and so was a look, and so many looks
-- come behind it
abbrev pub seeks_try : ℕ → ℕ → ℕ → List (List Step)
seeks_try t l n = (Seeks t l true ∷ Looks t l true ∷ []) ∷ replicate n (Looks t l true ∷ [])

-- behind these it takes the lock's chain and its own record, and looks so often there
abbrev pub tries_there : Description → ℕ → ℕ → ℕ → ℕ → List (List Step)
tries_there floor t l n m =
    seeks_try t l n ++ (TakesItem t (its_chain floor (lock_queue l)) ∷ [])
    ∷ (TakesItem t (RecordOf t) ∷ []) ∷ replicate m (Looks t l false ∷ [])

-- How a try gains: by its first exchange, which begins its round and ends it; in its round, behind
-- at most 100 looks; or behind at most 100 in the section of the lock's chain, where it looks too,
-- plainly or by a claim, and then it gives both back
pub data GainsByTry (floor : Description) (l : ℕ) (mode : Mode) : Knowledge → Knowledge → Type 0
  where
    at_once : {old new : Knowledge}
        → MakesEach floor ((Seeks old.thread l true ∷ Gains old.thread l mode true ∷ []) ∷ [])
        old new
        → GainsByTry floor l mode old new
    in_round : {old new : Knowledge} (n : ℕ) → n ≤ 99
        → MakesEach floor
        (seeks_try old.thread l n ++ (Gains old.thread l mode true ∷ []) ∷ []) old new
        → GainsByTry floor l mode old new
    in_section : {old new : Knowledge} (n m : ℕ) (gain : Step) → n ≤ 99 → 1 ≤ m
        → IsGain old.thread l mode true gain
        → MakesEach floor
        (tries_there floor old.thread l n m ++ (gain ∷ []) ∷ gives_both floor old.thread l) old new
        → GainsByTry floor l mode old new

-- a try gains the lock, and notes it
pub record GainsAndNotes (floor : Description) (l : LockNo) (mode : Mode) (old new : Knowledge) :
    Type 0 where
  pub gained : Knowledge
  pub gains : GainsByTry floor l.0 mode old gained
  pub notes : Makes floor (Stamps old.thread (Event.Tried l mode) ∷ []) gained new

-- how a try looks without a gain: in its round; or behind at most 100 looks in the section of the
-- lock's chain too, and then it gives both back
pub data LooksByTry (floor : Description) (l : ℕ) : Knowledge → Knowledge → Type 0 where
  looks_in_round : {old new : Knowledge} (n : ℕ) → n ≤ 99
      → MakesEach floor (seeks_try old.thread l n) old new → LooksByTry floor l old new
  looks_in_section : {old new : Knowledge} (n m : ℕ) → n ≤ 99 → 1 ≤ m
      → MakesEach floor
      (tries_there floor old.thread l n m ++ gives_both floor old.thread l) old new
      → LooksByTry floor l old new

-- the word is that of a held lock, and in a lock of that kind doesn't admit the mode
pub record IsBusyFor (kind : Kind) (mode : Mode) (word : Word) : Type 0 where
  pub formed : IsWellFormed word
  pub held : is_free word.holder ≡ false
  pub refused : admits kind word mode ≡ false

-- A try found the lock busy for its mode: a look of this call, its last, saw that word, which is
-- held and doesn't admit the mode that was tried; it noted the word, and nothing else
pub record WasBusyFor (floor : Description) (l : LockNo) (mode : Mode) (seen : ℕ)
    (old new : Knowledge) : Type 0 where
  pub between : Knowledge
  pub looks : LooksByTry floor l.0 old between
  pub saw : HasSeen l.0 (word_of seen) between
  pub word : IsBusyFor ((config_in floor).kind l.0) mode (word_of seen)
  pub note : Makes floor (Stamps old.thread (Event.Busy l seen) ∷ []) between new
  pub looked : old.share.doing.looks_in_all < new.share.doing.looks_in_all
  pub no_last_look : new.share.doing.last_look ≡ None

-- 2. What the thread knows at each place

-- what a thread is about, beside the round of its try and what it has out for it
pub record About : Type 0 where
  pub pose : Pose
  pub wanted : Option ℕ
  pub taking : Option ℕ
  pub walk : Walk

abbrev pub about_of : Knowledge → About
about_of v = record {
  pose = v.pose;
  wanted = v.share.doing.wanted;
  taking = v.share.doing.taking;
  walk = v.share.doing.walk;
}

-- nothing: it runs, wants and takes no lock, and has no walk
abbrev pub nothing_else : About
nothing_else = record { pose = Runs; wanted = None; taking = None; walk = NoWalk }

-- it is in a try's round of the lock, and has nothing out
pub record SeeksByTry (l : ℕ) (v : Knowledge) : Type 0 where
  pub unheld : hold_in v.share.held l ≡ NotHeld
  pub few : length v.share.held < most_held
  pub about : about_of v ≡ nothing_else
  pub round : v.share.doing.round ≡ Some (round_of l true)
  pub nothing_out : v.out ≡ []

-- the round of a try that has taken the lock's chain
abbrev pub tried_under : ℕ → Round
tried_under l = record { lock = l; by_try = true; in_chain = true }

-- it is in that one, and has the chain out
pub record HasChainInTry (floor : Description) (l : ℕ) (v : Knowledge) : Type 0 where
  pub unheld : hold_in v.share.held l ≡ NotHeld
  pub few : length v.share.held < most_held
  pub about : about_of v ≡ nothing_else
  pub round : v.share.doing.round ≡ Some (tried_under l)
  pub some_chains : 1 ≤ floor.chains
  pub chain : Slot
  pub of_lock : IsItsChain floor l chain
  pub out : v.out ≡ (chain_place floor (lock_queue l), chain) ∷ []

-- or the chain and its own record
pub record IsThereByTry (floor : Description) (l : ℕ) (v : Knowledge) : Type 0 where
  pub unheld : hold_in v.share.held l ≡ NotHeld
  pub few : length v.share.held < most_held
  pub about : about_of v ≡ nothing_else
  pub round : v.share.doing.round ≡ Some (tried_under l)
  pub some_chains : 1 ≤ floor.chains
  pub of_floor : v.thread < length floor.threads
  pub both : HasRecordAndChain floor l v

-- it is so there, and saw that word last, as others' locks have it
pub record IsDeciding (floor : Description) (l seen : ℕ) (v : Knowledge) : Type 0 where
  pub there : IsThereByTry floor l v
  pub saw : Saw l (word_of seen) v
  pub seen_so : CanBeSeen ((config_in floor).kind l) (word_of seen)

-- so at each place; with twice as many looks as are still allowed, a round has at most 100
abbrev pub IsTrying : Description → ℕ → TryAt → Knowledge → Type 0
IsTrying floor l (Tries left) v =
    SeeksByTry l v × (v.share.doing.looks + (left + left) ≤ 100)
IsTrying floor l ComesIn v = HasChainInTry floor l v
IsTrying floor l (Decides seen) v = IsDeciding floor l seen v

-- a try of the lock in that mode is under way, and stands there
pub record IsUnderTry (floor : Description) (l : LockNo) (mode : Mode) (at : TryAt)
    (v : Knowledge) : Type 0 where
  pub covered : IsCovered floor l.0 mode
  pub calling : IsCalling floor (kept_of v)
  pub room : 1 ≤ v.spare
  pub there : IsTrying floor l.0 at v

-- the call that the pass is in the middle of is a try
pub record IsInTry (floor : Description) (p : Pass Knowledge) : Type 0 where
  pub l : LockNo
  pub mode : Mode
  pub at : TryAt
  pub call : p.call ≡ calls.Try l mode at
  pub there : IsUnderTry floor l mode at p.view

-- 3. What it does from one place to the next

-- So many looks are left of so many behind one that saw a word: one less, where the thread can gain
-- the lock plainly, and none where it can by a claim alone. Where the word doesn't admit the mode,
-- the try ends
abbrev pub tries_left : Course → ℕ → Option ℕ
tries_left Plainly left = Some (left - 1)
tries_left ByClaim left = Some 0
tries_left MustWait left = None

-- the item that a try needs to go on from there: another thread may have it out
abbrev pub AwaitsInTry : Description → Knowledge → ℕ → TryAt → Item → Type 0
AwaitsInTry floor v l (Tries left) i = (left ≡ 0) × (i ≡ its_chain floor (lock_queue l))
AwaitsInTry floor v l ComesIn i = i ≡ RecordOf v.thread
AwaitsInTry floor v l (Decides seen) i = ⊥

-- In its round it looks, and tries where it saw that it can; once no looks are left it takes the
-- chain, then its own record, and looks. There an exchange that misses is a look, which saw another
-- word. Or it found out what it needs
pub data TryLeg (floor : Description) (l : LockNo) (mode : Mode) : TryAt → TryAt → Knowledge
    → Knowledge → Type 0 where
  looks : {old new : Knowledge} (left n rest : ℕ) (word : Word) → 1 ≤ left
      → LooksOn floor l.0 mode n word old new
      → tries_left (course ((config_in floor).kind l.0) word mode) left ≡ Some rest
      → TryLeg floor l mode (Tries left) (Tries rest) old new
  takes_chain : {old new : Knowledge}
      → Makes floor (TakesItem old.thread (its_chain floor (lock_queue l.0)) ∷ []) old new
      → TryLeg floor l mode (Tries 0) ComesIn old new
  comes_in : {old new : Knowledge} (seen : ℕ)
      → MakesEach floor
      ((TakesItem old.thread (RecordOf old.thread) ∷ []) ∷ (Looks old.thread l.0 false ∷ []) ∷ [])
      old new
      → TryLeg floor l mode ComesIn (Decides seen) old new
  looks_there : {old new : Knowledge} (seen found : ℕ) → found ≢ seen
      → Makes floor (Looks old.thread l.0 false ∷ []) old new
      → TryLeg floor l mode (Decides seen) (Decides found) old new
  finds_out : {old new : Knowledge} (at : TryAt) (i : Item)
      → AwaitsInTry floor old l.0 at i → new ≡ seeing new.seen old
      → FindsOut floor i old new → TryLeg floor l mode at at old new

-- the try went on, and stands there
pub record TriesOn (floor : Description) (l : LockNo) (mode : Mode) (at to : TryAt)
    (old new : Knowledge) : Type 0 where
  pub there : IsTrying floor l.0 to new
  pub kept : kept_of new ≡ kept_of old
  pub looked : old.share.doing.looks_in_all ≤ new.share.doing.looks_in_all
  pub leg : TryLeg floor l mode at to old new

-- it gained the lock in the section of the chain, plainly or by a claim, and has both out still
pub record GainsThere (floor : Description) (l : LockNo) (mode : Mode) (old new : Knowledge) :
    Type 0 where
  pub gain : Step
  pub is_gain : IsGain old.thread l.0 mode true gain
  pub out : List (ℕ × Slot)
  pub view : new ≡ seeing new.seen (record (gained old (as_tried l mode)) { out = out })
  pub both : HasRecordAndChain floor l.0 new
  pub step : Makes floor (gain ∷ []) old new

-- 4. How it ends

-- the thread holds the lock, has noted that, and is at rest
pub record HasTried (floor : Description) (l : LockNo) (mode : Mode) (old new : Knowledge) : Type 0
  where
    pub rest : IsAtRest floor new
    pub entry : MakesEntry floor (Event.Tried l mode)
        (old.share.held ++ as_tried l mode ∷ []) old new

-- it saw in its round that it can, and gained the lock; or it gained it in the section of the
-- chain, and gave both back
pub data GainsAt (floor : Description) (l : LockNo) (mode : Mode) : TryAt → Knowledge → Knowledge
    → Type 0 where
  gains_in_round : {old new : Knowledge} (left : ℕ) → 1 ≤ left
      → MakesEach floor
      ((Looks old.thread l.0 true ∷ []) ∷ (Gains old.thread l.0 mode true ∷ [])
      ∷ (Stamps old.thread (Event.Tried l mode) ∷ []) ∷ [])
      old new
      → GainsAt floor l mode (Tries left) old new
  gains_there : {old new : Knowledge} (seen : ℕ) (gain : Step)
      → IsGain old.thread l.0 mode true gain
      → MakesEach floor
      ((gain ∷ []) ∷ (gives_both floor old.thread l.0
      ++ (Stamps old.thread (Event.Tried l mode) ∷ []) ∷ []))
      old new
      → GainsAt floor l mode (Decides seen) old new

-- Or the lock was busy for the mode: the thread has noted the word, which is held and doesn't admit
-- the mode, it holds what it held, and is at rest
pub record HasFoundBusy (floor : Description) (l : LockNo) (mode : Mode) (seen : ℕ)
    (old new : Knowledge) : Type 0 where
  pub rest : IsAtRest floor new
  pub entry : MakesEntry floor (Event.Busy l seen) old.share.held old new
  pub word : IsBusyFor ((config_in floor).kind l.0) mode (word_of seen)
  pub looked : old.share.doing.looks_in_all ≤ new.share.doing.looks_in_all

-- it saw that word in its round, last; or it had seen it last in the section of the chain, and gave
-- both back
pub data FindsBusyAt (floor : Description) (l : LockNo) (mode : Mode) (seen : ℕ) : TryAt → Knowledge
    → Knowledge → Type 0 where
  busy_in_round : {old new : Knowledge} (between : Knowledge) (left n : ℕ) → 1 ≤ left
      → LooksOn floor l.0 mode n (word_of seen) old between
      → Makes floor (Stamps old.thread (Event.Busy l seen) ∷ []) between new
      → FindsBusyAt floor l mode seen (Tries left) old new
  busy_there : {old new : Knowledge} (between : Knowledge)
      → MakesEach floor (gives_both floor old.thread l.0) old between
      → HasSeen l.0 (word_of seen) between
      → Makes floor (Stamps old.thread (Event.Busy l seen) ∷ []) between new
      → FindsBusyAt floor l mode seen (Decides seen) old new

-- 5. What the calls promise

-- the first exchange, from the free word, missed: it found another, which admits the mode
pub record BeginsTry (floor : Description) (l : LockNo) (mode : Mode) (p q : Pass Knowledge) :
    Type 0 where
  pub left : ℕ
  pub word : Word
  pub saw : HasSeen l.0 word q.view
  pub other : word ≢ word_of 0
  pub leaves : tries_left (course ((config_in floor).kind l.0) word mode) 50 ≡ Some left
  pub call : q.call ≡ calls.Try l mode (Tries left)
  pub there : IsUnderTry floor l mode (Tries left) q.view
  pub kept : kept_of q.view ≡ kept_of p.view
  pub looked : p.view.share.doing.looks_in_all < q.view.share.doing.looks_in_all
  pub step : Makes floor (Seeks p.view.thread l.0 true ∷ Looks p.view.thread l.0 true ∷ [])
      p.view q.view

-- the try found the lock busy for its mode, noted that, and is at rest
pub record EndsBusy (floor : Description) (l : LockNo) (mode : Mode) (seen : ℕ)
    (old new : Knowledge) : Type 0 where
  pub rest : IsAtRest floor new
  pub entry : MakesEntry floor (Event.Busy l seen) old.share.held old new
  pub busy : WasBusyFor floor l mode seen old new

-- a try has begun: its first exchange gained the lock, or found it busy, or the try is under way
abbrev pub HasBegunTry : Description → LockNo → Mode → TryNext → Pass Knowledge → Pass Knowledge
    → Type 0
HasBegunTry floor l mode Gained p q =
    (q.call ≡ calls.None) × HasTried floor l mode p.view q.view
    × GainsAndNotes floor l mode p.view q.view
HasBegunTry floor l mode (Busy seen) p q =
    (q.call ≡ calls.None) × EndsBusy floor l mode seen p.view q.view
HasBegunTry floor l mode Again p q = BeginsTry floor l mode p q

-- the try went on from there, and stands somewhere
pub record StandsInTry (floor : Description) (l : LockNo) (mode : Mode) (at : TryAt)
    (p q : Pass Knowledge) : Type 0 where
  pub to : TryAt
  pub call : q.call ≡ calls.Try l mode to
  pub on : TriesOn floor l mode at to p.view q.view

-- a try that stood there went on: it gained the lock, or found it busy, or stands somewhere
abbrev pub GoesOnTrying : Description → LockNo → Mode → TryAt → TryNext → Pass Knowledge
    → Pass Knowledge → Type 0
GoesOnTrying floor l mode at Gained p q =
    (q.call ≡ calls.None) × HasTried floor l mode p.view q.view
    × GainsAt floor l mode at p.view q.view
GoesOnTrying floor l mode at (Busy seen) p q =
    (q.call ≡ calls.None) × HasFoundBusy floor l mode seen p.view q.view
    × FindsBusyAt floor l mode seen at p.view q.view
GoesOnTrying floor l mode at Again p q = StandsInTry floor l mode at p q
