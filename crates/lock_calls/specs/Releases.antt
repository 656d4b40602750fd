-- A release as a call that stands at places: what the thread knows at each, what it does from one to the next, and how
-- the release ends. It is noted at its begin, but for that of a wait, in which a lock is given up.
use Rattle.std.specs.Prelude.{◌≡◌, ◌≢◌, ℕ, ◌<◌, Bool, true, false, List, [], ◌∷◌, length, None}
use Rattle.lock_model.specs.Holds.{NotHeld}
use Rattle.lock_model.specs.Operations.{hold_in, without_lock}
use Rattle.lock_model.specs.Queues.{Mark, lock_queue}
use Rattle.lock_model.specs.Words.{word_of, gained, is_drop}
use Rattle.lock_model.specs.declared.event.Event.{Event}
use Rattle.lock_model.specs.declared.event.Held.{Held}
use Rattle.lock_model.specs.declared.numbers.LockNo.{LockNo}
use Rattle.lock_model.specs.declared.plan.Mode.{Mode}
use Rattle.lock_state.specs.Steps.{Looks, Drops, Stamps, TakesItem}
use Rattle.lock_state.specs.Steps.Items.{Item, RecordOf}
use Rattle.floor_table.specs.declared.description.Description.{Description}
use Rattle.floor_table.specs.declared.slot.Slot.{Slot}
use Rattle.floor_table.specs.Descriptions.{config_in}
use Rattle.floor_table.specs.Shares.{Doing, Share}
use Rattle.floor_table.specs.Steps.{Makes, MakesEach}
use Rattle.floor_table.specs.Views.{Knowledge, seeing}
use Rattle.lock_floor.specs.declared.calls.Call.TheVariants as calls
use Rattle.lock_floor.specs.declared.calls.ReleaseAt.{ReleaseAt}
use Rattle.lock_floor.specs.declared.calls.ReleaseAt.TheVariants as places
use Rattle.lock_floor.specs.declared.calls.ReleaseAt.TheVariants.{ComesTo, ComesIn, Frees, Wakes}
use Rattle.lock_floor.specs.Floors.{Pass}
use Rattle.lock_floor.specs.Latches.{FindsOut}
use Rattle.lock_floor.specs.Marks.{CanMark, WakesFirst}
use Rattle.lock_floor.specs.Passes.{IsAtRest, MakesEntry}
use Rattle.lock_floor.specs.Waits.{its_chain, chain_place}
use Rattle.lock_calls.specs.declared.answers.Next.{Next}
use Rattle.lock_calls.specs.declared.answers.Next.TheVariants.{Done, Again, Sleep, Wake, Reversed, Halted}
use Rattle.lock_calls.specs.declared.answers.ReleaseNext.{ReleaseNext}
use Rattle.lock_calls.specs.declared.answers.ReleaseNext.TheVariants as next
use Rattle.lock_calls.specs.Choices.{by_word, outside}
use Rattle.lock_calls.specs.Sections.{IsItsChain, HasRecordAndChain}
use Rattle.lock_calls.specs.Steps.{IsCovered, ByDrop, frees, gives_both, unlocks}
use Rattle.lock_calls.specs.Rounds.{HasSeen}
use Rattle.lock_calls.specs.Waiting.{MayPutDown, IsOwn, with_none_out}

-- 1. What the thread knows at each place

-- it has the lock's chain out, and may put the lock down with nothing out
pub record LeavesWithChain (floor : Description) (l : ℕ) (mode : Mode) (v : Knowledge) : Type 0
  where
    pub may : MayPutDown floor l mode (with_none_out v)
    pub chain : Slot
    pub of_lock : IsItsChain floor l chain
    pub out : v.out ≡ (chain_place floor (lock_queue l), chain) ∷ []

-- or that and its own record, and that it saw this word last, which is its own
pub record LeavesWithBoth (floor : Description) (l : ℕ) (mode : Mode) (seen : ℕ) (v : Knowledge) :
    Type 0 where
  pub may : MayPutDown floor l mode (with_none_out v)
  pub both : HasRecordAndChain floor l v
  pub own : IsOwn v.thread mode seen

-- it may drop the lock from the word that it saw last, which is its own
pub record LeavesByDrop (floor : Description) (l : ℕ) (mode : Mode) (seen : ℕ) (v : Knowledge) :
    Type 0 where
  pub may : MayPutDown floor l mode v
  pub own : IsOwn v.thread mode seen
  pub drops : is_drop (word_of seen) ≡ true

-- it doesn't hold the lock any more, remembers no look, and may wake those whom it took off the lock's queue
pub record HasPutDown (l : ℕ) (v : Knowledge) : Type 0 where
  pub unheld : hold_in v.share.held l ≡ NotHeld
  pub unseen : v.share.doing.last_look ≡ None
  pub may : CanMark v

-- so at each place
abbrev pub IsReleasing : Description → ℕ → Mode → ReleaseAt → Knowledge → Type 0
IsReleasing floor l mode (places.Drops seen) v = LeavesByDrop floor l mode seen v
IsReleasing floor l mode ComesTo v = MayPutDown floor l mode v
IsReleasing floor l mode ComesIn v = LeavesWithChain floor l mode v
IsReleasing floor l mode (Frees seen) v = LeavesWithBoth floor l mode seen v
IsReleasing floor l mode Wakes v = HasPutDown l v

-- the locks that the thread holds once the lock is put down
abbrev pub held_once : ℕ → ReleaseAt → List Held → List Held
held_once l (places.Drops seen) hs = without_lock l hs
held_once l ComesTo hs = without_lock l hs
held_once l ComesIn hs = without_lock l hs
held_once l (Frees seen) hs = without_lock l hs
held_once l Wakes hs = hs

-- What a thread knows once a release that stands there is done, but for the steps that it has seen, its looks and whom
-- it counted in
abbrev pub once_released : ℕ → ReleaseAt → Knowledge → Knowledge
once_released l at v =
    let after : Doing = record v.share.doing {
      marked = [];
      looks_in_all = 0;
      last_look = None;
      seen_in_section = None;
    } in
    let share : Share = record v.share {
      held = held_once l at v.share.held;
      doing = after;
      counted_in = [];
    } in
    record v { seen = []; share = share; out = [] }

-- a release of the lock, which was held in that mode, is under way, and stands there; once it is done the thread is at
-- rest
pub record IsUnderRelease (floor : Description) (l : LockNo) (mode : Mode) (at : ReleaseAt)
    (v : Knowledge) : Type 0 where
  pub covered : IsCovered floor l.0 mode
  pub there : IsReleasing floor l.0 mode at v
  pub rest_then : hold_in (held_once l.0 at v.share.held) l.0 ≡ NotHeld
      → IsAtRest floor (once_released l.0 at v)

-- the call that the pass is in the middle of is a release
pub record IsInRelease (floor : Description) (p : Pass Knowledge) : Type 0 where
  pub l : LockNo
  pub mode : Mode
  pub at : ReleaseAt
  pub call : p.call ≡ calls.Release l mode at
  pub there : IsUnderRelease floor l mode at p.view

-- 2. What it does from one place to the next

-- the item that a release needs to go on from there: another thread may have it out
abbrev pub AwaitsInRelease : Description → ℕ → ReleaseAt → Knowledge → Item → Type 0
AwaitsInRelease floor l (places.Drops seen) v i = ⊥
AwaitsInRelease floor l ComesTo v i = i ≡ its_chain floor (lock_queue l)
AwaitsInRelease floor l ComesIn v i = i ≡ RecordOf v.thread
AwaitsInRelease floor l (Frees seen) v i = ⊥
AwaitsInRelease floor l Wakes v i =
    (m : Mark) × (ms : List Mark) × (v.share.doing.marked ≡ m ∷ ms) × (i ≡ RecordOf m.thread)

-- Outside the section an exchange that misses is a look, which saw another word. Else it takes the lock's chain, then
-- its own record, and looks; there an exchange that misses is such a look too; or it lets the lock go, and gives both
-- back. Or it found out what it needs
pub data ReleaseLeg (floor : Description) (l : LockNo) (mode : Mode) : ReleaseAt → ReleaseAt
    → Knowledge → Knowledge → Type 0 where
  misses : {old new : Knowledge} (seen found : ℕ) → found ≢ seen
      → new.share.held ≡ old.share.held → HasSeen l.0 (word_of found) new
      → Makes floor (Looks old.thread l.0 false ∷ []) old new
      → ReleaseLeg floor l mode (places.Drops seen) (outside mode found) old new
  takes_chain : {old new : Knowledge} → new.share.held ≡ old.share.held
      → Makes floor (TakesItem old.thread (its_chain floor (lock_queue l.0)) ∷ []) old new
      → ReleaseLeg floor l mode ComesTo ComesIn old new
  comes_in : {old new : Knowledge} (seen : ℕ) → new.share.held ≡ old.share.held
      → MakesEach floor
      ((TakesItem old.thread (RecordOf old.thread) ∷ []) ∷ (Looks old.thread l.0 false ∷ []) ∷ [])
      old new
      → ReleaseLeg floor l mode ComesIn (Frees seen) old new
  looks : {old new : Knowledge} (seen found : ℕ) → found ≢ seen
      → new.share.held ≡ old.share.held
      → Makes floor (Looks old.thread l.0 false ∷ []) old new
      → ReleaseLeg floor l mode (Frees seen) (Frees found) old new
  makes_free : {old new : Knowledge} (seen : ℕ) (opens : Bool)
      → new.share.held ≡ without_lock l.0 old.share.held
      → MakesEach floor
      ((frees ((config_in floor).kind l.0) old.thread l.0 mode opens ∷ [])
      ∷ gives_both floor old.thread l.0) old new
      → ReleaseLeg floor l mode (Frees seen) Wakes old new
  finds_out : {old new : Knowledge} (at : ReleaseAt) (i : Item)
      → AwaitsInRelease floor l.0 at old i → new ≡ seeing new.seen old
      → FindsOut floor i old new → ReleaseLeg floor l mode at at old new

-- the release went on, and stands there; what the thread knows once it is done stays
pub record ReleasesOn (floor : Description) (l : LockNo) (mode : Mode) (at to : ReleaseAt)
    (old new : Knowledge) : Type 0 where
  pub there : IsReleasing floor l.0 mode to new
  pub kept : once_released l.0 to new ≡ once_released l.0 at old
  pub leg : ReleaseLeg floor l mode at to old new

-- How it ends: outside the section by a drop; or nobody is left to be woken, and nothing is done
pub data ReleaseEnd (floor : Description) (l : LockNo) (mode : Mode) : ReleaseAt → Knowledge
    → Knowledge → Type 0 where
  puts_down : {old new : Knowledge} (seen : ℕ)
      → new.share.held ≡ without_lock l.0 old.share.held
      → Makes floor (Drops old.thread l.0 mode ∷ []) old new
      → ReleaseEnd floor l mode (places.Drops seen) old new
  nobody_left : {v : Knowledge} → v.share.doing.marked ≡ [] → ReleaseEnd floor l mode Wakes v v

-- it ended so from there
pub record IsReleased (floor : Description) (l : LockNo) (mode : Mode) (at : ReleaseAt)
    (old new : Knowledge) : Type 0 where
  pub down : HasPutDown l.0 new
  pub nobody : new.share.doing.marked ≡ []
  pub kept : once_released l.0 Wakes new ≡ once_released l.0 at old
  pub end : ReleaseEnd floor l mode at old new

-- the first of those who are left, a thread of the floor, was woken
pub record HasWokenOne (floor : Description) (l : ℕ) (at : ReleaseAt) (t : ℕ)
    (old new : Knowledge) : Type 0 where
  pub at_end : at ≡ Wakes
  pub of_floor : t < length floor.threads
  pub wakes : WakesFirst floor t old new
  pub down : HasPutDown l new
  pub kept : once_released l Wakes new ≡ once_released l Wakes old

-- What the part that wakes made: nobody was left, and it did nothing; or it found the first one's record out, and wakes
-- still; or it woke that one
abbrev pub WakesNext : Description → ReleaseNext → Knowledge → Knowledge → Type 0
WakesNext floor next.Done old new = (old.share.doing.marked ≡ []) × (new ≡ old)
WakesNext floor (next.At to) old new =
    (to ≡ Wakes) × (m : Mark) × (ms : List Mark) × (old.share.doing.marked ≡ m ∷ ms)
    × (new ≡ seeing new.seen old) × FindsOut floor (RecordOf m.thread) old new
WakesNext floor (next.Wake t) old new =
    (t.0 < length floor.threads) × WakesFirst floor t.0 old new

-- a part of a release from there: it ended, or stands somewhere, or woke that thread
abbrev pub ReleasesPart : Description → LockNo → Mode → ReleaseAt → ReleaseNext → Knowledge
    → Knowledge → Type 0
ReleasesPart floor l mode at next.Done old new = IsReleased floor l mode at old new
ReleasesPart floor l mode at (next.At to) old new = ReleasesOn floor l mode at to old new
ReleasesPart floor l mode at (next.Wake t) old new = HasWokenOne floor l.0 at t.0 old new

-- a release of a wait began: the thread looked at the lock, which it may put down, and the release stands where the
-- word that it saw lets it
pub record BeginsGivingUp (floor : Description) (l : LockNo) (mode : Mode) (at : ReleaseAt)
    (old new : Knowledge) : Type 0 where
  pub seen : ℕ
  pub saw : HasSeen l.0 (word_of seen) new
  pub by_it : at ≡ by_word seen
  pub there : IsReleasing floor l.0 mode at new
  pub kept : once_released l.0 at new ≡ once_released l.0 ComesTo old
  pub held : new.share.held ≡ old.share.held
  pub look : Makes floor (Looks old.thread l.0 false ∷ []) old new

-- 3. What the calls promise

-- it is noted, and the lock was put down by one exchange
pub record ReleasesAtOnce (floor : Description) (l : LockNo) (mode : Mode) (old new : Knowledge) :
    Type 0 where
  pub rest : IsAtRest floor new
  pub entry : MakesEntry floor (Event.Unlocked l mode) (without_lock l.0 old.share.held) old new
  pub steps : MakesEach floor (unlocks floor old.thread l mode (ByDrop 0)) old new

-- it is noted; the exchange missed, and was a look, which saw another word than the own one that shows no waiters
pub record BeginsRelease (floor : Description) (l : LockNo) (mode : Mode) (p q : Pass Knowledge) :
    Type 0 where
  pub found : ℕ
  pub call : q.call ≡ calls.Release l mode (outside mode found)
  pub there : IsUnderRelease floor l mode (outside mode found) q.view
  pub entry : MakesEntry floor (Event.Unlocked l mode) p.view.share.held p.view q.view
  pub saw : HasSeen l.0 (word_of found) q.view
  pub other : word_of found ≢ gained (word_of 0) p.view.thread mode
  pub steps : MakesEach floor
      ((Stamps p.view.thread (Event.Unlocked l mode) ∷ [])
      ∷ (Looks p.view.thread l.0 false ∷ []) ∷ [])
      p.view q.view

-- a release has begun: the lock is put down at once, or the release is under way
abbrev pub HasBegunRelease : Description → LockNo → Mode → Next → Pass Knowledge → Pass Knowledge
    → Type 0
HasBegunRelease floor l mode Done p q =
    (q.call ≡ calls.None) × ReleasesAtOnce floor l mode p.view q.view
HasBegunRelease floor l mode Again p q = BeginsRelease floor l mode p q
HasBegunRelease floor l mode Sleep p q = ⊥
HasBegunRelease floor l mode (Wake t) p q = ⊥
HasBegunRelease floor l mode (Reversed r) p q = ⊥
HasBegunRelease floor l mode Halted p q = ⊥

-- the release went on from there, and stands somewhere
pub record StandsInRelease (floor : Description) (l : LockNo) (mode : Mode) (at : ReleaseAt)
    (p q : Pass Knowledge) : Type 0 where
  pub to : ReleaseAt
  pub call : q.call ≡ calls.Release l mode to
  pub on : ReleasesOn floor l mode at to p.view q.view
  pub there : IsUnderRelease floor l mode to q.view

-- or it ended, and the thread is at rest
pub record EndsRelease (floor : Description) (l : LockNo) (mode : Mode) (at : ReleaseAt)
    (p q : Pass Knowledge) : Type 0 where
  pub call : q.call ≡ calls.None
  pub released : IsReleased floor l mode at p.view q.view
  pub rest : IsAtRest floor q.view

-- or the first of those who are left was woken
pub record WakesOne (floor : Description) (l : LockNo) (mode : Mode) (at : ReleaseAt) (t : ℕ)
    (p q : Pass Knowledge) : Type 0 where
  pub call : q.call ≡ calls.Release l mode Wakes
  pub woken : HasWokenOne floor l.0 at t p.view q.view
  pub there : IsUnderRelease floor l mode Wakes q.view

-- a release that stood there went on: it ended, or stands somewhere, or that thread's sleep is to be ended
abbrev pub GoesOnReleasing : Description → LockNo → Mode → ReleaseAt → Next → Pass Knowledge
    → Pass Knowledge → Type 0
GoesOnReleasing floor l mode at Done p q = EndsRelease floor l mode at p q
GoesOnReleasing floor l mode at Again p q = StandsInRelease floor l mode at p q
GoesOnReleasing floor l mode at Sleep p q = ⊥
GoesOnReleasing floor l mode at (Wake t) p q = WakesOne floor l mode at t.0 p q
GoesOnReleasing floor l mode at (Reversed r) p q = ⊥
GoesOnReleasing floor l mode at Halted p q = ⊥
