-- What a thread knows in the middle of a call. Looks of a release count nothing, nor do those under a lock's chain;
-- those of a blocking call's round count, and so do its exchanges before the round.
use Rattle.std.specs.Prelude.{◌≡◌, ◌≢◌, ℕ, ◌+◌, ◌<◌, ◌≤◌, Bool, true, false, List, [], ◌∷◌, length, map, replicate, Option, Some, None}
use Rattle.lock_model.specs.Holds.{NotHeld, Holds}
use Rattle.lock_model.specs.History.{open_in}
use Rattle.lock_model.specs.Limits.{most_held}
use Rattle.lock_model.specs.Operations.{hold_in, without_lock}
use Rattle.lock_model.specs.Queues.{Mark, lock_queue, chan_queue}
use Rattle.lock_model.specs.Words.{Word, word_of, IsWellFormed, HeldBy, is_turnstile}
use Rattle.lock_model.specs.declared.event.Entry.{Entry}
use Rattle.lock_model.specs.declared.event.Held.{Held}
use Rattle.lock_model.specs.declared.numbers.LockNo.{LockNo}
use Rattle.lock_model.specs.declared.plan.Mode.{Mode}
use Rattle.lock_model.specs.declared.plan.Mode.TheVariants.{Excl}
use Rattle.lock_state.specs.State.{Look, Note, SleepHalted, Wake, Phase, Walk, NoWalk}
use Rattle.lock_state.specs.Steps.{Step, Seeks, Looks, Gains}
use Rattle.lock_state.specs.Steps.LockWords.{is_taking_back, round_of, bound_to}
use Rattle.lock_state.specs.Steps.Turnstiles.{walk_up}
use Rattle.floor_table.specs.Descriptions.{config_in}
use Rattle.floor_table.specs.declared.description.Description.{Description}
use Rattle.floor_table.specs.declared.slot.Slot.{Slot}
use Rattle.floor_table.specs.Shares.{Doing, is_among}
use Rattle.floor_table.specs.Steps.{Makes, MakesEach}
use Rattle.floor_table.specs.Views.{Role, Runs, IsReady, Knowledge, seeing}
use Rattle.lock_floor.specs.Opens.{opened_up}
use Rattle.lock_floor.specs.Ordering.{MayOrder}
use Rattle.lock_floor.specs.Passes.{CanStep, IsGoing}
use Rattle.lock_floor.specs.Relocks.{MayGiveUp}
use Rattle.lock_floor.specs.Rounds.{gained_first}
use Rattle.lock_floor.specs.Views.{counts, looked, gained}
use Rattle.lock_floor.specs.Waits.{entered}
use Rattle.lock_laws.specs.Words.{CanBeSeen}
use Rattle.lock_objects.specs.Represents.{mark_of}
use Rattle.lock_words.specs.Views.{IsHeldIn}
use Rattle.turnstile_core.specs.Seen.{Place}
use Rattle.lock_calls.specs.Rounds.{HasSeen}
use Rattle.lock_calls.specs.Steps.{IsGain, HasMissedFirst, GainsFirst, as_taken, gains_at_once, enters_by, frees}
use Rattle.lock_calls.specs.Sections.{HasRecordAndChain}

-- 1. What stays

-- what a thread knows that stays through a call, but for its gain or its release, its entry, its phase while it sleeps
-- or halts others, and whom it has to wake then
pub record Kept : Type 0 where
  pub role : Role
  pub description : Description
  pub thread : ℕ
  pub spare : ℕ
  pub held : List Held
  pub begun : List ℕ
  pub log : List Entry
  pub marked : List Mark
  pub noted : Option Note
  pub woken_from : Option ℕ
  pub unstamped : Option Wake
  pub counting : Option ℕ
  pub phase : Phase
  pub has_ended : Bool

abbrev pub kept_of : Knowledge → Kept
kept_of v = record {
  role = v.role;
  description = v.description;
  thread = v.thread;
  spare = v.spare;
  held = v.share.held;
  begun = v.share.begun;
  log = v.share.log;
  marked = v.share.doing.marked;
  noted = v.share.doing.noted;
  woken_from = v.share.doing.woken_from;
  unstamped = v.share.doing.unstamped;
  counting = v.share.doing.counting;
  phase = v.share.doing.phase;
  has_ended = v.share.doing.has_ended;
}

-- A blocking call is made by a thread that was at rest: it is awake, has nobody to mark or counted in and nothing to
-- note, and doesn't sleep in its log; the sections open there are of just the locks that it holds, in their modes, and
-- each began since its lock was gained
pub record IsCalling (floor : Description) (k : Kept) : Type 0 where
  pub description : k.description ≡ floor
  pub going : CanStep k.phase k.has_ended k.unstamped
  pub unmarked : k.marked ≡ []
  pub uncounted : k.counting ≡ None
  pub unnoted : k.noted ≡ None
  pub no_wait : is_taking_back k.log ≡ false
  pub sections : (l : ℕ) → open_in (config_in floor) k.log k.thread l ≡ hold_in k.held l
  pub begun : (l : ℕ) → hold_in k.held l ≢ NotHeld → is_among l k.begun ≡ true

-- A lock is acquired, by such a call or within a wait, by a thread that is awake and has nobody to mark or counted in;
-- the sections open in its log are of just the locks that it holds. No abort ended a sleep of it on a lock's queue,
-- which it would have to note. And it isn't on its way to a channel: where it sleeps in its log, that sleep was ended,
-- by a signal or by an abort
pub record CanAcquire (floor : Description) (k : Kept) : Type 0 where
  pub description : k.description ≡ floor
  pub going : CanStep k.phase k.has_ended k.unstamped
  pub unmarked : k.marked ≡ []
  pub uncounted : k.counting ≡ None
  pub sections : (l : ℕ) → open_in (config_in floor) k.log k.thread l ≡ hold_in k.held l
  pub unhalted : (l : ℕ) → k.noted ≡ Some (SleepHalted (lock_queue l)) → ⊥
  pub awake : is_taking_back k.log ≡ true → k.woken_from ≡ None
      → ((d : ℕ) → k.noted ≡ Some (SleepHalted (chan_queue d)) → ⊥) → ⊥

-- 2. Looks outside rounds, and under a chain

-- the thread can look at a lock outside acquiring rounds: it runs and is awake, has nothing out, takes nothing and is
-- in no round
pub record CanLook (v : Knowledge) : Type 0 where
  pub runs : v.pose ≡ Runs
  pub nothing_out : v.out ≡ []
  pub takes_nothing : v.share.doing.taking ≡ None
  pub no_round : v.share.doing.round ≡ None
  pub going : IsGoing v

-- with so many looks in all, and with others seen last
abbrev pub with_looks : Knowledge → ℕ → Option Look → Option Look → Knowledge
with_looks v all last seen =
    let after : Doing = record v.share.doing {
      looks_in_all = all;
      last_look = last;
      seen_in_section = seen;
    } in
    record v { share = record v.share { doing = after } }

-- the thread made so many looks at a lock, which don't count, and knows nothing else anew
pub record HasLooked (floor : Description) (l n : ℕ) (old new : Knowledge) : Type 0 where
  pub all : ℕ
  pub last : Option Look
  pub seen : Option Look
  pub knows : new ≡ seeing new.seen (with_looks old all last seen)
  pub steps : MakesEach floor (replicate n (Looks old.thread l false ∷ [])) old new

-- 3. A blocking call before it takes the chain

-- the thread may gain the lock by its first exchange, where its word is free: it can look and remembers no look, none
-- counts, it doesn't hold the lock, has room for it, wants none, has nothing to note, and isn't in a wait
pub record MayGain (floor : Description) (l : ℕ) (v : Knowledge) : Type 0 where
  pub unheld : hold_in v.share.held l ≡ NotHeld
  pub few : length v.share.held < most_held
  pub wants_nothing : v.share.doing.wanted ≡ None
  pub unseen : v.share.doing.last_look ≡ None
  pub no_looks : v.share.doing.looks ≡ 0
  pub unnoted : v.share.doing.noted ≡ None
  pub no_wait : is_taking_back v.share.log ≡ false
  pub no_walk : v.share.doing.walk ≡ NoWalk
  pub looks : CanLook v

-- a blocking call gained it so, by an exchange that begins its round and ends it
pub record GainsAtOnce (floor : Description) (h : Held) (old new : Knowledge) : Type 0 where
  pub view : new ≡ seeing new.seen (gained_first old h)
  pub step : Makes floor (gains_at_once old.thread h.l.0 h.mode) old new

-- with a round of the lock under way, so many looks in it, so many in all, and others seen last
abbrev pub in_round : Knowledge → ℕ → ℕ → ℕ → Option Look → Option Look → Knowledge
in_round v l looks all last seen =
    let after : Doing = record v.share.doing {
      taking = Some l;
      looks = looks;
      looks_in_all = all;
      last_look = last;
      seen_in_section = seen;
      round = Some (round_of l false);
    } in
    record v { share = record v.share { doing = after } }

-- with so many looks that count, so many in all, and others seen last
abbrev pub with_looks_counted : Knowledge → ℕ → ℕ → Option Look → Option Look → Knowledge
with_looks_counted v looks all last seen =
    let after : Doing = record v.share.doing {
      looks = looks;
      looks_in_all = all;
      last_look = last;
      seen_in_section = seen;
    } in
    record v { share = record v.share { doing = after } }

-- A call has gained the lock by a first exchange: behind those that missed the thread knows what it saw, and nothing
-- else anew.
pub record HasGainedFirst (floor : Description) (l : LockNo) (mode : Mode) (old new : Knowledge) :
    Type 0 where
  pub gains : GainsFirst floor l.0 mode old new
  pub looks : ℕ
  pub all : ℕ
  pub last : Option Look
  pub seen : Option Look
  pub saw : gains.between
      ≡ seeing gains.between.seen (with_looks_counted old looks all last seen)
  pub view : new ≡ seeing new.seen (gained_first gains.between (as_taken l mode))

-- A call has begun without a gain: the thread's first exchanges missed, where it holds nothing; or it made none, where
-- it holds a lock.
pub record HasMissed (floor : Description) (l : ℕ) (mode : Mode) (old new : Knowledge) : Type 0
  where
    pub missed : ℕ
    pub first : HasMissedFirst floor l mode missed old new
    pub looks : ℕ
    pub counted : looks ≡ missed + old.share.doing.looks
    pub all : ℕ
    pub last : Option Look
    pub seen : Option Look
    pub its : (look : Look) → last ≡ Some look → (look.lock ≡ l) × (old.share.held ≡ [])
    pub knows : new ≡ seeing new.seen (with_looks_counted old looks all last seen)

-- The lock's order is to be checked: the thread doesn't hold the lock, has nothing out and no walk, and may check.
-- Where looks count, they are its first exchanges, which missed, and it holds nothing
pub record IsChecking (floor : Description) (l : ℕ) (v : Knowledge) : Type 0 where
  pub unheld : hold_in v.share.held l ≡ NotHeld
  pub may : MayOrder floor l v
  pub no_walk : v.share.doing.walk ≡ NoWalk
  pub bare : 1 ≤ v.share.doing.looks → v.share.held ≡ []
  pub nothing_out : v.out ≡ []

-- The thread may begin a round of the lock, the order of which is checked: it runs and is awake, has nothing out and no
-- walk, wants and takes the lock, doesn't hold it, has room for it, and has nothing to note. Where it remembers a look,
-- that is its first exchange, which missed, and it holds nothing
pub record MaySeek (l : ℕ) (v : Knowledge) : Type 0 where
  pub unheld : hold_in v.share.held l ≡ NotHeld
  pub few : length v.share.held < most_held
  pub wants : v.share.doing.wanted ≡ Some l
  pub takes : v.share.doing.taking ≡ Some l
  pub unnoted : v.share.doing.noted ≡ None
  pub no_round : v.share.doing.round ≡ None
  pub missed : (look : Look) → v.share.doing.last_look ≡ Some look
      → (look.lock ≡ l) × (v.share.held ≡ [])
  pub no_walk : v.share.doing.walk ≡ NoWalk
  pub runs : v.pose ≡ Runs
  pub nothing_out : v.out ≡ []
  pub going : IsGoing v

-- a round of the lock has begun with an exchange from the free word, which missed: a look, which saw that other word
pub record HasBegun (floor : Description) (l : ℕ) (found : Word) (old new : Knowledge) : Type 0
  where
    pub other : found ≢ word_of 0
    pub all : ℕ
    pub last : Option Look
    pub is_last : last ≡ Some (record { lock = l; word = found })
    pub seen : Option Look
    pub knows : new ≡ seeing new.seen (in_round old l 1 all last seen)
    pub step : Makes floor (Seeks old.thread l false ∷ Looks old.thread l true ∷ []) old new

-- the thread is in a round of a blocking call: it runs and is awake, has nothing out and no walk, wants and takes the
-- lock, doesn't hold it, has room for it, and has no halt of a take to note
pub record IsSeeking (l : ℕ) (v : Knowledge) : Type 0 where
  pub unheld : hold_in v.share.held l ≡ NotHeld
  pub few : length v.share.held < most_held
  pub wants : v.share.doing.wanted ≡ Some l
  pub takes : v.share.doing.taking ≡ Some l
  pub unhalted : (k : ℕ) → v.share.doing.noted ≡ Some (SleepHalted (lock_queue k)) → ⊥
  pub round : v.share.doing.round ≡ Some (round_of l false)
  pub no_walk : v.share.doing.walk ≡ NoWalk
  pub runs : v.pose ≡ Runs
  pub nothing_out : v.out ≡ []
  pub going : IsGoing v

-- the thread made so many looks at the lock in its round, and knows nothing else anew
pub record HasSpun (floor : Description) (l n : ℕ) (old new : Knowledge) : Type 0 where
  pub looks : ℕ
  pub counted : looks ≡ n + old.share.doing.looks
  pub all : ℕ
  pub last : Option Look
  pub seen : Option Look
  pub knows : new ≡ seeing new.seen (with_looks_counted old looks all last seen)
  pub steps : MakesEach floor (replicate n (Looks old.thread l true ∷ [])) old new

-- it gained the lock behind so many looks
pub record SpinsThenGains (floor : Description) (h : Held) (n : ℕ) (old new : Knowledge) :
    Type 0 where
  pub between : Knowledge
  pub spun : HasSpun floor h.l.0 n old between
  pub view : new ≡ seeing new.seen (gained between h)
  pub step : Makes floor (Gains old.thread h.l.0 h.mode h.by_try ∷ []) between new

-- 4. A blocking call in the section of the lock's chain

-- The thread is in that section, in the round that took the chain: its wait word says that it is queued, and it has the
-- chain and its own record out, in which its turnstile and its sleep queue are
pub record IsThere (floor : Description) (l : ℕ) (v : Knowledge) : Type 0 where
  pub unheld : hold_in v.share.held l ≡ NotHeld
  pub few : length v.share.held < most_held
  pub wants : v.share.doing.wanted ≡ Some l
  pub takes : v.share.doing.taking ≡ Some l
  pub round : v.share.doing.round ≡ Some (bound_to l)
  pub no_walk : v.share.doing.walk ≡ NoWalk
  pub ready : v.pose ≡ IsReady
  pub of_floor : v.thread < length floor.threads
  pub both : HasRecordAndChain floor l v
  pub turnstile : ℕ
  pub lent : both.box.value.turnstile ≡ Some turnstile
  pub sleep_queue : ℕ
  pub home : both.box.value.sleep_queue ≡ Some sleep_queue

-- what it saw last there
pub record Saw (l : ℕ) (word : Word) (v : Knowledge) : Type 0 where
  pub last : HasSeen l word v
  pub there : v.share.doing.seen_in_section ≡ Some (record { lock = l; word = word })

-- it gained the lock there, plainly or by a claim, and has both out still, as the claim left them
pub record GainsStep (floor : Description) (l : LockNo) (mode : Mode) (old new : Knowledge) :
    Type 0 where
  pub gain : Step
  pub is_gain : IsGain old.thread l.0 mode false gain
  pub out : List (ℕ × Slot)
  pub view : new ≡ seeing new.seen (record (gained old (as_taken l mode)) { out = out })
  pub both : HasRecordAndChain floor l.0 new
  pub step : Makes floor (gain ∷ []) old new

-- or it came to stand on its queue, to which it lent an object of its own, and its walk is there; who stands on a sleep
-- queue walks to no owner. It has both out still, as the enter left them
pub record EntersStep (floor : Description) (l : ℕ) (mode : Mode) (walk : Walk)
    (old new : Knowledge) : Type 0 where
  pub object : ℕ
  pub owner : Option ℕ
  pub walk_is : walk ≡ walk_up l owner
  pub ownerless : is_turnstile ((config_in floor).kind l) ≡ false → owner ≡ None
  pub out : List (ℕ × Slot)
  pub view : new ≡ seeing new.seen (entered old l owner out)
  pub both : HasRecordAndChain floor l new
  pub step : Makes floor (enters_by ((config_in floor).kind l) old.thread l mode object ∷ []) old
      new

-- or its exchange missed, and was a look, which found that word, another than the one it went from
pub record MissesThere (floor : Description) (l seen found : ℕ) (old new : Knowledge) : Type 0 where
  pub other : found ≢ seen
  pub seen_so : CanBeSeen ((config_in floor).kind l) (word_of found)
  pub view : new ≡ seeing new.seen (looked old l (word_of found))
  pub step : Makes floor (Looks old.thread l (counts old l) ∷ []) old new

-- with nothing out any more, and what was seen under the chain forgotten
abbrev pub with_none_out : Knowledge → Knowledge
with_none_out v =
    let after : Doing = record v.share.doing { seen_in_section = None } in
    record v { share = record v.share { doing = after }; out = [] }

-- 5. A gain of a blocking call

-- what the thread knew before it, but for what it had out in the section
pub record IsGaining (l : ℕ) (v : Knowledge) : Type 0 where
  pub unheld : hold_in v.share.held l ≡ NotHeld
  pub takes : v.share.doing.taking ≡ Some l
  pub no_walk : v.share.doing.walk ≡ NoWalk
  pub runs : v.pose ≡ Runs
  pub nothing_out : v.out ≡ []

-- a blocking call gained the lock: what the thread knows then
pub record HasGained (l : LockNo) (mode : Mode) (old new : Knowledge) : Type 0 where
  pub before : Knowledge
  pub kept : kept_of before ≡ kept_of old
  pub gaining : IsGaining l.0 before
  pub view : new ≡ seeing new.seen (gained before (as_taken l mode))

-- 6. A release

-- The thread may put the lock down: it runs, or came to stand on a channel's queue, with which a wait gives its lock
-- up. It is awake, has nothing out, takes nothing, is in no round and has nobody to mark or counted in; it holds the
-- lock in that mode, and its section of it began and is closed
pub record MayPutDown (floor : Description) (l : ℕ) (mode : Mode) (v : Knowledge) : Type 0 where
  pub held : hold_in v.share.held l ≡ Holds mode
  pub closed : open_in (config_in floor) v.share.log v.thread l ≡ NotHeld
  pub begun : is_among l v.share.begun ≡ true
  pub unmarked : v.share.doing.marked ≡ []
  pub uncounted : v.share.doing.counting ≡ None
  pub there : MayGiveUp v
  pub nothing_out : v.out ≡ []
  pub takes_nothing : v.share.doing.taking ≡ None
  pub no_round : v.share.doing.round ≡ None
  pub going : IsGoing v

-- the same in the section of the lock's chain
pub record MayLetGo (floor : Description) (l : ℕ) (mode : Mode) (v : Knowledge) : Type 0 where
  pub held : hold_in v.share.held l ≡ Holds mode
  pub closed : open_in (config_in floor) v.share.log v.thread l ≡ NotHeld
  pub begun : is_among l v.share.begun ≡ true
  pub unmarked : v.share.doing.marked ≡ []
  pub there : MayGiveUp v
  pub takes_nothing : v.share.doing.taking ≡ None
  pub no_round : v.share.doing.round ≡ None
  pub going : IsGoing v
  pub both : HasRecordAndChain floor l v

-- the word is that of a lock which the thread holds in that mode, by itself where that is exclusive
pub record IsOwn (t : ℕ) (mode : Mode) (seen : ℕ) : Type 0 where
  pub formed : IsWellFormed (word_of seen)
  pub held : IsHeldIn (word_of seen).holder mode
  pub its : mode ≡ Excl → (word_of seen).holder ≡ HeldBy t

-- the thread let the lock go in the section: those who were taken off its queue are marked, by a drop nobody is
pub record LetsGo (floor : Description) (l : ℕ) (mode : Mode) (old new : Knowledge) : Type 0 where
  pub opens : Bool
  pub marks : List Mark
  pub places : List Place
  pub of_queue : marks ≡ map (mark_of (lock_queue l)) places
  pub out : List (ℕ × Slot)
  pub view : new ≡ seeing new.seen (opened_up old l marks out)
  pub both : HasRecordAndChain floor l new
  pub unheld : hold_in (without_lock l old.share.held) l ≡ NotHeld
  pub step : Makes floor (frees ((config_in floor).kind l) old.thread l mode opens ∷ []) old new

-- its exchange missed, and was a look, which found that word, another than the one it went from
pub record MissesOwn (floor : Description) (l : ℕ) (mode : Mode) (seen found : ℕ)
    (old new : Knowledge) : Type 0 where
  pub other : found ≢ seen
  pub own : IsOwn old.thread mode found
  pub view : new ≡ seeing new.seen (looked old l (word_of found))
  pub step : Makes floor (Looks old.thread l (counts old l) ∷ []) old new
