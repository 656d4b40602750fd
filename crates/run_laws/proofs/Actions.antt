-- The actions of turns, one by one: each with what the thread is found at where it is the first that fits. What is
-- proved of a turn is proved by these cases.
use Rattle.run_laws.proofs.Names
use Names.{ℕ, Bool, true, false, cond, ltb, List, [], length, slice_get, Option, Some, None, refl, sym, inl, inr, arith}
use Names.{unwrap_or, lt-leb, slice_get_within, config_of, operations_of, Hold, NotHeld, Holds, admits, is_plain}
use Names.{is_drop, is_turnstile, owner_of, Mark, Cause, lock_queue, stands, Config, State, HeldLock, Wait, Running}
use Names.{Queued, Woken, Walk, NoWalk, AtLock, AtThread, Step, Gains, Claims, Drops, Stamps, Readies, Enters, Opens}
use Names.{EntersSleepQueue, OpensSleepQueue, Adds, Marks, Resumes, Lends, Shifts, EndsWalk, Admits, Refuses, left_in}
use Names.{Run, Action, turn_of, has_ended, was_cut, owes, owed_release, waits_on, holds_none, nothing, does, ends}
use Names.{blocks, notes, takes, tries, gives_back, mode_held, operates, by_wait, by_release, by_marked, by_walk}
use Names.{walks_at_lock, walks_at_thread, LockNo, ChanNo, Prio, Mode, Op, Take, Try, EndTry, Release, Set, Add, Get}
use Names.{Base, Show, Sleep, WakeOne, WakeAll, Plan, QueueName, Lock, Chan, StepKind, Idle, Ended, Event, put_same}
use Names.{OwesNothing, IsAtOperation, IsCutShort, BeginsTake, admitted, first_against, after_admit}
use Rattle.std.proofs.Common.{◌≡◌, ◌≢◌, ◌⊎◌, ◌&&◌, ◌∷◌, ◌∙◌}
use Rattle.lock_state.specs.Run as run
use Rattle.lock_model.specs.declared.turn.StepKind.TheVariants as kind
use Rattle.lock_model.specs.declared.event.Event.TheVariants as event

-- 1. What an operation asks of an action

-- the entry of an operation that only makes one
pub data Notes (r : Run) (t : ℕ) : Op → Event → Type 0 where
  sets : (l : LockNo) (key value : ℕ) → Notes r t (Set l key value) (event.Set l key value)
  adds : (l : LockNo) (key amount : ℕ) → Notes r t (Add l key amount) (event.Added l key amount)
  gets : (l : LockNo) (key : ℕ) → Notes r t (Get l key) (event.Got l key (r.state.table l.0 key))
  changes_base : (prio : Prio) → Notes r t (Base prio) (event.Base prio)
  shows : Notes r t Show (event.Shown (record { 0 = r.state.base t }) (record { 0 = r.state.effective t }))

-- the lock of a channel, and the mode in which a thread that waits there held it
abbrev pub lock_with : Plan → ChanNo → LockNo
lock_with plan d = record { 0 = (config_of plan).chan_lock d.0 }

abbrev pub mode_left : Plan → Run → ℕ → ChanNo → Mode
mode_left plan r t d = mode_held (left_in (config_of plan) r.state.history t ((config_of plan).chan_lock d.0))

-- a take of a lock that was admitted, or its taking back after a wait: the operation, and the entry of its gain
pub data Taking (plan : Plan) (r : Run) (t : ℕ) : LockNo → Mode → Op → Event → Type 0 where
  anew : (l : LockNo) (mode : Mode) (k : ℕ) → r.state.wanted t ≡ Some k
      → Taking plan r t l mode (Take l mode) (event.Locked l mode)
  back : (d : ChanNo) (e : ℕ) → waits_on (r.state.log t) ≡ Some e
      → Taking plan r t (lock_with plan d) (mode_left plan r t d) (Sleep d) (event.Woke d)

-- a gain: the same, or a try
pub data Gaining (plan : Plan) (r : Run) (t : ℕ) : LockNo → Mode → Op → Bool → Event → Type 0 where
  by_taking : {l : LockNo} {mode : Mode} {op : Op} {e : Event} → Taking plan r t l mode op e
      → Gaining plan r t l mode op false e
  by_trying : (l : LockNo) (mode : Mode) (past : ℕ)
      → Gaining plan r t l mode (Try l mode past) true (event.Tried l mode)

-- the step by which a thread comes to stand on a lock's queue, by the lock's kind
pub data Entering (plan : Plan) (r : Run) (t l : ℕ) (mode : Mode) : Step → Type 0 where
  on_turnstile : is_turnstile ((config_of plan).kind l) ≡ true
      → Entering plan r t l mode (Enters t l mode (unwrap_or (r.state.turnstile t) t))
  on_sleep_queue : is_turnstile ((config_of plan).kind l) ≡ false
      → Entering plan r t l mode (EntersSleepQueue t l mode (unwrap_or (r.state.sleep_queue t) t))

-- the step that gives a lock back, with its answer: a drop, or an open by the lock's kind
pub data GivingBack (plan : Plan) (r : Run) (t l : ℕ) (mode : Mode) : StepKind → Step → Type 0 where
  drops : is_drop (r.state.word l) ≡ true → GivingBack plan r t l mode kind.Drop (Drops t l mode)
  opens : is_drop (r.state.word l) ≡ false → is_turnstile ((config_of plan).kind l) ≡ true
      → GivingBack plan r t l mode kind.OpenUp (Opens t l mode)
  opens_sleep_queue : is_drop (r.state.word l) ≡ false → is_turnstile ((config_of plan).kind l) ≡ false
      → GivingBack plan r t l mode kind.OpenUp (OpensSleepQueue t l mode)

-- a hold that is one has that mode
pub its_mode : (h : Hold) → h ≢ NotHeld → h ≡ Holds (mode_held h)
its_mode h n = grind arith

-- a wake of one sleeper, or of all: the operation and its entry
pub data Waking (d : ChanNo) : Op → Bool → (ℕ → Event) → Type 0 where
  of_one : Waking d (WakeOne d) false (event.WokeOne d)
  of_all : Waking d (WakeAll d) true (event.WokeAll d)

-- 2. The actions

-- whether a thread stands on the lock's turnstile
abbrev pub stands_at : Plan → Run → ℕ → ℕ → Bool
stands_at plan r o l = is_turnstile ((config_of plan).kind l) && ltb 0 (stands o (r.state.lists (lock_queue l)))

-- the actions of a thread that gains a lock, or blocks for one that it takes
pub data Acquires (plan : Plan) (r : Run) (t : ℕ) : Action → Type 0 where
  gains : {l : LockNo} {mode : Mode} {op : Op} {by_try : Bool} {e : Event} → Gaining plan r t l mode op by_try e
      → IsAtOperation plan r t (Some op)
      → admits ((config_of plan).kind l.0) (r.state.word l.0) mode ≡ true
      → is_plain ((config_of plan).kind l.0) (r.state.word l.0) mode ≡ true
      → Acquires plan r t (ends r t kind.Gain (Gains t l.0 mode by_try ∷ Stamps t e ∷ []))
  claims : {l : LockNo} {mode : Mode} {op : Op} {by_try : Bool} {e : Event} → Gaining plan r t l mode op by_try e
      → IsAtOperation plan r t (Some op)
      → admits ((config_of plan).kind l.0) (r.state.word l.0) mode ≡ true
      → is_plain ((config_of plan).kind l.0) (r.state.word l.0) mode ≡ false
      → Acquires plan r t
      (ends r t kind.Claim (Claims t l.0 (unwrap_or (r.state.head (lock_queue l.0)) t) by_try ∷ Stamps t e ∷ []))
  enters : {l : LockNo} {mode : Mode} {op : Op} {e : Event} {step : Step} → Taking plan r t l mode op e
      → IsAtOperation plan r t (Some op)
      → admits ((config_of plan).kind l.0) (r.state.word l.0) mode ≡ false → Entering plan r t l.0 mode step
      → Acquires plan r t (does kind.Enter (Readies t (Lock l) ∷ step ∷ []))

-- the first action that fits a thread
pub data Fits (plan : Plan) (r : Run) (t : ℕ) : Action → Type 0 where
  is_over : has_ended plan r t ≡ true → Fits plan r t (nothing Ended)
  lends : (l o h : ℕ) → r.state.walk t ≡ AtLock l → owner_of (r.state.word l).holder ≡ Some o
      → r.state.head (lock_queue l) ≡ Some h
      → Fits plan r t (does kind.Lend (Lends t l o h ∷ []))
  ends_at_lock : (l : ℕ) → r.state.walk t ≡ AtLock l
      → (owner_of (r.state.word l).holder ≡ None) ⊎ (r.state.head (lock_queue l) ≡ None)
      → Fits plan r t (does kind.WalkEnd (EndsWalk t ∷ []))
  shifts : (o : ℕ) (l : LockNo) → r.state.walk t ≡ AtThread o → r.state.blocked_on o ≡ Some (Lock l)
      → stands_at plan r o l.0 ≡ true
      → Fits plan r t (does kind.Shift (Shifts t o l.0 ∷ []))
  ends_at_thread : (o : ℕ) → r.state.walk t ≡ AtThread o
      → ((l : LockNo) → r.state.blocked_on o ≡ Some (Lock l) → stands_at plan r o l.0 ≡ false)
      → Fits plan r t (does kind.WalkEnd (EndsWalk t ∷ []))
  marks : (m : Mark) (ms : List Mark) → r.state.walk t ≡ NoWalk → r.state.marked t ≡ m ∷ ms
      → Fits plan r t (does kind.Mark (Marks t m ms ∷ []))
  gives_up : {l : ℕ} {kind : StepKind} {step : Step} → r.state.walk t ≡ NoWalk → r.state.marked t ≡ []
      → owed_release (config_of plan) r.state t ≡ Some l
      → GivingBack plan r t l (mode_held (r.state.held t l)) kind step → Fits plan r t (does kind (step ∷ []))
  is_queued : has_ended plan r t ≡ false → OwesNothing plan r t → r.state.wait t ≡ Queued → Fits plan r t (nothing Idle)
  resumes : (q : QueueName) (cause : Cause) → OwesNothing plan r t → r.state.wait t ≡ Woken q cause
      → Fits plan r t (does kind.Resume (Resumes t q cause ∷ []))
  acquires : {action : Action} → Acquires plan r t action → Fits plan r t action
  -- a take's first turn: its lock is admitted, and the turn goes on as a later one,
  is_admitted : {l : LockNo} {mode : Mode} {action : Action} → BeginsTake plan r t l mode
      → first_against plan r t l ≡ None → Acquires plan (admitted plan r t l) t action
      → Fits plan r t (record action { steps = Admits t l.0 ∷ action.steps })
  -- or it is refused
  is_refused : {l : LockNo} {mode : Mode} (k : ℕ) → BeginsTake plan r t l mode → first_against plan r t l ≡ Some k
      → Fits plan r t (does kind.Note (Refuses t l.0 k ∷ Stamps t (event.Reversed l (record { 0 = k })) ∷ []))
  finds_busy : (l : LockNo) (mode : Mode) (past : ℕ) → IsAtOperation plan r t (Some (Try l mode past))
      → admits ((config_of plan).kind l.0) (r.state.word l.0) mode ≡ false
      → Fits plan r t (run.finds_busy r t l past)
  releases : {kind : StepKind} {step : Step} (l : LockNo) → IsAtOperation plan r t (Some (Release l))
      → GivingBack plan r t l.0 (mode_held (r.state.held t l.0)) kind step
      → Fits plan r t (ends r t kind (Stamps t (event.Unlocked l (mode_held (r.state.held t l.0))) ∷ step ∷ []))
  sleeps : (d : ChanNo) → IsAtOperation plan r t (Some (Sleep d)) → waits_on (r.state.log t) ≡ None
      → Fits plan r t (does kind.Add
      (Readies t (Chan d) ∷ Stamps t (event.Sleeps d) ∷ Adds t d.0 (unwrap_or (r.state.sleep_queue t) t) ∷ []))
  wakes : {op : Op} {all : Bool} {noted : ℕ → Event} (d : ChanNo) → Waking d op all noted
      → IsAtOperation plan r t (Some op) → Fits plan r t (run.wakes r t d all noted)
  makes_entry : (op : Op) (e : Event) → IsAtOperation plan r t (Some op) → Notes r t op e → Fits plan r t (notes r t e)
  -- a thread that was cut gives back what it gained last
  gives_last_back : {kind : StepKind} {step : Step} (h : HeldLock) (hs : List HeldLock) → IsCutShort plan r t
      → r.state.held_locks t ≡ h ∷ hs
      → GivingBack plan r t h.lock (mode_held (r.state.held t h.lock)) kind step
      → Fits plan r t
      (does kind (Stamps t (event.Unlocked (record { 0 = h.lock }) (mode_held (r.state.held t h.lock))) ∷ step ∷ []))
  -- no thread of a proper plan's run comes to these three
  has_nothing_left : has_ended plan r t ≡ false → IsCutShort plan r t → r.state.held_locks t ≡ []
      → Fits plan r t (nothing Idle)
  has_no_operation : has_ended plan r t ≡ false → IsAtOperation plan r t None → Fits plan r t (nothing Idle)
  is_at_endtry : IsAtOperation plan r t (Some EndTry) → Fits plan r t (nothing Idle)

-- a lock is gained where its word admits it, and else a take blocks
module _ (plan : Plan) (r : Run) (t : ℕ) where
  gained : {l : LockNo} {mode : Mode} {op : Op} {by_try : Bool} {e : Event} → Gaining plan r t l mode op by_try e
      → IsAtOperation plan r t (Some op)
      → admits ((config_of plan).kind l.0) (r.state.word l.0) mode ≡ true
      → Acquires plan r t (run.gains (config_of plan) r t l mode by_try e)
  gained {l} {mode} {op} {by_try} {e} by i a = go (is_plain ((config_of plan).kind l.0) (r.state.word l.0) mode) refl
    where
      plain : Action
      plain = ends r t kind.Gain (Gains t l.0 mode by_try ∷ Stamps t e ∷ [])

      claim : Action
      claim = ends r t kind.Claim (Claims t l.0 (unwrap_or (r.state.head (lock_queue l.0)) t) by_try ∷ Stamps t e ∷ [])

      go : (b : Bool) → is_plain ((config_of plan).kind l.0) (r.state.word l.0) mode ≡ b
          → Acquires plan r t (cond b plain claim)
      go true f = gains by i a f
      go false f = claims by i a f

  taken : {l : LockNo} {mode : Mode} {op : Op} {e : Event} → Taking plan r t l mode op e
      → IsAtOperation plan r t (Some op) → Acquires plan r t (takes (config_of plan) r t l mode e)
  taken {l} {mode} {op} {e} by i = go (admits ((config_of plan).kind l.0) (r.state.word l.0) mode) refl
    where
      entered : (k : Bool) → is_turnstile ((config_of plan).kind l.0) ≡ k
          → admits ((config_of plan).kind l.0) (r.state.word l.0) mode ≡ false
          → Acquires plan r t
          (does kind.Enter (Readies t (Lock l) ∷ cond k (Enters t l.0 mode (unwrap_or (r.state.turnstile t) t))
          (EntersSleepQueue t l.0 mode (unwrap_or (r.state.sleep_queue t) t)) ∷ []))
      entered true f a = enters by i a (on_turnstile f)
      entered false f a = enters by i a (on_sleep_queue f)

      go : (b : Bool) → admits ((config_of plan).kind l.0) (r.state.word l.0) mode ≡ b → Acquires plan r t
          (cond b (run.gains (config_of plan) r t l mode false e) (blocks (config_of plan) r t l mode))
      go true a = gained (by_taking by) i a
      go false a = entered (is_turnstile ((config_of plan).kind l.0)) refl a

module _ (plan : Plan) (r : Run) (t : ℕ) where
  abbrev c : Config
  c = config_of plan

  abbrev s : State
  s = r.state

  at_lock : (l : ℕ) (o h : Option ℕ) → s.walk t ≡ AtLock l → owner_of (s.word l).holder ≡ o → s.head (lock_queue l) ≡ h
      → Fits plan r t (walks_at_lock t l o h)
  at_lock l (Some o) (Some h) w e f = lends l o h w e f
  at_lock l (Some o) None w e f = ends_at_lock l w (inr f)
  at_lock l None h w e f = ends_at_lock l w (inl e)

  at_thread : (o : ℕ) (q : Option QueueName) → s.walk t ≡ AtThread o → s.blocked_on o ≡ q
      → Fits plan r t (walks_at_thread c r t o q)
  at_thread o (Some (Lock l)) w e = go (stands_at plan r o l.0) refl
    where
      go : (b : Bool) → stands_at plan r o l.0 ≡ b
          → Fits plan r t (cond b (does kind.Shift (Shifts t o l.0 ∷ [])) (does kind.WalkEnd (EndsWalk t ∷ [])))
      go true i = shifts o l w e i
      go false i = ends_at_thread o w (λ k j. grind (arith, e, j, i))
  at_thread o (Some (Chan d)) w e = ends_at_thread o w (λ l j. absurd (let z = sym e ∙ j in cc))
  at_thread o None w e = ends_at_thread o w (λ l j. absurd (let z = sym e ∙ j in cc))

  -- a lock is given back
  given_back : (l : ℕ) (mode : Mode)
      → GivingBack plan r t l mode (gives_back c r t l mode).0 (gives_back c r t l mode).1
  given_back l mode = go (is_drop (s.word l)) refl (is_turnstile (c.kind l)) refl
    where
      go : (b : Bool) → is_drop (s.word l) ≡ b → (k : Bool) → is_turnstile (c.kind l) ≡ k
          → let back : StepKind × Step = cond b (kind.Drop, Drops t l mode)
          (kind.OpenUp, cond k (Opens t l mode) (OpensSleepQueue t l mode)) in
          GivingBack plan r t l mode back.0 back.1
      go true e k f = drops e
      go false e true f = opens e f
      go false e false f = opens_sleep_queue e f

  -- behind the admission of its lock a thread is at its take still, and wants the lock; so the take goes on
  pub at_take : (l : LockNo) (mode : Mode) → IsAtOperation plan r t (Some (Take l mode))
      → IsAtOperation plan (admitted plan r t l) t (Some (Take l mode))
  unfolding after_admit
  at_take l mode i = record {
    running = i.running;
    free = record { no_walk = i.free.no_walk; unmarked = i.free.unmarked; released = i.free.released };
    uncut = i.uncut;
    next = i.next;
  }

  pub admitted_wants : (l : LockNo) → (admitted plan r t l).state.wanted t ≡ Some l.0
  unfolding after_admit
  admitted_wants l = put_same s.wanted t (Some l.0)

  later : (l : LockNo) (mode : Mode) → IsAtOperation plan r t (Some (Take l mode))
      → Acquires plan (admitted plan r t l) t (takes c r t l mode (event.Locked l mode))
  unfolding after_admit
  later l mode i = taken plan (admitted plan r t l) t (anew l mode l.0 (admitted_wants l)) (at_take l mode i)

  module _ (going : has_ended plan r t ≡ false) where
    begun : (l : LockNo) (mode : Mode) → IsAtOperation plan r t (Some (Take l mode)) → (o : Option ℕ) → s.wanted t ≡ o
        → Fits plan r t (run.takes_in_order c r t l mode o)
    begun l mode i (Some k) e = acquires (taken plan r t (anew l mode k e) i)
    begun l mode i None e = go (first_against plan r t l) refl
      where
        go : (o : Option ℕ) → first_against plan r t l ≡ o → Fits plan r t (run.begins_take c r t l mode o)
        go (Some k) f = is_refused k (record { at = i; wants = e }) f
        go None f = is_admitted (record { at = i; wants = e }) f (later l mode i)

    tried : (l : LockNo) (mode : Mode) (past : ℕ) → IsAtOperation plan r t (Some (Try l mode past))
        → Fits plan r t (tries c r t l mode past)
    tried l mode past i = go (admits (c.kind l.0) (s.word l.0) mode) refl
      where
        go : (b : Bool) → admits (c.kind l.0) (s.word l.0) mode ≡ b
            → Fits plan r t (cond b (run.gains c r t l mode true (event.Tried l mode)) (run.finds_busy r t l past))
        go true e = acquires (gained plan r t (by_trying l mode past) i e)
        go false e = finds_busy l mode past i e

    released : (l : LockNo) → IsAtOperation plan r t (Some (Release l))
        → Fits plan r t (run.releases c r t l (mode_held (s.held t l.0)))
    released l i = releases l i (given_back l.0 (mode_held (s.held t l.0)))

    cut_back : IsCutShort plan r t → (hs : List HeldLock) → s.held_locks t ≡ hs
        → Fits plan r t (run.gives_last_back c r t hs)
    cut_back i [] e = has_nothing_left going i e
    cut_back i (h ∷ hs) e = gives_last_back h hs i e (given_back h.lock (mode_held (s.held t h.lock)))

    slept : (d : ChanNo) → IsAtOperation plan r t (Some (Sleep d)) → (o : Option ℕ) → waits_on (s.log t) ≡ o
        → Fits plan r t (run.sleeps c r t d o)
    slept d i None e = sleeps d i e
    slept d i (Some k) e = acquires (taken plan r t (back d k e) i)

    operated : (o : Option Op) → IsAtOperation plan r t o → Fits plan r t (operates c r t o)
    operated None i = has_no_operation going i
    operated (Some (Take l mode)) i = begun l mode i (s.wanted t) refl
    operated (Some (Try l mode past)) i = tried l mode past i
    operated (Some EndTry) i = is_at_endtry i
    operated (Some (Release l)) i = released l i
    operated (Some (Set l key value)) i = makes_entry (Set l key value) (event.Set l key value) i (sets l key value)
    operated (Some (Add l key amount)) i =
        makes_entry (Add l key amount) (event.Added l key amount) i (adds l key amount)
    operated (Some (Get l key)) i = makes_entry (Get l key) (event.Got l key (s.table l.0 key)) i (gets l key)
    operated (Some (Base prio)) i = makes_entry (Base prio) (event.Base prio) i (changes_base prio)
    operated (Some Show) i =
        makes_entry Show (event.Shown (record { 0 = s.base t }) (record { 0 = s.effective t })) i shows
    operated (Some (Sleep d)) i = slept d i (waits_on (s.log t)) refl
    operated (Some (WakeOne d)) i = wakes d of_one i
    operated (Some (WakeAll d)) i = wakes d of_all i

    waited : OwesNothing plan r t → (w : Wait) → s.wait t ≡ w → Fits plan r t (by_wait plan r t w)
    waited f Queued e = is_queued going f e
    waited f (Woken q cause) e = resumes q cause f e
    waited f Running e = go (was_cut s t) refl
      where
        go : (b : Bool) → was_cut s t ≡ b → Fits plan r t (cond b (run.gives_last_back c r t (s.held_locks t))
            (operates c r t (slice_get (operations_of plan t) (r.next_op t))))
        go true cut = cut_back (record { running = e; free = f; cut = cut }) (s.held_locks t) refl
        go false uncut = operated (slice_get (operations_of plan t) (r.next_op t))
            (record { running = e; free = f; uncut = uncut; next = refl })

    owed : s.walk t ≡ NoWalk → s.marked t ≡ [] → (o : Option ℕ) → owed_release c s t ≡ o
        → Fits plan r t (by_release plan r t o)
    owed w e (Some l) f = gives_up w e f (given_back l (mode_held (s.held t l)))
    owed w e None f = waited (record { no_walk = w; unmarked = e; released = f }) (s.wait t) refl

    marked : s.walk t ≡ NoWalk → (ms : List Mark) → s.marked t ≡ ms → Fits plan r t (by_marked plan r t ms)
    marked w (m ∷ ms) e = marks m ms w e
    marked w [] e = owed w e (owed_release c s t) refl

    walked : (w : Walk) → s.walk t ≡ w → Fits plan r t (by_walk plan r t w)
    walked (AtLock l) e = at_lock l (owner_of (s.word l).holder) (s.head (lock_queue l)) e refl refl
    walked (AtThread o) e = at_thread o (s.blocked_on o) e refl
    walked NoWalk e = marked e (s.marked t) refl

  pub fits : Fits plan r t (turn_of plan r t)
  unfolding turn_of
  fits = go (has_ended plan r t) refl
    where
      go : (b : Bool) → has_ended plan r t ≡ b → Fits plan r t (cond b (nothing Ended) (by_walk plan r t (s.walk t)))
      go true e = is_over e
      go false e = walked e (s.walk t) refl

  -- 3. An action is found

  found : has_ended plan r t ≡ false → turn_of plan r t ≡ by_walk plan r t (s.walk t)
  unfolding turn_of
  found going = rw going refl

  -- a thread that owes something hasn't ended, nor has one at an operation
  owing : owes c s t ≡ true → has_ended plan r t ≡ false
  unfolding has_ended
  owing e = grind arith

  pub left_going : (op : Op) → IsAtOperation plan r t (Some op) → has_ended plan r t ≡ false
  unfolding has_ended
  left_going op i = rw (
    lt-leb (length (operations_of plan t)) (r.next_op t)
        (slice_get_within (operations_of plan t) (r.next_op t) op i.next),
    i.uncut,
  ) refl

  -- a walk,
  pub walks_from_lock : (l : ℕ) → s.walk t ≡ AtLock l
      → turn_of plan r t ≡ walks_at_lock t l (owner_of (s.word l).holder) (s.head (lock_queue l))
  walks_from_lock l w = found (owing (rw w refl)) ∙ rw w refl

  pub walks_from_thread : (o : ℕ) → s.walk t ≡ AtThread o → turn_of plan r t ≡ walks_at_thread c r t o (s.blocked_on o)
  walks_from_thread o w = found (owing (rw w refl)) ∙ rw w refl

  -- a marked list,
  pub marks_first : (m : Mark) (ms : List Mark) → s.walk t ≡ NoWalk → s.marked t ≡ m ∷ ms
      → turn_of plan r t ≡ does kind.Mark (Marks t m ms ∷ [])
  marks_first m ms w e = found (owing (rw (w, e) refl)) ∙ rw (w, e) refl

  -- a release after a wait,
  pub gives_up_first : (l : ℕ) → s.walk t ≡ NoWalk → s.marked t ≡ [] → owed_release c s t ≡ Some l
      → turn_of plan r t ≡ run.gives_up c r t l
  gives_up_first l w e f = found (owing (rw (w, e, f) refl)) ∙ rw (w, e, f) refl

  -- a thread that owes nothing, and its operation
  pub goes_by_wait : has_ended plan r t ≡ false → OwesNothing plan r t → turn_of plan r t ≡ by_wait plan r t (s.wait t)
  goes_by_wait going f = found going ∙ rw (f.no_walk, f.unmarked, f.released) refl

  pub makes_operation : (op : Op) → IsAtOperation plan r t (Some op) → turn_of plan r t ≡ operates c r t (Some op)
  makes_operation op i = goes_by_wait (left_going op i) i.free ∙ rw (i.running, i.uncut, i.next) refl
