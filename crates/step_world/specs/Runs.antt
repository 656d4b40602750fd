-- That a machine represents a run of a plan that is on track, and that its turn is the run's.
use Rattle.std.specs.Prelude.{◌≡◌, ◌≢◌, ◌⊎◌, ℕ, suc, ◌<◌, Bool, true, false, List, [], ◌∷◌, ◌++◌, length, is_some, Option, Some, None, IsSomeAnd}
use Rattle.lock_model.specs.Plans.{config_of, lock_kind}
use Rattle.lock_model.specs.Config.{Config}
use Rattle.lock_model.specs.Holds.{Holds}
use Rattle.lock_model.specs.Words.{is_turnstile}
use Rattle.lock_model.specs.Limits.{most_held}
use Rattle.lock_state.specs.Facts.{Lawful}
use Rattle.lock_state.specs.Steps.{Step, Stamps, May, MayAll, after, after_all}
use Rattle.lock_state.specs.Run.{Run, Action, has_ended, turn_of, run_behind, operates, notes, gains, takes, gives_back, held_now}
use Rattle.lock_state.specs.State.{State, NoWalk}
use Rattle.lock_model.specs.Queues.{lock_queue, stands}
use Rattle.lock_model.specs.declared.plan.Op.{Op}
use Rattle.lock_model.specs.declared.plan.Op.TheVariants.{WakeOne, WakeAll}
use Rattle.lock_model.specs.declared.plan.Kind.TheVariants.{Mtx}
use Rattle.lock_model.specs.declared.plan.Mode.TheVariants.{Excl}
use Rattle.lock_model.specs.declared.numbers.ChanNo.{ChanNo}
use Rattle.lock_model.specs.declared.numbers.LockNo.{LockNo}
use Rattle.lock_model.specs.declared.plan.Mode.{Mode}
use Rattle.lock_model.specs.declared.event.Event.{Event}
use Rattle.lock_model.specs.declared.event.Event.TheVariants.{Unlocked}
use Rattle.lock_model.specs.declared.plan.Plan.{Plan}
use Rattle.lock_model.specs.declared.turn.Turn.{Turn}
use Rattle.lock_model.specs.declared.turn.Turn.TheVariants.{Did, Idle, Ended}
use Rattle.lock_model.specs.declared.turn.StepKind.{StepKind}
use Rattle.lock_model.specs.declared.turn.StepKind.TheVariants.{Note}
use Rattle.run_laws.specs.OnTrack.{IsOnTrack, OwesNothing, IsAtOperation, IsCutShort, admitted, first_against}
use Rattle.step_machine.specs.declared.machine.Machine.{Machine}
use Rattle.step_world.specs.declared.turns.Made.{Made}
use Rattle.step_world.specs.declared.turns.Made.TheVariants.{Does, Ends, Skips}
use Rattle.step_machine.specs.Represents.{Represents}
use Rattle.step_machine.specs.Steps.{Progress, progress}
use Rattle.step_machine.specs.Runs.{held_at, IsAsFar, HasRoom, HasKeys, RepresentsRun}

-- The machine represents the run, and that is on track.
pub record IsRunOf (plan : Plan) (m : Machine) (r : Run) : Type 0 where
  pub shows : RepresentsRun plan m r
  pub on_track : IsOnTrack plan r

-- some run of the plan of which something holds
abbrev pub HasRun : Plan → Machine → (Run → Type 0) → Type 0
HasRun plan m premise = (r : Run) × IsRunOf plan m r × premise r

-- 1. A thread's turn

-- the answer is that of the thread's turn, and the machine represents the run behind it
abbrev pub IsTurn : Plan → Run → ℕ → Machine → Turn → Type 0
IsTurn plan r t m answer =
    (answer ≡ (turn_of plan r t).answer) × RepresentsRun plan m (run_behind plan r t)

-- so from whatever run it was of which something holds
abbrev pub Follows : Plan → ℕ → Machine → Machine → Turn → (Run → Type 0) → Type 0
Follows plan t old new answer premise = (r : Run) → IsRunOf plan old r → premise r
    → IsTurn plan r t new answer

-- where the answer is that the thread is idle or has ended, nothing has changed
abbrev pub KeepsWhereIdle : Turn → Machine → Machine → Type 0
KeepsWhereIdle answer old new = (answer ≡ Idle) ⊎ (answer ≡ Ended) → new ≡ old

-- a thread that hasn't ended has neither a walk nor a marked list
pub record IsDoneWaking (plan : Plan) (r : Run) (t : ℕ) : Type 0 where
  pub going : has_ended plan r t ≡ false
  pub no_walk : r.state.walk t ≡ NoWalk
  pub unmarked : r.state.marked t ≡ []

-- a thread that hasn't ended owes nothing
pub record IsFree (plan : Plan) (r : Run) (t : ℕ) : Type 0 where
  pub going : has_ended plan r t ≡ false
  pub owes : OwesNothing plan r t

-- a thread stands on the turnstile of no lock
abbrev pub IsNowhere : Config → State → ℕ → Type 0
IsNowhere c s o = (l : ℕ) → is_turnstile (c.kind l) ≡ true
    → s.blocked_on o ≡ Some (lock_queue l) → stands o (s.lists (lock_queue l)) ≡ 0

-- it stands on that of the lock, which has an owner or has none
pub record StandsAt (c : Config) (s : State) (o l : ℕ) (owned : Bool) : Type 0 where
  pub turnstile : is_turnstile (c.kind l) ≡ true
  pub blocked_on : s.blocked_on o ≡ Some (lock_queue l)
  pub stands : 0 < stands o (s.lists (lock_queue l))
  pub owner : owned ≡ is_some (s.owner (lock_queue l))

-- 2. What a running thread makes of its operation, before it goes on

-- the turn's answer
abbrev pub answer_of : Made → Turn
answer_of (Does turn) = turn
answer_of (Ends kind) = Did kind
answer_of (Skips past) = Did Note

-- and with which operation it goes on, where that isn't the present one, the n-th
abbrev pub next_of : Made → ℕ → Option ℕ
next_of (Does turn) n = None
next_of (Ends kind) n = Some (suc n)
next_of (Skips past) n = Some past

-- so the action, with these steps
abbrev pub action_of : Made → ℕ → List Step → Action
action_of made n steps =
    record { answer = answer_of made; steps = steps; next = next_of made n }

-- a thread is as far as the run n says, but for its next operation, which is still that of r
pub record IsBehind (plan : Plan) (r n : Run) (t : ℕ) (a : Progress) : Type 0 where
  pub next_op : a.next_op ≡ r.next_op t
  pub as_far : IsAsFar plan n t (record a { next_op = n.next_op t })

-- what no column tells of the run n, which r becomes by a turn of the thread, before that goes on
pub record IsAside (plan : Plan) (r n : Run) (t : ℕ) (m : Machine) : Type 0 where
  pub own : IsSomeAnd (progress m t) (IsBehind plan r n t)
  pub others : (u : ℕ) → u < length plan.threads → u ≢ t
      → IsSomeAnd (progress m u) (IsAsFar plan r u)
  pub room : HasRoom plan m
  pub keys : HasKeys plan m

-- The turn is this action, and the machine has made its steps. What the thread holds is what it is to go on with.
pub record IsMade (plan : Plan) (r : Run) (t : ℕ) (m : Machine) (made : Made) : Type 0 where
  pub steps : List Step
  pub action : turn_of plan r t ≡ action_of made (r.next_op t) steps
  pub shows : Represents (config_of plan) m (after_all (config_of plan) r.state steps)
  pub aside : IsAside plan r (run_behind plan r t) t m

-- so from whatever run it was of which something holds
abbrev pub MakesAction : Plan → ℕ → Machine → Machine → Made → (Run → Type 0) → Type 0
MakesAction plan t old new made premise = (r : Run) → IsRunOf plan old r → premise r
    → IsMade plan r t new made

-- a running thread's next operation is one that only makes an entry, with the event, and leaves what is held
pub record IsNote (plan : Plan) (r : Run) (t : ℕ) (event : Event) : Type 0 where
  pub op : Op
  pub at : IsAtOperation plan r t (Some op)
  pub noted : operates (config_of plan) r t (Some op) ≡ notes r t event
  pub holds_on : held_now plan r t ≡ held_at plan t (suc (r.next_op t))

-- it is one that gains the lock in the mode, and makes an entry with the event
pub record IsGain (plan : Plan) (r : Run) (t : ℕ) (l : LockNo) (mode : Mode) (by_try : Bool)
    (event : Event) : Type 0 where
  pub op : Op
  pub at : IsAtOperation plan r t (Some op)
  pub gained : operates (config_of plan) r t (Some op)
      ≡ gains (config_of plan) r t l mode by_try event
  pub lock : l.0 < length plan.locks
  pub few : length (held_now plan r t) < most_held
  pub holds_more : held_now plan r t
      ++ (record { l = l; mode = mode; by_try = by_try }) ∷ [] ≡ held_at plan t (suc (r.next_op t))

-- it is one that takes the lock in the mode, or a wait that takes it back, with that event
pub record IsTake (plan : Plan) (r : Run) (t : ℕ) (l : LockNo) (mode : Mode) (event : Event) : Type 0
  where
    pub op : Op
    pub at : IsAtOperation plan r t (Some op)
    pub taken : operates (config_of plan) r t (Some op)
        ≡ takes (config_of plan) r t l mode event
    pub lock : l.0 < length plan.locks
    pub kind : lock_kind plan l.0 ≡ Mtx → mode ≡ Excl
    pub few : length (held_now plan r t) < most_held
    pub holds_more : held_now plan r t
        ++ (record { l = l; mode = mode; by_try = false }) ∷ []
        ≡ held_at plan t (suc (r.next_op t))

-- it is one that wakes sleepers of the channel, the best or all
abbrev pub wake_op : ChanNo → Bool → Op
wake_op c true = WakeAll c
wake_op c false = WakeOne c

abbrev pub IsWake : Plan → Run → ℕ → ChanNo → Bool → Type 0
IsWake plan r t c all = IsAtOperation plan r t (Some (wake_op c all))

-- 3. Giving a lock back

-- the answer and the step by which a thread gives a lock back that it holds in the mode
abbrev pub back_in : Config → State → ℕ → ℕ → Mode → StepKind × Step
back_in c s t l mode = gives_back c (record { state = s; next_op = λ u. 0 }) t l mode

-- it may do so
abbrev pub MayGiveBack : Config → State → ℕ → ℕ → Mode → Type 0
MayGiveBack c s t l mode = May c s (back_in c s t l mode).1

-- some lawful state that the machine represents, of which something holds
abbrev pub HasState : Plan → Machine → (State → Type 0) → Type 0
HasState plan m premise =
    (s : State) × Represents (config_of plan) m s × Lawful (config_of plan) s × premise s

-- whatever lawful state the machine represented, it represents the state behind that step, and this is the answer
abbrev pub GivesBack : Plan → Machine → Machine → ℕ → ℕ → StepKind → Type 0
GivesBack plan old new t l kind = (s : State) (mode : Mode) → Represents (config_of plan) old s
    → Lawful (config_of plan) s → MayGiveBack (config_of plan) s t l mode
    → (kind ≡ (back_in (config_of plan) s t l mode).0)
    × Represents (config_of plan) new
    (after (config_of plan) s (back_in (config_of plan) s t l mode).1)

-- the steps by which a thread releases a lock that it holds in the mode, and notes that
abbrev pub unlocks : Config → State → ℕ → LockNo → Mode → List Step
unlocks c s t l mode = Stamps t (Unlocked l mode) ∷ (back_in c s t l.0 mode).1 ∷ []

-- it may do so
pub record MayUnlock (c : Config) (s : State) (t : ℕ) (l : LockNo) (mode : Mode) : Type 0 where
  pub held : s.held t l.0 ≡ Holds mode
  pub may : MayAll c s (unlocks c s t l mode)

-- whatever lawful state the machine represented, it represents the state behind those steps, and this is the answer
abbrev pub Unlocks : Plan → Machine → Machine → ℕ → LockNo → StepKind → Type 0
Unlocks plan old new t l kind = (s : State) (mode : Mode) → Represents (config_of plan) old s
    → Lawful (config_of plan) s → MayUnlock (config_of plan) s t l mode
    → (kind ≡ (back_in (config_of plan) s t l.0 mode).0)
    × Represents (config_of plan) new
    (after_all (config_of plan) s (unlocks (config_of plan) s t l mode))

-- a running thread that was cut hasn't ended
pub record IsGivingUp (plan : Plan) (r : Run) (t : ℕ) : Type 0 where
  pub going : has_ended plan r t ≡ false
  pub cut : IsCutShort plan r t

-- 4. A take's first turn

-- none does, and the machine represents the run in which the lock is admitted
pub record IsAdmission (plan : Plan) (r : Run) (t : ℕ) (l : LockNo) (m : Machine) : Type 0 where
  pub none_against : first_against plan r t l ≡ None
  pub shows : IsRunOf plan m (admitted plan r t l)
