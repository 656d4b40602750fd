-- What C does with the world of a script, and what it is told of it, by the handle of the world.
use Rattle.std.specs.Prelude.{◌≡◌, ℕ, ◌<◌, ◌-◌, ◌==◌, if◌then◌else◌, List, ◌++◌, drop, length, replicate, slice_get, Option, Some, None, option_map}
use Rattle.lock_model.specs.Plans.{config_of}
use Rattle.lock_model.specs.Script.{IsFaulty}
use Rattle.lock_model.specs.declared.plan.Plan.{Plan}
use Rattle.lock_model.specs.declared.plan.QueueName.{QueueName}
use Rattle.lock_model.specs.declared.plan.QueueName.TheVariants.{Lock, Chan}
use Rattle.lock_model.specs.declared.turn.StepKind.TheVariants.{Gain, Claim, Drop, Enter, OpenUp, Mark, Resume, Lend, Shift, WalkEnd, Add, Wake, Note}
use Rattle.lock_model.specs.declared.turn.Turn.{Turn}
use Rattle.lock_model.specs.declared.turn.Turn.TheVariants as turn
use Rattle.lock_state.specs.Run.{Run, run_behind, start_run, turn_of}
use Rattle.step_world.specs.Worlds.{World, Represents}
use Rattle.turn_calls.specs.Openings.{IsRead}
use Rattle.turn_calls.specs.Tellings.{IsToldOf}
use Rattle.turn_calls.specs.Texts.{text_of_run}
use Rattle.turn_calls.specs.declared.opening.NotOpened.{NotOpened}
use Rattle.turn_calls.specs.declared.opening.NotOpened.TheVariants.{NoMemory, NoChains, TooBig, NoScript}
use Rattle.turn_calls.specs.declared.threads.ThreadNow.{ThreadNow}
use Rattle.turn_calls.specs.declared.threads.ThreadState.{ThreadState}
use Rattle.turn_calls.specs.declared.threads.ThreadState.TheVariants.{Running, Queued, Idle, Woken, Ended}
use Rattle.lockrun_c.specs.Codes.{byte_of}
use Rattle.lockrun_c.specs.declared.content.Content.{Content}
use Rattle.lockrun_c.specs.declared.content.Content.TheVariants as content
use Rattle.lockrun_c.specs.declared.worlds.numbers.Counts.{Counts}
use Rattle.lockrun_c.specs.declared.worlds.numbers.ScriptFaultTold.{ScriptFaultTold}
use Rattle.lockrun_c.specs.declared.worlds.numbers.ThreadTold.{ThreadTold}

-- 1. The numbers

abbrev pub state_number : ThreadState → ℕ
state_number Running = 0
state_number Queued = 1
state_number Idle = 2
state_number Woken = 3
state_number Ended = 4

abbrev pub queue_sort : Option QueueName → ℕ
queue_sort None = 0
queue_sort (Some (Lock l)) = 1
queue_sort (Some (Chan c)) = 2

abbrev pub queue_number : Option QueueName → ℕ
queue_number None = 0
queue_number (Some (Lock l)) = l.0
queue_number (Some (Chan c)) = c.0

abbrev pub told_of : ThreadNow → ThreadTold
told_of now = record {
  state = state_number now.state;
  queue = queue_sort now.blocked_on;
  which = queue_number now.blocked_on;
  base = now.base.0;
  effective = now.effective.0;
}

abbrev pub turn_number : Turn → ℕ
turn_number turn.Idle = 0
turn_number turn.Ended = 1
turn_number (turn.Did Gain) = 2
turn_number (turn.Did Claim) = 3
turn_number (turn.Did Drop) = 4
turn_number (turn.Did Enter) = 5
turn_number (turn.Did OpenUp) = 6
turn_number (turn.Did Mark) = 7
turn_number (turn.Did Resume) = 8
turn_number (turn.Did Lend) = 9
turn_number (turn.Did Shift) = 10
turn_number (turn.Did WalkEnd) = 11
turn_number (turn.Did Add) = 12
turn_number (turn.Did Wake) = 13
turn_number (turn.Did Note) = 14

-- 2. Opening

-- the world before its first turn, of the plan of that script
pub record HasJustBegun (script : List ℕ) (chains : ℕ) (w : World) : Type 0 where
  pub plan : IsRead script chains w.plan
  pub chains_are : w.chains ≡ chains
  pub begins : Represents w (start_run (config_of w.plan))

abbrev pub IsWorldFor : List ℕ → ℕ → Option Content → Type 0
IsWorldFor script chains home =
    (w : World) × (home ≡ Some (content.World w)) × HasJustBegun script chains w

-- the source is no script, and that is its first fault
abbrev pub IsFaultyFor : List ℕ → ScriptFaultTold → Type 0
IsFaultyFor script fault = IsFaulty script fault.line fault.code

-- why it isn't opened is told by that number, and of no script beside it the first fault
abbrev pub IsTold : NotOpened → ScriptFaultTold → ScriptFaultTold → ℕ → Type 0
IsTold NoMemory before after code = (code ≡ 16) × (after ≡ before)
IsTold NoChains before after code = (code ≡ 26) × (after ≡ before)
IsTold TooBig before after code = (code ≡ 27) × (after ≡ before)
IsTold (NoScript fault) before after code =
    (code ≡ 28) × (after ≡ record { line = fault.line; code = fault.code })

-- 3. Between two turns and in one

-- the thread is one of the world's, it had its turn, and what became of that is told
pub record HasMade (t : ℕ) (before after : World) (did : ℕ) : Type 0 where
  pub thread : t < length before.plan.threads
  pub plan : after.plan ≡ before.plan
  pub chains : after.chains ≡ before.chains
  pub turn : (r : Run) → Represents before r → Represents after (run_behind before.plan r t)
  pub did_so : (r : Run) → Represents before r → did ≡ turn_number (turn_of before.plan r t).answer

abbrev pub HasTurned : ℕ → Option Content → Option Content → ℕ → Type 0
HasTurned thread before after did =
    (w v : World) × (before ≡ Some (content.World w)) × (after ≡ Some (content.World v))
    × HasMade (byte_of thread) w v did

-- the world has no such thread
abbrev pub HasNoThread : ℕ → World → Type 0
HasNoThread t w = t < length w.plan.threads → ⊥

abbrev pub HasNoSuchThread : ℕ → Option Content → Type 0
HasNoSuchThread thread home =
    (w : World) × (home ≡ Some (content.World w)) × HasNoThread (byte_of thread) w

-- the thread is one of the world's, and it is told as it is
pub record IsSeen (t : ℕ) (w : World) (told : ThreadTold) : Type 0 where
  pub thread : t < length w.plan.threads
  pub now : ThreadNow
  pub is : (r : Run) → Represents w r → IsToldOf w.plan r t now
  pub told_so : told ≡ told_of now

abbrev pub HasToldThread : ℕ → Option Content → ThreadTold → Type 0
HasToldThread thread home told =
    (w : World) × (home ≡ Some (content.World w)) × IsSeen (byte_of thread) w told

-- a text is that of the world's run as it stands
abbrev pub IsTextOfRun : World → List ℕ → Type 0
IsTextOfRun w text = (r : Run) → Represents w r → text ≡ text_of_run w.plan w.chains r

-- it was written in front, and its length told
abbrev pub IsPrinted : World → List ℕ → List ℕ → ℕ → Type 0
IsPrinted w before after written =
    (text : List ℕ) × IsTextOfRun w text × (after ≡ text ++ drop (length text) before)
    × (written ≡ length text)

abbrev pub HasPrintedWorld : Option Content → List ℕ → List ℕ → ℕ → Type 0
HasPrintedWorld home before after written =
    (w : World) × (home ≡ Some (content.World w)) × IsPrinted w before after written

-- it is longer than the room for it, and its length was told
abbrev pub IsTooLongFor : World → List ℕ → ℕ → Type 0
IsTooLongFor w room written =
    (text : List ℕ) × IsTextOfRun w text × (length room < length text) × (written ≡ length text)

abbrev pub HasLongerText : Option Content → List ℕ → ℕ → Type 0
HasLongerText home room written =
    (w : World) × (home ≡ Some (content.World w)) × IsTooLongFor w room written

-- 4. Names

abbrev pub counts_of : Plan → Counts
counts_of plan = record {
  threads = length plan.threads;
  locks = length plan.locks;
  chans = length plan.chans;
}

abbrev pub HasCounted : Option Content → Counts → Type 0
HasCounted home counts =
    (w : World) × (home ≡ Some (content.World w)) × (counts ≡ counts_of w.plan)

-- the name of one of a sort: of the threads, of the locks, or of the condition variables and channels
unfoldable pub name_at : Plan → ℕ → ℕ → Option (List ℕ)
name_at plan sort n =
    if sort == 0 then option_map (λ d. d.name) (slice_get plan.threads n)
    else (if sort == 1 then option_map (λ d. d.name) (slice_get plan.locks n)
    else (if sort == 2 then option_map (λ d. d.name) (slice_get plan.chans n)
    else None))

-- its bytes, and 0 behind them where they are fewer than 16
abbrev pub padded : List ℕ → List ℕ
padded name = name ++ replicate (16 - length name) 0

abbrev pub HasNamed : ℕ → ℕ → Option Content → List ℕ → Type 0
HasNamed sort n home bytes =
    (w : World) × (name : List ℕ) × (home ≡ Some (content.World w))
    × (name_at w.plan sort n ≡ Some name) × (bytes ≡ padded name)

abbrev pub HasNoSuchName : ℕ → ℕ → Option Content → Type 0
HasNoSuchName sort n home =
    (w : World) × (home ≡ Some (content.World w)) × (name_at w.plan sort n ≡ None)
