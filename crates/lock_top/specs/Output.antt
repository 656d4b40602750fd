-- Which status and text belong to the words of a command line and to the bytes of a source, and which states the run
-- goes through.
use Rattle.std.specs.Prelude.{◌≡◌, ℕ, Bool, false, true, List, [], reverse, Option, Some, None}
use Rattle.std.specs.FinMap.{FinMap, entries, get}
use Rattle.command_line.specs.Forms.{words_of}
use Rattle.command_line.specs.declared.args.Command.{Command}
use Rattle.command_line.specs.declared.args.Command.TheVariants.{Check, Profile, Run, Step, Ticks}
use Rattle.command_line.specs.declared.args.LockrunArgs.{LockrunArgs}
use Rattle.complaints.specs.declared.status.Status.{Status}
use Rattle.complaints.specs.declared.status.Status.TheVariants.{Done, BadScript, ReadFault, WriteFault, NoMemory, Stuck, Reversed, TooLong, TooBig, Usage}
use Rattle.floor_run.specs.Runs.{IsOutcome}
use Rattle.hold_profile.specs.ProfileText.{profile_text}
use Rattle.hold_profile.specs.Profiles.{profile_of}
use Rattle.lock_model.specs.Config.{Config}
use Rattle.lock_model.specs.Plans.{config_of}
use Rattle.lock_model.specs.Script.{Reading, Reads, Faulty, reading_of}
use Rattle.lock_model.specs.History.{place_cmp, tables_of}
use Rattle.lock_model.specs.Text.{Ending, Outcome, IsDone, IsStuck, IsReversed, IsTooLong, text_of, counts_text, fault_text}
use Rattle.lock_model.specs.declared.plan.Plan.{Plan}
use Rattle.lock_state.specs.Best.{HasBest, HasCycle}
use Rattle.lock_state.specs.Facts.{LawfulTurn, Ordered, Taken}
use Rattle.lock_state.specs.Run.{HasLegalHistory, course_after, scheduled_run}
use Rattle.lock_state.specs.State.{State}
use Rattle.script_read.specs.declared.fault.ReadError.{ReadError}
use Rattle.script_read.specs.declared.fault.ReadError.TheVariants.{Memory, Script}
use Rattle.tick_sleep.specs.Script as ticks
use Rattle.tick_sleep.specs.Text.{tick_run}
use Rattle.top_ends.specs.Statuses.{reads_all}

abbrev pub status_of : Ending → Status
status_of IsDone = Done
status_of IsStuck = Stuck
status_of IsReversed = Reversed
status_of IsTooLong = TooLong

-- the status and the text of what a run of a plan leaves to be printed
abbrev pub output_of : Plan → Outcome → Status × List ℕ
output_of plan o = (status_of o.ending, text_of plan o)

-- and those of the profile of its history
abbrev pub profile_output_of : Plan → Outcome → Status × List ℕ
profile_output_of plan o =
    (status_of o.ending, profile_text plan (profile_of plan o.history) o.ending)

-- A status and a text belong to a run of a plan's threads. Which threads meet which is not said, so each outcome of
-- such a run has its own.
pub record IsOutputOfThreads (plan : Plan) (pair : Status × List ℕ) : Type 0 where
  pub outcome : Outcome
  pub run : IsOutcome plan outcome
  pub same : pair ≡ output_of plan outcome

-- They belong to what a plan has: check counts it, and runs nothing.
abbrev pub IsOutputOfCounts : Plan → Status × List ℕ → Type 0
IsOutputOfCounts plan pair = pair ≡ (Done, counts_text plan)

-- to its scheduled run, with so many chains of each sort and at most so many turns
abbrev pub IsOutputOfSchedule : ℕ → ℕ → Plan → Status × List ℕ → Type 0
IsOutputOfSchedule chains turns plan pair = pair ≡ output_of plan (scheduled_run plan chains turns)

-- to the profile of that run
abbrev pub IsOutputOfProfile : ℕ → ℕ → Plan → Status × List ℕ → Type 0
IsOutputOfProfile chains turns plan pair =
    pair ≡ profile_output_of plan (scheduled_run plan chains turns)

-- to the line of a source's first fault
abbrev pub IsOutputOfFault : ℕ → ℕ → Status × List ℕ → Type 0
IsOutputOfFault line code pair = pair ≡ (BadScript, fault_text line code)

-- to a script of threads and locks: to what its plan has or does, or to the line of its first fault
abbrev pub IsOutputOfReading : (Plan → Status × List ℕ → Type 0) → Reading → Status × List ℕ
    → Type 0
IsOutputOfReading of_plan (Reads plan) pair = of_plan plan pair
IsOutputOfReading of_plan (Faulty line code) pair = IsOutputOfFault line code pair

unfoldable pub IsOutputOfLocks : (Plan → Status × List ℕ → Type 0) → List ℕ → Status × List ℕ
    → Type 0
IsOutputOfLocks of_plan bytes pair = IsOutputOfReading of_plan (reading_of bytes) pair

-- to a script of ticks: to the text of its run, or to the line of its first fault
abbrev pub IsOutputOfTickReading : ticks.Reading → Status × List ℕ → Type 0
IsOutputOfTickReading (ticks.Reads plan) pair = pair ≡ (Done, tick_run plan)
IsOutputOfTickReading (ticks.Faulty line code) pair = IsOutputOfFault line code pair

unfoldable pub IsOutputOfTicks : List ℕ → Status × List ℕ → Type 0
IsOutputOfTicks bytes pair = IsOutputOfTickReading (ticks.reading_of bytes) pair

-- to the bytes of a source, by the command, and by the numbers of chains and turns, which some commands read
abbrev pub IsOutputBy : Command → ℕ → ℕ → List ℕ → Status × List ℕ → Type 0
IsOutputBy Check chains turns bytes pair = IsOutputOfLocks IsOutputOfCounts bytes pair
IsOutputBy Step chains turns bytes pair =
    IsOutputOfLocks (IsOutputOfSchedule chains turns) bytes pair
IsOutputBy Run chains turns bytes pair = IsOutputOfLocks IsOutputOfThreads bytes pair
IsOutputBy Ticks chains turns bytes pair = IsOutputOfTicks bytes pair
IsOutputBy Profile chains turns bytes pair =
    IsOutputOfLocks (IsOutputOfProfile chains turns) bytes pair

abbrev pub IsOutputSaid : LockrunArgs → List ℕ → Status × List ℕ → Type 0
IsOutputSaid said bytes pair = IsOutputBy said.command said.chains said.turns bytes pair

-- Why no text was made of a source: the line of its first fault is what belongs to it, and want of memory says nothing
-- of the source.
abbrev pub IsFaultOf : (Status × List ℕ → Type 0) → ReadError → Type 0
IsFaultOf is_output (Script fault) = is_output (BadScript, fault_text fault.line fault.code)
IsFaultOf is_output (Memory e) = Unit {0}

-- without words that are a form there is no text
abbrev pub IsOutputWhereSaid : Option LockrunArgs → List ℕ → Status × List ℕ → Type 0
IsOutputWhereSaid None bytes pair = pair ≡ (Usage, [])
IsOutputWhereSaid (Some said) bytes pair = IsOutputSaid said bytes pair

-- the status and the text belong to the words of a command line and to the bytes of a source
abbrev pub IsOutput : List (List ℕ) → List ℕ → Status × List ℕ → Type 0
IsOutput words bytes pair = IsOutputWhereSaid (words_of words) bytes pair

-- the status says that a whole text was written
abbrev pub has_text : Status → Bool
has_text Done = true
has_text BadScript = true
has_text ReadFault = false
has_text WriteFault = false
has_text NoMemory = false
has_text Stuck = true
has_text Reversed = true
has_text TooLong = true
has_text TooBig = false
has_text Usage = false

-- the status says that some of a text may be written: the source was read before
abbrev pub writes : Status → Bool
writes = reads_all

-- the state behind so many turns of a plan's run
abbrev pub state_behind : Plan → ℕ → State
state_behind plan n = (course_after plan n).run.state

-- A state between two turns is lawful. The class graph has no cycle and orders what is held and wanted, so nobody waits
-- in a cycle. Its edges are those of the takes, and each refusal has its cause. Where nobody waits in a cycle and no
-- walk is under way, each thread's effective priority is the best behind it.
pub record IsLawfulState (c : Config) (s : State) : Type 0 where
  pub lawful : LawfulTurn c s
  pub ordered : Ordered c s
  pub no_cycle : HasCycle s → ⊥
  pub taken : Taken c s
  pub best : HasBest c s

-- rows of keys and values are a state's tables: one for each key that has a value, ascending
abbrev pub TellsTables : State → List ((ℕ × ℕ) × ℕ) → Type 0
TellsTables s rows =
    (m : FinMap place_cmp ℕ) × (rows ≡ entries m) × ((l k : ℕ) → get m (l, k) ≡ s.table l k)

-- With so many chains of each sort and so many turns: the state behind each number of turns is lawful. The printed
-- history is legal; the printed tables are those of the last state, and what the printed history leaves.
pub record IsLawfulRun (plan : Plan) (chains : ℕ) (turns : ℕ) : Type 0 where
  pub states : (n : ℕ) → IsLawfulState (config_of plan) (state_behind plan n)
  pub legal : HasLegalHistory plan (scheduled_run plan chains turns)
  pub tables : TellsTables (state_behind plan turns) (scheduled_run plan chains turns).tables
  pub replay : (scheduled_run plan chains turns).tables
      ≡ entries (tables_of (reverse (scheduled_run plan chains turns).history))
