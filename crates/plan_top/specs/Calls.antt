-- What a call of the program promises, by the words of the command line, by how it ended, and by what its source and
-- its sink tell before and behind it. It is this project's own.
use Rattle.std.specs.Prelude.{◌≡◌, ◌⊎◌, ◌≤◌, ℕ, false, List, Some, None, IfSome, length}
use Rattle.complaints.specs.declared.status.Status.{Status}
use Rattle.complaints.specs.declared.status.Status.TheVariants.{Done, BadScript, WriteFault, NoMemory, TooLong, Usage}
use Rattle.lock_io.specs.Whole.{AddsFront}
use Rattle.lock_model.specs.Limits.{most_bytes}
use Rattle.lock_model.specs.Script.{IsAccepted}
use Rattle.lock_model.specs.declared.plan.Plan.{Plan}
use Rattle.plan_command.specs.Forms.{AsksForHelp, AsksSchedule, asking_of}
use Rattle.plan_top.specs.Scripts.{IsScriptBy, IsTooBig}
use Rattle.top_ends.specs.Calls.{ReadsBytes, Told, Wrote}
use Rattle.top_ends.specs.Statuses.{writes_made}
use Rattle.turn_policy.specs.Schedules.{IsTooLong}
use Rattle.turn_policy.specs.declared.policy.Policy.{Policy}

-- Usage comes exactly where the words are no form of the command line, save for want of memory. Only words that ask for
-- a schedule have the source read.
pub record TellsForms (words : List (List ℕ)) (status : Status) (old new : Told) : Type 0 where
  pub usage : status ≡ Usage → asking_of words ≡ None
  pub no_form : asking_of words ≡ None → (status ≡ Usage) ⊎ (status ≡ NoMemory)
  pub no_form_reads_nothing : asking_of words ≡ None → new ≡ old
  pub help : asking_of words ≡ Some AsksForHelp
      → (status ≡ Done) ⊎ ((status ≡ WriteFault) ⊎ (status ≡ NoMemory))
  pub help_reads_nothing : asking_of words ≡ Some AsksForHelp → new ≡ old
  pub schedule_reads : (policy : Policy) → asking_of words ≡ Some (AsksSchedule policy)
      → ReadsBytes status old new

-- What was written is the script that was read, with the schedule that the policy makes, and at WriteFault a front of
-- it.
pub record Plans (policy : Policy) (status : Status) (source old new : Told) : Type 0 where
  pub whole : status ≡ Done → IfSome source (λ bytes. (text : List ℕ)
      × IsScriptBy policy bytes text × Wrote old new text)
  pub front : status ≡ WriteFault → IfSome source (λ bytes. (text : List ℕ)
      × IsScriptBy policy bytes text × AddsFront old new text)

-- Where the words ask for a schedule, that script is written. Where they ask for help, some text is. At any status but
-- Done and WriteFault nothing is.
pub record WritesScript (words : List (List ℕ)) (status : Status) (source old new : Told) : Type 0
  where
    pub script : (policy : Policy) → asking_of words ≡ Some (AsksSchedule policy)
        → Plans policy status source old new
    pub help : asking_of words ≡ Some AsksForHelp → status ≡ Done
        → (text : List ℕ) × Wrote old new text
    pub nothing : writes_made status ≡ false → new ≡ old

-- TooLong comes only where the bytes are a script, and with the policy's schedule it would have more entries or more
-- bytes than a script may have
abbrev pub TellsTooLong : Policy → Status → Told → Type 0
TellsTooLong policy status source = status ≡ TooLong → IfSome source (λ bytes. (plan : Plan)
    × IsAccepted bytes plan × (IsTooLong policy plan ⊎ IsTooBig policy plan))

-- A source that isn't too big has its script written, or its fault told, or its schedule would be too long, save for
-- want of memory.
abbrev pub AnswersAll : Status → Told → Type 0
AnswersAll status source = IfSome source (λ bytes. length bytes ≤ most_bytes
    → (status ≡ Done) ⊎ ((status ≡ BadScript) ⊎ ((status ≡ TooLong) ⊎ (status ≡ NoMemory))))
