-- What a call of the program promises, by the words of the command line, by how it ended, and by what its source and
-- its sink tell before and behind it. It is this project's own.
use Rattle.std.specs.Prelude.{◌≡◌, ◌≢◌, ◌⊎◌, ◌≤◌, ℕ, Bool, false, List, Some, None, IfSome, length}
use Rattle.chart_command.specs.Forms.{AsksForHelp, AsksPicture, Wanted, asking_of}
use Rattle.chart_top.specs.Pictures.{IsPicture, Rendering, TellsLength}
use Rattle.complaints.specs.declared.status.Status.{Status}
use Rattle.complaints.specs.declared.status.Status.TheVariants.{Done, BadScript, WriteFault, NoMemory, Usage}
use Rattle.lock_io.specs.Whole.{AddsFront}
use Rattle.lock_model.specs.Limits.{most_bytes}
use Rattle.top_ends.specs.Calls.{ReadsBytes, Told, Wrote}
use Rattle.top_ends.specs.Statuses.{writes_made}

-- Usage comes exactly where the words are no form of the command line, save for want of memory. Only words that ask for
-- a picture have the source read.
pub record TellsForms (words : List (List ℕ)) (status : Status) (old new : Told) : Type 0 where
  pub usage : status ≡ Usage → asking_of words ≡ None
  pub no_form : asking_of words ≡ None → (status ≡ Usage) ⊎ (status ≡ NoMemory)
  pub no_form_reads_nothing : asking_of words ≡ None → new ≡ old
  pub help : asking_of words ≡ Some AsksForHelp
      → (status ≡ Done) ⊎ ((status ≡ WriteFault) ⊎ (status ≡ NoMemory))
  pub help_reads_nothing : asking_of words ≡ Some AsksForHelp → new ≡ old
  pub picture_reads : (wanted : Wanted) → asking_of words ≡ Some (AsksPicture wanted)
      → ReadsBytes status old new

-- What was written is a whole picture of the script that was read, and at WriteFault a front of one.
pub record Draws (renders : Rendering) (wanted : Wanted) (status : Status)
    (source old new : Told) : Type 0 where
  pub whole : status ≡ Done → IfSome source (λ bytes. (text : List ℕ)
      × IsPicture renders wanted bytes text × Wrote old new text)
  pub front : status ≡ WriteFault → IfSome source (λ bytes. (text : List ℕ)
      × IsPicture renders wanted bytes text × AddsFront old new text)

-- Where the words ask for a picture, that is drawn. Where they ask for help, some text is written. At any status but
-- Done and WriteFault nothing is.
pub record WritesPicture (renders : Rendering) (words : List (List ℕ)) (status : Status)
    (source old new : Told) : Type 0 where
  pub picture : (wanted : Wanted) → asking_of words ≡ Some (AsksPicture wanted)
      → Draws renders wanted status source old new
  pub help : asking_of words ≡ Some AsksForHelp → status ≡ Done
      → (text : List ℕ) × Wrote old new text
  pub nothing : writes_made status ≡ false → new ≡ old

-- a source that isn't too big has its picture written, or its fault told, save for want of memory
abbrev pub AnswersAll : Status → Told → Type 0
AnswersAll status source = IfSome source (λ bytes. length bytes ≤ most_bytes
    → (status ≡ Done) ⊎ ((status ≡ BadScript) ⊎ (status ≡ NoMemory)))

-- It is told that a picture is long exactly where a long one was written.
pub record TellsLong (words : List (List ℕ)) (status : Status) (source : Told) (long : Bool) : Type 0
  where
    pub picture : (wanted : Wanted) → asking_of words ≡ Some (AsksPicture wanted) → status ≡ Done
        → IfSome source (λ bytes. TellsLength wanted bytes long)
    pub help : asking_of words ≡ Some AsksForHelp → long ≡ false
    pub none : status ≢ Done → long ≡ false
