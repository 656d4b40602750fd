-- What a call of the program promises, by the words of the command line, by the status that it answers, and by what its
-- source and its sink tell before and behind it. It is this project's own.
use Rattle.std.specs.Prelude.{◌≡◌, ◌≢◌, ◌⊎◌, ◌≤◌, ℕ, List, IfSome, length, true, false}
use Rattle.command_line.specs.Forms.{is_form, is_run}
use Rattle.complaints.specs.declared.status.Status.{Status}
use Rattle.complaints.specs.declared.status.Status.TheVariants.{Done, NoMemory, Reversed, Stuck, Usage, WriteFault}
use Rattle.lock_io.specs.Whole.{AddsFront}
use Rattle.lock_model.specs.Limits.{most_bytes}
use Rattle.lock_model.specs.OrderedPlans.{IsOrdered}
use Rattle.lock_model.specs.Script.{IsAccepted}
use Rattle.lock_model.specs.declared.plan.Plan.{Plan}
use Rattle.lock_top.specs.Output.{has_text, IsOutput, writes}
use Rattle.top_ends.specs.Calls.{Told, Wrote}

-- Usage comes only where the words are no form of the command line. Where they are none, nothing is read, and only want
-- of memory is told in its place.
pub record TellsForms (words : List (List ℕ)) (status : Status) (old new : Told) : Type 0 where
  pub usage : status ≡ Usage → is_form words ≡ false
  pub no_form : is_form words ≡ false → (status ≡ Usage) ⊎ (status ≡ NoMemory)
  pub no_form_reads_nothing : is_form words ≡ false → new ≡ old

-- The status and the text that was written belong to the words and to the bytes of the source. At WriteFault a front of
-- such a text was added, and where no text was made nothing was written.
pub record WritesOutput (words : List (List ℕ)) (status : Status) (source old new : Told) : Type 0
  where
    pub output : has_text status ≡ true → IfSome source (λ bytes. (text : List ℕ)
        × IsOutput words bytes (status, text) × Wrote old new text)
    pub front : status ≡ WriteFault → IfSome source (λ bytes. (made : Status) × (text : List ℕ)
        × IsOutput words bytes (made, text) × AddsFront old new text)
    pub nothing : writes status ≡ false → new ≡ old

-- a source that isn't too big has its whole text written, save for want of memory
abbrev pub WritesWhole : Status → Told → Type 0
WritesWhole status source = IfSome source (λ bytes. length bytes ≤ most_bytes
    → (has_text status ≡ true) ⊎ (status ≡ NoMemory))

-- So it has. Where the words ask for a run of threads, and the source is a script of an ordered plan, that run is done,
-- save for want of memory.
pub record WritesAll (words : List (List ℕ)) (status : Status) (source : Told) : Type 0 where
  pub text : WritesWhole status source
  pub ordered : is_run words ≡ true → IfSome source (λ bytes. (plan : Plan)
      → length bytes ≤ most_bytes → IsAccepted bytes plan → IsOrdered plan
      → (status ≡ Done) ⊎ (status ≡ NoMemory))

-- whatever the words ask for, no run of a script of an ordered plan is stuck or reversed
abbrev pub NeverStops : Status → Told → Type 0
NeverStops status source = IfSome source (λ bytes. (plan : Plan)
    → IsAccepted bytes plan → IsOrdered plan → (status ≢ Stuck) × (status ≢ Reversed))
