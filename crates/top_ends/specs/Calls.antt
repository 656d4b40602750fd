-- What a call of a program promises of its source and of its sink, by the status that it answers and by what these tell
-- before and behind it. It is this project's own.
use Rattle.std.specs.Prelude.{◌≡◌, ◌<◌, ◌+◌, ◌↔◌, ◌++◌, ℕ, List, [], Option, Some, IfSome, length, drop, true}
use Rattle.std.specs.Io.KnownBytes.{IsAtEnd}
use Rattle.complaints.specs.declared.status.Status.{Status}
use Rattle.complaints.specs.declared.status.Status.TheVariants.{BadScript, TooBig}
use Rattle.lock_io.specs.Faults.{Rose}
use Rattle.lock_io.specs.Whole.{TakesFront}
use Rattle.lock_model.specs.Limits.{most_bytes}
use Rattle.lock_model.specs.Script.{IsFaulty}
use Rattle.lock_model.specs.Text.{fault_text}
use Rattle.top_ends.specs.Statuses.{reads_all}

-- the bytes that an end has, where it tells them
abbrev pub Told : Type 0
Told = Option (List ℕ)

-- one byte more than a script may have was read, and no more
abbrev pub TookTooMany : List ℕ → Told → Type 0
TookTooMany bytes new = (most_bytes < length bytes) × (new ≡ Some (drop (most_bytes + 1) bytes))

-- No answer takes more from the source than the one byte that shows that it is too big, and a status that tells of the
-- whole source comes only where it was read to its end.
pub record ReadsBytes (status : Status) (old new : Told) : Type 0 where
  pub at_most : TakesFront old new (most_bytes + 1)
  pub too_big : IfSome old (λ bytes. (status ≡ TooBig) ↔ TookTooMany bytes new)
  pub whole : reads_all status ≡ true → IsAtEnd new

-- an end's count of faults rises at the one status that tells of it, and stays at every other
pub record TellsFaults (status fault : Status) (old new : ℕ) : Type 0 where
  pub rose : status ≡ fault → Rose old new
  pub stayed : (status ≡ fault → ⊥) → new ≡ old

-- what is held behind a call that was to write the text: with it, or as it was
abbrev pub Wrote : Told → Told → List ℕ → Type 0
Wrote old new text = IfSome old (λ held. new ≡ Some (held ++ text))

-- BadScript comes only where the bytes are no script, and then the line tells of their first fault; at any other status
-- there is none
pub record TellsScriptFault (status : Status) (line : List ℕ) (source : Told) : Type 0 where
  pub faulty : status ≡ BadScript → IfSome source (λ bytes. (n code : ℕ) × IsFaulty bytes n code
      × (line ≡ fault_text n code))
  pub none : (status ≡ BadScript → ⊥) → line ≡ []
