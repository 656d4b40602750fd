-- The text of the scheduled run of a script in memory.
use Rattle.std.specs.Prelude.{◌≡◌, ℕ, ◌<◌, List, ◌++◌, drop, length}
use Rattle.command_line.specs.Ranges.{HasRanges}
use Rattle.complaints.specs.declared.status.Status.{Status}
use Rattle.complaints.specs.declared.status.Status.TheVariants.{Done, BadScript, ReadFault, WriteFault, NoMemory, Stuck, Reversed, TooLong, TooBig, Usage}
use Rattle.lock_top.specs.Memory.{IsStepped, step_of}

-- the program's exit status
abbrev pub number_of : Status → ℕ
number_of Done = 0
number_of BadScript = 1
number_of ReadFault = 2
number_of WriteFault = 3
number_of NoMemory = 4
number_of Stuck = 5
number_of Reversed = 6
number_of TooLong = 7
number_of TooBig = 8
number_of Usage = 64

-- there may not be so many chains of each sort, or so many turns
abbrev pub AreTooMany : ℕ → ℕ → Type 0
AreTooMany chains turns = HasRanges (step_of chains turns) → ⊥

-- the program's text of the script was written in front, and its length and the program's exit status told
abbrev pub HasStepped : List ℕ → ℕ → ℕ → List ℕ → List ℕ → ℕ → ℕ → Type 0
HasStepped script chains turns before after written status =
    (made : Status) × (text : List ℕ) × IsStepped chains turns script (made, text)
    × (after ≡ text ++ drop (length text) before) × (written ≡ length text)
    × (status ≡ number_of made)

-- it is longer than the room for it, and both were told
abbrev pub HasSteppedLonger : List ℕ → ℕ → ℕ → List ℕ → ℕ → ℕ → Type 0
HasSteppedLonger script chains turns room written status =
    (made : Status) × (text : List ℕ) × IsStepped chains turns script (made, text)
    × (length room < length text) × (written ≡ length text) × (status ≡ number_of made)
