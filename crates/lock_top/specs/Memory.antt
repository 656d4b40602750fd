-- Which status and text belong to a source in memory, with the command step, and why there are none.
use Rattle.std.specs.Prelude.{◌<◌, ◌≤◌, ℕ, List, length}
use Rattle.command_line.specs.Ranges.{HasRanges}
use Rattle.command_line.specs.declared.args.Command.TheVariants.{Step}
use Rattle.command_line.specs.declared.args.LockrunArgs.{LockrunArgs}
use Rattle.complaints.specs.declared.status.Status.{Status}
use Rattle.lock_model.specs.Limits.{most_bytes}
use Rattle.lock_top.specs.Output.{IsOutputSaid}
use Rattle.lock_top.specs.declared.memory.NotStepped.{NotStepped}
use Rattle.lock_top.specs.declared.memory.NotStepped.TheVariants.{NoMemory, NoRange, TooBig}

-- what the words of a command line would say
abbrev pub step_of : ℕ → ℕ → LockrunArgs
step_of chains turns = record { command = Step; chains = chains; turns = turns }

-- nothing stands against such a run, and they are those of the program
pub record IsStepped (chains turns : ℕ) (bytes : List ℕ) (pair : Status × List ℕ) : Type 0 where
  pub ranges : HasRanges (step_of chains turns)
  pub not_big : length bytes ≤ most_bytes
  pub output : IsOutputSaid (step_of chains turns) bytes pair

-- what stands against it, in the order in which that is tested; want of memory says nothing of the source
abbrev pub StandsAgainst : ℕ → ℕ → List ℕ → NotStepped → Type 0
StandsAgainst chains turns bytes NoMemory = Unit {0}
StandsAgainst chains turns bytes NoRange = HasRanges (step_of chains turns) → ⊥
StandsAgainst chains turns bytes TooBig =
    HasRanges (step_of chains turns) × (most_bytes < length bytes)
