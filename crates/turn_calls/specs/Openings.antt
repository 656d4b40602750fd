-- For which sources and chains a world is opened, and why not for others.
use Rattle.std.specs.Prelude.{ℕ, ◌<◌, ◌≤◌, List, length}
use Rattle.lock_model.specs.Limits.{most_bytes}
use Rattle.lock_model.specs.Script.{IsAccepted, IsFaulty}
use Rattle.lock_model.specs.declared.limits.TheConstants.{CHAINS}
use Rattle.lock_model.specs.declared.plan.Plan.{Plan}
use Rattle.turn_calls.specs.declared.opening.NotOpened.{NotOpened}
use Rattle.turn_calls.specs.declared.opening.NotOpened.TheVariants.{NoMemory, NoChains, TooBig, NoScript}

-- there are some chains of each sort, and no more than may be
pub record IsFew (chains : ℕ) : Type 0 where
  pub some : 1 ≤ chains
  pub few : chains ≤ CHAINS

-- nothing stands against a world of so many chains for the source: it is the script of the plan
pub record IsRead (bytes : List ℕ) (chains : ℕ) (plan : Plan) : Type 0 where
  pub few : IsFew chains
  pub not_big : length bytes ≤ most_bytes
  pub accepted : IsAccepted bytes plan

-- why it isn't opened, in the order in which that is tested; want of memory says nothing of the source
abbrev pub StandsAgainst : List ℕ → ℕ → NotOpened → Type 0
StandsAgainst bytes chains NoMemory = Unit {0}
StandsAgainst bytes chains NoChains = IsFew chains → ⊥
StandsAgainst bytes chains TooBig = IsFew chains × (most_bytes < length bytes)
StandsAgainst bytes chains (NoScript fault) =
    IsFew chains × (length bytes ≤ most_bytes) × IsFaulty bytes fault.line fault.code
