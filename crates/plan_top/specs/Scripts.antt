-- Which text is the script of some bytes with a schedule that a policy made.
use Rattle.std.specs.Prelude.{◌≡◌, ◌<◌, ◌≤◌, ℕ, List, length}
use Rattle.lock_model.specs.Limits.{most_bytes}
use Rattle.lock_model.specs.Script.{IsAccepted}
use Rattle.lock_model.specs.Script.Canonical.{canonical}
use Rattle.lock_model.specs.declared.numbers.ThreadNo.{ThreadNo}
use Rattle.lock_model.specs.declared.plan.Plan.{Plan}
use Rattle.turn_policy.specs.Schedules.{IsPlanned, with_schedule}
use Rattle.turn_policy.specs.declared.policy.Policy.{Policy}

-- The text is a script whose plan is the given one but for its schedule, and that is the one that the policy makes. It
-- is the canonical text of that plan, and no longer than a script may be.
pub record IsPlannedScript (policy : Policy) (plan : Plan) (text : List ℕ) : Type 0 where
  pub turns : List ThreadNo
  pub planned : IsPlanned policy plan turns
  pub script : IsAccepted text (with_schedule plan turns)
  pub canonical : text ≡ canonical (with_schedule plan turns)
  pub short : length text ≤ most_bytes

-- the bytes are a script, and the text that script with the policy's schedule
pub record IsScriptBy (policy : Policy) (bytes text : List ℕ) : Type 0 where
  pub plan : Plan
  pub source : IsAccepted bytes plan
  pub planned : IsPlannedScript policy plan text

-- a script with the policy's schedule would have more bytes than a script may have
abbrev pub IsTooBig : Policy → Plan → Type 0
IsTooBig policy plan = (turns : List ThreadNo) × IsPlanned policy plan turns
    × (most_bytes < length (canonical (with_schedule plan turns)))
