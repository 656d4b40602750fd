-- Which texts are scripts with a policy's schedule, and what a call promises that reads nothing.
use Rattle.std.proofs.Common.{◌≡◌, ℕ, ◌≤◌, ◌<◌, List, length, inr, refl, sym, subst, All}
use Rattle.complaints.specs.declared.status.Status.{Status}
use Rattle.complaints.specs.declared.status.Status.TheVariants.{NoMemory}
use Rattle.lock_model.specs.Limits.{most_bytes, most_scheduled}
use Rattle.lock_model.specs.Script.{IsAccepted}
use Rattle.lock_model.specs.Script.Canonical.{canonical}
use Rattle.lock_model.specs.declared.numbers.ThreadNo.{ThreadNo}
use Rattle.lock_model.specs.declared.plan.Plan.{Plan}
use Rattle.plan_top.specs.Calls.{TellsForms}
use Rattle.plan_top.specs.Scripts.{IsPlannedScript}
use Rattle.script_laws.proofs.CanonicalTexts.{read_rescheduled}
use Rattle.top_ends.proofs.Takes.{unread}
use Rattle.top_ends.specs.Calls.{Told}
use Rattle.turn_policy.specs.Schedules.{IsPlanned, with_schedule}
use Rattle.turn_policy.specs.declared.policy.Policy.{Policy}

-- the canonical text of a script's plan with the policy's schedule
pub written : (policy : Policy) (plan : Plan) (bytes : List ℕ) (turns : List ThreadNo) (text : List ℕ)
    → IsAccepted bytes plan → IsPlanned policy plan turns → All (λ t. t.0 < length plan.threads) turns
    → length turns ≤ most_scheduled
    → text ≡ canonical (with_schedule plan turns) → length text ≤ most_bytes → IsPlannedScript policy plan text
written policy plan bytes turns text accepted planned within few is short = record {
  turns = turns;
  planned = planned;
  script = subst (λ (x : List ℕ). IsAccepted x (with_schedule plan turns)) (sym is)
      (read_rescheduled bytes plan turns accepted within few);
  canonical = is;
  short = short;
}

-- where memory was wanting for the words, nothing was read
pub no_memory : (words : List (List ℕ)) (status : Status) (old : Told) → status ≡ NoMemory
    → TellsForms words status old old
no_memory words status old is = subst (λ s. TellsForms words s old old) (sym is) (record {
  usage = λ e. absurd cc;
  no_form = λ e. inr refl;
  no_form_reads_nothing = λ e. refl;
  help = λ e. inr (inr refl);
  help_reads_nothing = λ e. refl;
  schedule_reads = λ policy e. unread NoMemory old refl (λ f. cc);
})
