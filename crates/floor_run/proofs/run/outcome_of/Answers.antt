use Rattle.std.proofs.Common.{◌≡◌, ◌∙◌}
use Rattle.floor_run.proofs.Names
use Names.{AllocError, Result, Ok, Err, IfOk, outcome_seen, IsClosing, threads_of, description_of, IsMerged}
use Names.{outcome_left, few_entries, tickets_once, logs_merged, outcome_of}
use Rattle.lock_history.specs.declared.outcome.Outcome.{Outcome}
use Rattle.floor_run.proofs.Running.{left_same}
use Rattle.floor_run.proofs.run.outcome_of.Goals as goal

pub outcome_of-requires-clause-once : goal.outcome_of-requires-clause-once
outcome_of-requires-clause-once c = tickets_once _ _ c.args.closing.now c.requires.closing

pub outcome_of-requires-clause-few : goal.outcome_of-requires-clause-few
outcome_of-requires-clause-few c = few_entries _ _ c.args.closing.now c.requires.closing

pub returns : goal.returns
returns c = go c.outcome_of.result c.outcome_of.ensures.merged c.outcome_of.ensures.outcome
  where
    go : (r : Result Outcome AllocError) → IfOk r (λ o. IsMerged c.args.closing.now.logs.items o.history)
        → IfOk r (λ o. outcome_seen o ≡ outcome_left c.args.closing.now o.history)
        → IfOk r (λ o.
        (x : IsClosing (description_of c.args.plan.now c.args.chains) (threads_of c.args.plan.now) c.args.closing.now)
        → outcome_seen o ≡ outcome_of c.args.plan.now x.history)
    go (Ok o) merged left = λ x.
        left ∙ left_same c.args.plan.now c.args.chains c.args.closing.now x o.history
        (logs_merged (threads_of c.args.plan.now) c.args.closing.now.logs.items x.history x.logs x.legal.tickets_run
        o.history merged.long merged.placed)
    go (Err e) merged left = cc
