use Rattle.std.specs.Prelude.{◌≡◌}
use Rattle.std.proofs.lemmas.Result.{IfOk-weaker}
use Rattle.lock_history.specs.Outcomes.{outcome_seen}
use Rattle.lock_model.specs.Text.{Outcome}
use Rattle.lock_top.specs.Output.{IsOutputOfThreads, output_of}
use Rattle.lock_top.proofs.answer.of_threads.Goals as goal

pub returns-clause-pair : goal.returns-clause-pair
returns-clause-pair g c =
    let plan = c.args.plan.now in
    let o : Outcome = outcome_seen c.in_ok-outcome.outcome in
    IfOk-weaker c.of_outcome.result (λ a. (a.0, a.1.items) ≡ output_of plan o)
    (λ a. IsOutputOfThreads plan (a.0, a.1.items))
    (λ a same. record { outcome = o; run = c.in_ok-outcome.ensures.run.run; same = same }) c.of_outcome.ensures.pair
