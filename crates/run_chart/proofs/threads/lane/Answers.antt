use Rattle.std.proofs.Common.{ap, ◌∙◌}
use Rattle.std.specs.Prelude.{find, option_map}
use Rattle.run_chart.proofs.Told.{ended_told}
use Rattle.run_chart.proofs.threads.lane.Goals as goal

pub returns : goal.returns
returns c =
    let at = c.args.at.now in
    ap (λ ended. record { thread = at.who; ended = ended }) (c.first_ended.ensures
    ∙ ap (λ xs. option_map (λ change. change.0) (find (λ change. change.1.ended) xs)) c.changes.ensures.changes
    ∙ ended_told at.plan.now at.rows.now c.requires.run at.who.0 c.thread_rows.result.now c.thread_rows.ensures
    c.changes.ensures.track)
