use Rattle.chart_html.proofs.Shallow.{data_is_json}
use Rattle.chart_html.proofs.data.data_of.Goals as goal

pub returns-clause-reads : goal.returns-clause-reads
returns-clause-reads c =
    rw (c.in_ok-push_words.ensures, c.in_ok-push_data.ensures, c.new-out.ensures.items)
    (data_is_json c.args.plan.now c.args.rows.now c.args.chart.now)
