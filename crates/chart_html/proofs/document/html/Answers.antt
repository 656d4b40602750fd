use Rattle.std.proofs.Common.{◌≡◌}
use Rattle.std.proofs.lemmas.Result.{IfOk-weaker}
use Rattle.chart_escape.proofs.Written.{text_has_no_tag}
use Rattle.chart_html.proofs.Shallow.{data_is_json}
use Rattle.chart_html.specs.Data.{data_value}
use Rattle.chart_html.specs.Page.{page_bytes, IsPage}
use Rattle.chart_html.proofs.document.html.Goals as goal

pub returns : goal.returns
returns c =
    let plan = c.args.plan.now in
    let rows = c.args.rows.now in
    let chart = c.args.chart.now in
    IfOk-weaker c.page_of.result
    (λ page. page.items ≡ page_bytes c.args.title.now c.deref.result.now c.deref-2.result.now)
    (λ page. IsPage plan rows chart c.args.title.now page.items)
    (λ page e. record {
      picture = c.in_ok-picture.picture.items;
      parts = rw (e, c.deref.ensures.value, c.deref-2.ensures.value, c.in_ok-known.ensures.told);
      picture_is_whole = c.in_ok-picture.ensures.whole;
      picture_draws = c.in_ok-picture.ensures.draws;
      rows_are_json = data_is_json plan rows chart;
      rows_have_no_tag = text_has_no_tag (data_value plan rows chart);
    })
    c.page_of.ensures
