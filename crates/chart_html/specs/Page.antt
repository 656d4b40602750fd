-- What the page of a chart is.
use Rattle.std.specs.Prelude.{◌≡◌, ◌++◌, ℕ, List}
use Rattle.chart_escape.specs.Json.{HasNoTag}
use Rattle.chart_escape.specs.Values.{IsJson}
use Rattle.chart_escape.specs.Markup.{escaped}
use Rattle.chart_escape.specs.Reader.{IsWellFormed}
use Rattle.chart_html.specs.Data.{data_bytes}
use Rattle.chart_html.specs.declared.fixed.TheConstants.{BEGIN, CONTROLS, SCRIPT, STYLE}
use Rattle.chart_svg.specs.Drawn.{Draws}
use Rattle.chart_layout.specs.declared.layout.Chart.{Chart}
use Rattle.lock_model.specs.declared.plan.Plan.{Plan}
use Rattle.run_tracks.specs.declared.rows.Rows.{Rows}

-- the title, the picture and the data, and fixed text round them
abbrev pub page_bytes : List ℕ → List ℕ → List ℕ → List ℕ
page_bytes title picture known = BEGIN.now ++ escaped title ++ STYLE.now ++ picture
    ++ CONTROLS.now ++ known ++ SCRIPT.now

-- such a page, whose picture is whole markup in which each bar of the chart stands, and whose data
-- are exactly what the rows and the chart tell of the plan's run: JSON, in which no tag begins
pub record IsPage (plan : Plan) (rows : Rows) (chart : Chart) (title page : List ℕ) : Type 0 where
  pub picture : List ℕ
  pub parts : page ≡ page_bytes title picture (data_bytes plan rows chart)
  pub picture_is_whole : IsWellFormed picture
  pub picture_draws : Draws plan chart picture
  pub rows_are_json : IsJson (data_bytes plan rows chart)
  pub rows_have_no_tag : HasNoTag (data_bytes plan rows chart)
