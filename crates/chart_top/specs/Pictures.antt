-- Which text is a picture of a plan, and which belongs to the bytes of a source.
use Rattle.std.specs.Prelude.{◌≡◌, ℕ, ◌-◌, Bool, false, nat_lt, length, min}
use Rattle.chart_command.specs.Forms.{Wanted}
use Rattle.chart_command.specs.declared.args.Form.{Form}
use Rattle.chart_command.specs.declared.args.Form.TheVariants as written
use Rattle.chart_escape.specs.Reader.{IsWellFormed}
use Rattle.chart_escape.specs.Values.{IsJson}
use Rattle.chart_html.specs.Data.{data_bytes}
use Rattle.chart_html.specs.Page.{IsPage}
use Rattle.chart_layout.specs.declared.layout.Chart.{Chart}
use Rattle.chart_svg.specs.Drawn.{Draws}
use Rattle.chart_text.specs.Lines.{text_bytes}
use Rattle.chart_trace.specs.Events.{trace_bytes}
use Rattle.chart_top.specs.Heading.{Text, plain_title, subtitle_of, title_by}
use Rattle.lock_model.specs.Script.{IsAccepted}
use Rattle.lock_model.specs.declared.plan.Plan.{Plan}
use Rattle.run_chart.specs.Charts.{IsChartOf}
use Rattle.run_tracks.specs.Rows.{TellsRun}
use Rattle.run_tracks.specs.declared.rows.Rows.{Rows}

-- which texts a renderer makes of the rows and the chart of a plan, under a title and the line below it
abbrev pub Rendering : Type 1
Rendering = Form → Plan → Rows → Chart → Text → Text → Text → Type 0

-- What is known of a text under a title and the line below it, by its form: a picture is well-formed markup in which
-- each bar of the chart stands; a page is whole round one, and has the data of just these rows and this chart; a trace
-- is JSON, and just that of the chart; a text has just the lines of these rows and this chart; and the data that a page
-- has may stand alone.
abbrev pub in_forms : Form → Plan → Rows → Chart → Text → Text → Text → Type 0
in_forms written.Svg plan rows chart title below text =
    IsWellFormed text × Draws plan chart text
in_forms written.Html plan rows chart title below text = IsPage plan rows chart title text
in_forms written.Trace plan rows chart title below text =
    IsJson text × (text ≡ trace_bytes plan chart title)
in_forms written.Text plan rows chart title below text = text ≡ text_bytes plan rows chart title
in_forms written.Json plan rows chart title below text =
    IsJson text × (text ≡ data_bytes plan rows chart)

-- The text is what the renderer makes of a chart of the plan's scheduled run, with so many chains and at most so many
-- turns. The chart shows the rows that are wanted; one behind the end of the run counts as that end.
pub record IsPictureOfPlan (renders : Rendering) (wanted : Wanted) (bytes : Text) (plan : Plan)
    (text : Text) : Type 0 where
  pub rows : Rows
  pub run : TellsRun plan wanted.chains wanted.turns rows
  pub chart : Chart
  pub shows : IsChartOf plan chart
  pub first : chart.first ≡ min wanted.from (length rows.turns)
  pub last : chart.last ≡ min wanted.to (length rows.turns)
  pub rendered : renders wanted.form plan rows chart
      (title_by wanted.title bytes (plain_title plan)) (subtitle_of bytes) text

-- the bytes are a script, and the text a picture of its plan
pub record IsPicture (renders : Rendering) (wanted : Wanted) (bytes : Text) (text : Text) : Type 0
  where
    pub plan : Plan
    pub script : IsAccepted bytes plan
    pub picture : IsPictureOfPlan renders wanted bytes plan text

-- how many turns are drawn of a run that has so many
abbrev pub turns_drawn : Wanted → ℕ → ℕ
turns_drawn wanted turns = min wanted.to turns - min wanted.from turns

-- whether a picture of so many turns is long: one of more than 300. Other forms serve any number.
abbrev pub is_long : Form → ℕ → Bool
is_long written.Svg turns = nat_lt 300 turns
is_long written.Html turns = false
is_long written.Trace turns = false
is_long written.Text turns = false
is_long written.Json turns = false

-- whether the picture is long that is wanted of a plan
pub record IsLength (wanted : Wanted) (plan : Plan) (long : Bool) : Type 0 where
  pub rows : Rows
  pub run : TellsRun plan wanted.chains wanted.turns rows
  pub is : long ≡ is_long wanted.form (turns_drawn wanted (length rows.turns))

-- and of bytes that are a script
pub record TellsLength (wanted : Wanted) (bytes : Text) (long : Bool) : Type 0 where
  pub plan : Plan
  pub script : IsAccepted bytes plan
  pub length : IsLength wanted plan long
