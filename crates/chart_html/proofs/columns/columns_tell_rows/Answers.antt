use Rattle.chart_html.specs.Tracks.{told}
use Rattle.chart_html.proofs.Changed.{is_track, tells_as}
use Rattle.chart_html.proofs.columns.columns_tell_rows.Goals as goal

pub returns-clause-track : goal.returns-clause-track
returns-clause-track c plan column = is_track (told plan column)

pub returns-clause-tells : goal.returns-clause-tells
returns-clause-tells c plan column rows n h = tells_as (told plan column) rows n h.ascends
