use Rattle.std.proofs.Common.{◌≡◌}
use Rattle.chart_svg.proofs.Places.{in_lane}
use Rattle.chart_svg.proofs.Standing.{before, last}
use Rattle.chart_svg.specs.Drawn.{head_figure}
use Rattle.chart_svg.specs.Lanes.{scale_of}
use Rattle.chart_svg.proofs.arrows.arrow_between.Goals as goal

pub begin_of-begin-requires : goal.begin_of-begin-requires
begin_of-begin-requires c = (c.args.page.now.prios.items, (c.requires.out.lanes _ _ c.requires.begins).fits)

pub tip_of-tip-requires : goal.tip_of-tip-requires
tip_of-tip-requires c = (c.requires.out.lanes _ _ c.requires.ends).fits

pub returns : goal.returns
returns c = λ lines on_lines heads on_heads.
    let page = c.args.page.now in
    let arrow = c.args.arrow in
    let out = c.requires.out in
    let figured : c.figure_of.result ≡ head_figure (scale_of page) arrow =
    rw (c.requires.ends, c.requires.begins) c.figure_of.ensures in
    record {
      begin = c.begin_of-begin.result.0;
      tip = c.tip_of-tip.result.0;
      begins = in_lane page out arrow.from.0 _ _ c.requires.begins c.begin_of-begin.ensures;
      ends = in_lane page out arrow.to.0 _ _ c.requires.ends c.tip_of-tip.ensures;
      line = last _ _ _ _ _ c.in_ok-add.ensures c.line_of.ensures on_lines;
      head = last _ _ _ _ _ c.in_ok-add-2.ensures (rw figured at c.in_ok-head.ensures)
          (before _ _ _ _ c.in_ok-add_some.ensures on_heads);
    }
