use Rattle.std.proofs.Common.{◌∙◌, ap, arith}
use Rattle.chart_svg.proofs.Places.{in_lane}
use Rattle.chart_svg.proofs.Standing.{before, last}
use Rattle.chart_svg.specs.Drawn.{mark_bytes}
use Rattle.chart_svg.proofs.marks.one_mark.Goals as goal

pub returns : goal.returns
returns c = λ picture on has.
    let fit = (c.requires.lanes _ _ c.in-Some.ensures).fits in
    let written = mark_bytes c.args.page.now.plan.now c.args.mark in
    record {
      y = _;
      in_lane = in_lane c.args.page.now c.requires c.args.mark.thread.0 _ _ c.in-Some.ensures
          (omega (arith, fit.begins, fit.begin_fits), omega (arith, fit.has_room));
      stands = last _ _ _ _ _ c.in_ok-add.ensures (c.in_ok-shape_of.ensures
          ∙ ap (λ x. written x c.marks.result.0) c.turn_at-x.ensures ∙ ap (written _) c.marks.ensures)
          (before _ _ _ _ c.in_ok-add_some.ensures on);
    }
