use Rattle.std.proofs.Common.{[], ◌∷◌, length, ap, sym, subst, refl, arith}
use Rattle.std.proofs.lemmas.List.{length-append}
use Rattle.chart_svg.proofs.Room.{laid_more, laid_none}
use Rattle.chart_svg.specs.Lanes.{IsLane}
use Rattle.chart_svg.specs.declared.page.Page.{Page}
use Rattle.chart_svg.proofs.page.Page.put_lanes.Goals as goal

pub loop-t-init : goal.loop-t-init
loop-t-init c = record {
  same = refl;
  long = c.requires.none;
  laid_out = laid_none c.args.self.now c.requires.none c.requires.fits c.requires.wide c.requires.prios;
}

pub loop-t-preserved : goal.loop-t-preserved
loop-t-preserved c =
    let old = c.loop-t.self in
    let lane = c.in_ok-lane.lane in
    let put : Page → Page = λ p. record p { lanes = c.add_lane.new.lanes; bottom = lane.bottom } in
    record {
      same = ap put c.loop-t.invariant.same;
      long = omega (
        arith,
        ap length c.in_ok-add_lane.ensures,
        length-append old.lanes.items (lane ∷ []),
        c.loop-t.invariant.long,
      );
      laid_out = laid_more old lane c.add_lane.new.lanes c.in_ok-add_lane.ensures c.in_ok-lane.ensures.top
          (subst (λ n. IsLane old.prios.items old.chart.now n lane) (sym c.loop-t.invariant.long)
          c.in_ok-lane.ensures.lane) c.loop-t.invariant.laid_out;
    }
