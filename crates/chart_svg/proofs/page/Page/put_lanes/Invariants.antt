use Rattle.std.proofs.Common.{◌≡◌, length}
use Rattle.chart_svg.specs.Lanes.{IsLaidOut}
use Rattle.chart_svg.proofs.page.Page.put_lanes.Given as goal

abbrev pub invariant-loop-t : goal.invariant-loop-t
invariant-loop-t l = record {
  same : l.self ≡ record l.fn.self { lanes = l.self.lanes; bottom = l.self.bottom };
  long : length l.self.lanes.items ≡ l.t;
  laid_out : IsLaidOut l.self;
}
