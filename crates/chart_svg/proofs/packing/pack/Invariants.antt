use Rattle.std.proofs.Common.{◌≡◌, ◌-◌, ◌≤◌, length, map, take, All}
use Rattle.chart_svg.proofs.packing.pack.Given as goal

abbrev pub invariant-loop-bar : goal.invariant-loop-bar
invariant-loop-bar l = record {
  waits : l.waits_on ≤ length l.packed.ends.items - 1;
  levels : All (λ at. at.1 ≤ length l.packed.ends.items - 1) l.packed.laid.items;
  bars : map (λ at. at.0) l.packed.laid.items ≡ take l.bar-index l.bar-items;
}
