use Rattle.std.proofs.Common.{◌≡◌, ◌++◌, take}
use Rattle.chart_escape.specs.Reader.{read}
use Rattle.chart_svg.specs.Shapes.{shapes_bytes}
use Rattle.chart_svg.proofs.shapes.push_shapes.Given as goal

abbrev pub invariant-loop-shape : goal.invariant-loop-shape
invariant-loop-shape l = record {
  whole : read l.out.items ≡ read l.fn.out.items;
  pushed : l.out.items ≡ l.fn.out.items ++ shapes_bytes (take l.shape-index l.shapes);
}
