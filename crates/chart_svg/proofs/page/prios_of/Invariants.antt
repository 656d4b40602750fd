use Rattle.std.proofs.Common.{◌≡◌, flat_map, take}
use Rattle.chart_svg.specs.Lanes.{prios_in}
use Rattle.chart_svg.proofs.page.prios_of.Given as goal

abbrev pub invariant-loop-step : goal.invariant-loop-step
invariant-loop-step l = l.prios.items ≡ flat_map prios_in (take l.step-index l.steps)
