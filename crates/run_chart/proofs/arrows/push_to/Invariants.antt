use Rattle.std.proofs.Common.{◌≡◌, ◌++◌, take}
use Rattle.run_chart.specs.Turns.{arrows_to}
use Rattle.run_chart.proofs.arrows.push_to.Given as goal

abbrev pub invariant-loop-to : goal.invariant-loop-to
invariant-loop-to l =
    l.arrows.items ≡ l.initial.arrows.items ++ arrows_to l.at.turn l.kind l.at.who.0 (take l.to-index l.tos)
