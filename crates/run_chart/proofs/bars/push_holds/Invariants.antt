use Rattle.run_chart.specs.Bars.{bar_drawn, held_kinds}
use Rattle.run_chart.specs.Spans.{Adds}
use Rattle.run_chart.proofs.bars.push_holds.Given as goal
use Rattle.run_tracks.specs.Rows.{run_in}

abbrev pub invariant-loop-l : goal.invariant-loop-l
invariant-loop-l l =
    Adds bar_drawn l.at.who.0 l.at.from l.at.to l.initial.bars.items l.bars.items
    (λ n. held_kinds (run_in l.at.plan.now n).state l.at.who.0 l.l)
