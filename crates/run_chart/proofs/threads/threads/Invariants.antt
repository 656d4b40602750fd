use Rattle.std.proofs.Common.{◌≡◌, length, map}
use Rattle.std.specs.List.{range_with_len}
use Rattle.run_chart.specs.Bars.{bar_drawn, kinds_in}
use Rattle.run_chart.specs.Charts.{lane_in}
use Rattle.run_chart.specs.Spans.{Draws}
use Rattle.run_chart.specs.Steps.{prios_in, step_drawn}
use Rattle.run_chart.proofs.threads.threads.Given as goal
use Rattle.run_tracks.specs.Rows.{run_in}

abbrev pub invariant-loop-t : goal.invariant-loop-t
invariant-loop-t l = record {
  lanes : l.lanes.items ≡ map (lane_in l.plan (length l.rows.turns)) (range_with_len 0 l.t);
  bars : Draws bar_drawn (length l.plan.threads) l.from l.to (λ t n. kinds_in l.plan (run_in l.plan n).state t) l.t
      l.bars.items;
  steps : Draws step_drawn (length l.plan.threads) l.from l.to (λ t n. prios_in (run_in l.plan n).state t) l.t
      l.steps.items;
}
