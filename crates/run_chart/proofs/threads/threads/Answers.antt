use Rattle.std.proofs.Common.{◌≡◌, ◌<◌, ℕ, ◌+◌, [], ◌∷◌, ◌++◌, length, map, ap, sym, arith, ◌∙◌}
use Rattle.std.specs.List.{range_with_len}
use Rattle.std.proofs.lemmas.List.FromFn.{map-range_with_len_more}
use Rattle.run_chart.specs.Bars.{bar_drawn, kinds_in}
use Rattle.run_chart.specs.Charts.{lane_in}
use Rattle.run_chart.specs.Steps.{prios_in, step_drawn}
use Rattle.run_chart.proofs.Drawn.{draws_more, draws_none}
use Rattle.run_chart.proofs.threads.threads.Goals as goal
use Rattle.run_tracks.specs.Rows.{run_in}

pub loop-t-init : goal.loop-t-init
loop-t-init c =
    let plan = c.args.plan.now in
    record {
      lanes = c.new-lanes.ensures.items;
      bars = rw c.new-bars.ensures.items
          (draws_none bar_drawn (length plan.threads) c.args.from c.args.to
          (λ t n. kinds_in plan (run_in plan n).state t));
      steps = rw c.new-steps.ensures.items
          (draws_none step_drawn (length plan.threads) c.args.from c.args.to (λ t n. prios_in (run_in plan n).state t));
    }

pub loop-t-preserved : goal.loop-t-preserved
loop-t-preserved c =
    let plan = c.args.plan.now in
    let turns = length c.args.rows.now.turns in
    let from = c.args.from in
    let to = c.args.to in
    let t : ℕ = c.loop-t.t in
    let held = c.loop-t.invariant in
    let less : t < length plan.threads =
    omega (arith, c.loop-t-test.true, ap length c.as_slice-t-end.ensures, c.requires.run.told.columns.thread_each)
    in
    record {
      lanes = c.in_ok-push.ensures.items ∙ ap (λ xs. xs ++ c.lane.result ∷ []) held.lanes
          ∙ ap (λ x. map (lane_in plan turns) (range_with_len 0 t) ++ x ∷ []) c.lane.ensures
          ∙ sym (map-range_with_len_more (lane_in plan turns) 0 t t (let e : 0 + t ≡ t = omega arith in e));
      bars = draws_more bar_drawn (length plan.threads) from to (λ t n. kinds_in plan (run_in plan n).state t) t
          c.loop-t.bars.items c.push_bars.new.bars.items less held.bars c.in_ok-push_bars.ensures;
      steps = draws_more step_drawn (length plan.threads) from to (λ t n. prios_in (run_in plan n).state t) t
          c.loop-t.steps.items c.push_steps.new.steps.items less held.steps c.in_ok-push_steps.ensures;
    }

pub returns : goal.returns
returns c =
    let plan = c.args.plan.now in
    let all : c.loop-t.t ≡ length plan.threads =
    omega (
      arith,
      c.loop-t-test.false,
      c.loop-t.auto.t-end,
      ap length c.as_slice-t-end.ensures,
      c.requires.run.told.columns.thread_each,
    ) in
    let held = rw all at c.loop-t.invariant in
    record { lanes = held.lanes; bars = held.bars; steps = held.steps }
