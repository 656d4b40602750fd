use Rattle.std.proofs.Common.{◌≡◌, ℕ, ◌++◌, Some, ap, map, refl, rules, sym, arith, ◌∙◌}
use Rattle.std.proofs.lemmas.List.{take_all}
use Rattle.std.proofs.lemmas.List.Concat.{flat_map_single}
use Rattle.lock_model.specs.declared.numbers.Prio.{Prio}
use Rattle.run_chart.specs.Steps.{step_drawn, step_of}
use Rattle.run_chart.proofs.Drawn.{adds_spans}
use Rattle.run_chart.proofs.Told.{row_told}
use Rattle.run_chart.proofs.threads.push_steps.Goals as goal
use Rattle.run_tracks.specs.Rows.{run_in}

pub returns : goal.returns
returns c =
    let at = c.args.at.now in
    let plan = at.plan.now in
    let t = at.who.0 in
    let s = λ (n : ℕ). (run_in plan n).state in
    let prios = c.in_ok-prios in
    let old = c.args.steps.now.items in
    let is = λ (n : ℕ). let both : Prio
    × Prio = (record { 0 = (s n).effective t }, record { 0 = (s n).base t }) in both in
    adds_spans step_drawn t at.from at.to (λ (both : Prio × Prio). Some (both.0.0, both.1.0))
    (λ s both. record {
      thread = at.who;
      first = s.first;
      last = s.last;
      effective = record { 0 = both.0 };
      base = record { 0 = both.1 };
    }) (λ s both. refl) old c.loop-span.steps.items prios.prios.items is
    prios.ensures.within (prios.ensures.values is (λ n v made a b e k.
    let row = row_told plan at.rows.now c.requires.run t c.thread_rows.result.now c.thread_rows.ensures n
    (let low = c.requires.within in omega (arith, low, b)) v e in
    let both : made ≡ (v.effective, v.base) = search rules in
    rw (← row.effective, ← row.base) both))
    (c.loop-span.invariant
    ∙ ap (λ ss. old ++ map (step_of at.who) ss)
    (take_all c.loop-span.span-index c.deref-span-items.result.now c.loop-span-test.false
    ∙ c.deref-span-items.ensures.value)
    ∙ ap (λ xs. old ++ xs) (sym (flat_map_single (step_of at.who) prios.prios.items)))
