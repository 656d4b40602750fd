use Rattle.std.proofs.Common.{◌++◌, ap, flat_map, refl, ◌∙◌}
use Rattle.std.specs.Prelude.{option_to_list}
use Rattle.std.proofs.lemmas.List.{take_all}
use Rattle.run_chart.specs.Bars.{bar_drawn, bar_of}
use Rattle.run_chart.proofs.Drawn.{adds_spans}
use Rattle.run_chart.proofs.bars.push_shown.Goals as goal

pub returns : goal.returns
returns g c = λ is makes.
    let at = c.args.at.now in
    let spans = c.in_ok-spans in
    let old = c.args.bars.now.items in
    adds_spans bar_drawn at.who.0 at.from at.to (λ shown. shown.0)
    (λ s what. record { thread = at.who; what = what; first = s.first; last = s.last }) (λ s what. refl) old
    c.loop-span.bars.items spans.spans.items is spans.ensures.within (spans.ensures.values is makes)
    (c.loop-span.invariant
    ∙ ap (λ ss. old ++ flat_map (λ s. option_to_list (bar_of at.who s)) ss)
    (take_all c.loop-span.span-index c.deref-span-items.result.now c.loop-span-test.false
    ∙ c.deref-span-items.ensures.value))
