use Rattle.std.proofs.Common.{◌+◌, ◌∙◌, ◌++◌, [], ap, codes}
use Rattle.std.proofs.lemmas.Option.{same_Some}
use Rattle.chart_layout.specs.declared.layout.PrioSpan.{PrioSpan}
use Rattle.chart_svg.proofs.Standing.{begins, within}
use Rattle.chart_svg.specs.Drawn.{pixels, words_bytes}
use Rattle.chart_svg.specs.Pages.{shown_words}
use Rattle.chart_svg.proofs.frame.priority.Goals as goal

pub returns : goal.returns
returns c = λ picture on step is.
    let at = rw c.deref.ensures.value at c.in-Some.ensures.value in
    let words = c.in_ok-words.words.items in
    within _ _ _ on (begins _ _ [] (ap (λ p. p ++ []) (ap (λ y. words_bytes (codes "gray") 24 y words)
    (c.plus.ensures ∙ ap (λ y. pixels (y + 20)) c.line.ensures)
    ∙ ap (words_bytes (codes "gray") 24 _) (c.in_ok-words.ensures ∙ c.shown_prio.ensures
    ∙ ap (λ (s : PrioSpan). shown_words c.args.lane.now.strip s) (same_Some c.in-Some.step.now step (at ∙ is))))))
