use Rattle.std.proofs.Common.{◌≡◌, ◌∙◌, ◌+◌, ap, refl, false, Some, None}
use Rattle.chart_svg.proofs.Room.{fits_lent}
use Rattle.chart_svg.specs.Drawn.{pixels}
use Rattle.chart_svg.proofs.page.LaneBand.put_strip.Goals as goal

pub returns-then-changes-clause-fits : goal.returns-then-changes-clause-fits
returns-then-changes-clause-fits c =
    fits_lent c.args.page.now.prios.items _ c.bars_end-end.result c.plus.result c.requires.begins c.requires.begin_fits
    c.bars_end-end.ensures refl c.plus.ensures
    (c.plus-self.ensures ∙ ap (λ n. pixels (n + 27))
    (c.plus-then-changes.ensures ∙ ap (λ n. pixels (c.bars_end-end.result.0 + n)) c.strip_height.ensures))

pub returns-then-changes-clause-flat : goal.returns-then-changes-clause-flat
returns-then-changes-clause-flat c = (
  λ none. (let has : Some c.plus.result ≡ None = none in absurd cc),
  λ same. (let no : c.changes.result ≡ false = c.changes.ensures.1 same in absurd cc),
)

pub returns-else-changes-clause-flat : goal.returns-else-changes-clause-flat
returns-else-changes-clause-flat c = (λ none. c.changes.ensures.0 c.if-changes.false, λ same. refl)
