use Rattle.std.proofs.Common.{◌∙◌, sym}
use Rattle.std.proofs.lemmas.Option.{same_Some}
use Rattle.chart_svg.proofs.page.LaneBand.changes.Goals as goal

pub returns-in-Some : goal.returns-in-Some
returns-in-Some c =
    let at = rw c.deref.ensures.value at c.in-Some.ensures.value in (
      λ no other is. rw (same_Some other c.in-Some.first.now (sym is ∙ sym at))
          (rw c.deref-in-Some.ensures.value at (c.differ.ensures.0 no)),
      λ same. c.differ.ensures.1 (rw c.deref-in-Some.ensures.value (same c.in-Some.first.now (sym at))),
    )
