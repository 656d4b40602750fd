use Rattle.std.proofs.Common.{◌∙◌, ap, sym}
use Rattle.std.proofs.lemmas.Option.{same_Some}
use Rattle.chart_layout.specs.declared.layout.Lane.{Lane as ChartLane}
use Rattle.chart_svg.proofs.page.Page.lane.Goals as goal

pub returns-clause-lane : goal.returns-clause-lane
returns-clause-lane c = record {
  fits = c.put_strip.ensures.fits;
  thread = λ own of. ap (λ l. l.thread) c.put_strip.ensures.same
      ∙ ap (λ (l : ChartLane). l.thread) (same_Some c.args.own.now own (sym c.requires.own ∙ of));
  bars = rw (ap (λ l. l.bars) c.put_strip.ensures.same)
      (rw (c.deref.ensures.value, c.in_ok-bars_of.ensures) at c.in_ok-bars.ensures);
  steps = ap (λ l. l.steps.items) c.put_strip.ensures.same ∙ c.in_ok-steps_of.ensures;
  flat = c.put_strip.ensures.flat;
}
