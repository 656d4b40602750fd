use Rattle.std.proofs.Common.{arith}
use Rattle.std.proofs.lemmas.Grind.{common_steps}
use Rattle.chart_top.proofs.drawing.draw_chart.Goals as goal

pub returns-clause-picture : goal.returns-clause-picture
returns-clause-picture g c = record {
  rows = c.args.rows.now;
  run = c.requires.run;
  chart = c.args.chart.now;
  shows = c.requires.shows;
  first = c.requires.first;
  last = c.requires.last;
  rendered = rw (c.of-heading.ensures.title, c.of-heading.ensures.subtitle, c.deref.ensures, c.in_ok-plain.ensures)
      at c.in_ok-text.ensures;
}

pub returns-clause-long : goal.returns-clause-long
returns-clause-long g c = record { rows = c.args.rows.now; run = c.requires.run; is = grind (arith, common_steps) }
