use Rattle.std.proofs.Common.{refl}
use Rattle.run_chart.proofs.charting.chart.Goals as goal

pub returns : goal.returns
returns c =
    let drawn = c.in_ok-drawn.ensures in
    let shown = c.in_ok-shown.ensures in
    rw (
      c.from_vec.ensures,
      c.from_vec-2.ensures,
      c.from_vec-3.ensures,
      c.from_vec-4.ensures,
      c.from_vec-5.ensures,
      c.from_vec-6.ensures,
      c.as_slice.ensures,
    ) (record {
      first = refl;
      last = refl;
      turns = refl;
      shows = record {
        lanes = drawn.lanes;
        bars = λ t n l row. drawn.bars.says t n row.0 row.1 l;
        bars_within = drawn.bars.within;
        steps = λ t n l row. drawn.steps.says t n row.0 row.1 l;
        steps_within = drawn.steps.within;
        arrows = shown.arrows;
        marks = shown.marks;
        sentences = shown.sentences;
        ended = c.in_ok-end.ensures;
      };
    })
