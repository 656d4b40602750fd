use Rattle.chart_svg.proofs.page.Page.make.Goals as goal

pub put_lanes-requires-clause-prios : goal.put_lanes-requires-clause-prios
put_lanes-requires-clause-prios c = rw c.as_slice-2.ensures at c.in_ok-prios_of.ensures
