use Rattle.chart_svg.proofs.arrows.tip_of.Goals as goal

pub returns-in-Lends-Some : goal.returns-in-Lends-Some
returns-in-Lends-Some c =
    rw c.prio_at.ensures (c.requires.strip c.in-Lends-Some.strip c.in-Lends-Some.prio.0 c.in-Lends-Some.is-1)
