use Rattle.script_laws.proofs.Accepted.{accepted_proper}
use Rattle.chart_top.proofs.top.show.Goals as goal

pub draw-requires-clause-proper : goal.draw-requires-clause-proper
draw-requires-clause-proper g c = accepted_proper _ c.in-Ok-read_script.plan c.in-Ok-read_script.ensures.accepted
