use Rattle.step_world.proofs.Names.{config_of, lines_of}
use Rattle.step_world.proofs.Outcomes.{all_short, lines_are}
use Rattle.step_world.proofs.Telling.{lines_told}
use Rattle.step_world.proofs.world.World.queues.Goals as goal

pub queue_lines-requires-clause-short : goal.queue_lines-requires-clause-short
queue_lines-requires-clause-short c =
    let w = c.self.inside in
    let r = c.self.invariant.run in
    all_short w.plan.now w.machine r.0 r.1.shows r.1.on_track.lawful.lawful

pub returns : goal.returns
returns c =
    let w = c.self.inside in
    rw (← c.self.view_is)
    (lines_told c.queue_lines.result (record { plan = w.plan.now; chains = w.chains; machine = w.machine })
    (lines_of w.chains (config_of w.plan.now) w.machine) c.queue_lines.ensures
    (λ r h. lines_are w.plan.now w.chains w.machine r h.shows))
