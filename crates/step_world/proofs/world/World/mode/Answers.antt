use Rattle.step_world.proofs.Names.{ap}
use Rattle.std.proofs.Common.{◌∙◌}
use Rattle.step_world.proofs.world.World.mode.Goals as goal

pub returns : goal.returns
returns c r h = c.mode.ensures
    ∙ ap (λ x. x.held c.args.l.0) (h.shows.shows.threads.thread c.args.t.0 c.thread.result.now c.thread.ensures).columns
