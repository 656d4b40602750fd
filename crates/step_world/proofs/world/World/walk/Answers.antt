use Rattle.step_world.proofs.Names.{ap}
use Rattle.step_world.proofs.world.World.walk.Goals as goal

pub returns : goal.returns
returns c r h = ap (λ x. x.walk) (h.shows.shows.threads.thread c.args.t.0 c.thread.result.now c.thread.ensures).columns
