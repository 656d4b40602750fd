use Rattle.step_world.proofs.Names.{ap}
use Rattle.std.proofs.Common.{◌∙◌}
use Rattle.step_world.proofs.world.World.blocked_on.Goals as goal

pub returns : goal.returns
returns c r h = c.on.ensures ∙ ap (λ x. x.on) c.deref.ensures ∙ ap (λ x. x.its_record.blocked_on)
    (h.shows.shows.threads.thread c.args.t.0 c.thread.result.now c.thread.ensures).columns
